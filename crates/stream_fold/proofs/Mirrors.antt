-- What a mirror holds, as it and its origin grow.
use Rattle.std.proofs.Common.{◌≡◌, ◌≢◌, ℕ, ◌+◌, ◌<◌, ◌≤◌, max, List, [], ◌∷◌, ◌++◌, Option, Some, None, refl, sym, ap, ◌∙◌, subst, arith, ◌⊎◌, inl, inr}
use Rattle.std.proofs.lemmas.Bool.{cases_lt, eq-eqb, ne_eqb}
use Rattle.std.proofs.lemmas.Option.{none-some}
use Rattle.nats_text.specs.declared.message.Message.{Message}
use Rattle.stream_fold.specs.declared.entry.Entry.{Entry}
use Rattle.stream_fold.specs.declared.entry.Entry.TheVariants.{Put, Del, Purge, Expire, Bind, Limits}
use Rattle.stream_fold.specs.declared.entry.Numbered.{Numbered}
use Rattle.stream_fold.specs.Histories.{History, with_entry, either, put, put_by, last, number_put, kept, NumbersRise, IsHole}
use Rattle.stream_fold.specs.Copying.{IsStored, IsLeftOut, MirrorHolds, IsNoPut, AreHolesFrom}
use Rattle.stream_fold.proofs.Folds.{last-push}
use Rattle.stream_fold.proofs.Growth.{put-append, put-stays, put-below}
use Rattle.stream_fold.proofs.KeptRows.{EachRow-weaker, IsHole-stays, kept-put, message_at-none, put-none_above}
use Rattle.stream_fold.proofs.Stepping.{either-None}

-- a hole outlasts what is put into a history
pub hole-on : (h : History) (e : Entry) (seq : ℕ) → NumbersRise (with_entry h e).entries → IsHole h seq → IsHole (with_entry h e) seq
hole-on h e seq rise hole = IsHole-stays h.config h.entries (e ∷ []) seq rise hole

-- a mirror outlasts what is put into its origin
pub mirror-outlasts : (origin : History) (copy : List Entry) (start : ℕ) (e : Entry) → NumbersRise (with_entry origin e).entries → MirrorHolds origin copy start → MirrorHolds (with_entry origin e) copy start
mirror-outlasts origin copy start e rise holds = record {
  below = holds.below;
  each = λ seq low high. elim (holds.each seq low high) [
    | inl s ↦ inl (record { message = s.message; here = s.here; there = put-stays origin.entries (e ∷ []) seq s.message s.there })
    | inr l ↦ inr (record { here = l.here; hole = hole-on origin e seq rise l.hole })
  ];
}

put_by-none : (e : Entry) (seq : ℕ) → IsNoPut e → put_by seq e ≡ None
put_by-none (Put number message mark) seq none = absurd none
put_by-none (Del number) seq none = refl
put_by-none (Purge pattern below) seq none = refl
put_by-none (Expire now) seq none = refl
put_by-none (Bind index incarnation start) seq none = refl
put_by-none (Limits config) seq none = refl

number-none : (e : Entry) → IsNoPut e → number_put e ≡ 0
number-none (Put number message mark) none = absurd none
number-none (Del number) none = refl
number-none (Purge pattern below) none = refl
number-none (Expire now) none = refl
number-none (Bind index incarnation start) none = refl
number-none (Limits config) none = refl

-- an entry that puts nothing under a number leaves what is put there
put-past : (es : List Entry) (e : Entry) (seq : ℕ) → put_by seq e ≡ None → put seq (es ++ e ∷ []) ≡ put seq es
put-past es e seq none = put-append es (e ∷ []) seq ∙ (ap (λ o. either (put seq es) (either o None)) none ∙ either-None (put seq es))

-- what stands at a number of the copy stands there where the copy puts the same
same-number : (origin : History) (copy new : List Entry) (seq : ℕ) → put seq new ≡ put seq copy → IsStored origin copy seq ⊎ IsLeftOut origin copy seq → IsStored origin new seq ⊎ IsLeftOut origin new seq
same-number origin copy new seq e (inl s) = inl (record { message = s.message; here = e ∙ s.here; there = s.there })
same-number origin copy new seq e (inr s) = inr (record { here = e ∙ s.here; hole = s.hole })

-- an entry that is no Put leaves what a mirror holds
pub mirror-stays : (origin : History) (copy : List Entry) (start : ℕ) (e : Entry) → IsNoPut e → MirrorHolds origin copy start → MirrorHolds origin (copy ++ e ∷ []) start
mirror-stays origin copy start e none holds = record {
  below = λ seq low. put-past copy e seq (put_by-none e seq none) ∙ holds.below seq low;
  each = λ seq low high. same-number origin copy (copy ++ e ∷ []) seq (put-past copy e seq (put_by-none e seq none))
      (holds.each seq low (omega (arith, high, last-push copy e, number-none e none)));
}

-- a number that was reached and under which nothing was put is a hole
never-put : (h : History) (seq : ℕ) → NumbersRise h.entries → 1 ≤ seq → seq ≤ last h.entries → put seq h.entries ≡ None → IsHole h seq
never-put h seq rise low high none = record {
  positive = low;
  reached = high;
  gone = message_at-none (kept h) seq (EachRow-weaker (λ (r : Numbered). put r.seq h.entries ≡ Some r.message) (λ (r : Numbered). r.seq ≢ seq)
      (λ r was same. none-some r.message (sym none ∙ (sym (ap (λ n. put n h.entries) same) ∙ was))) (kept h) (kept-put h rise));
}

-- a number below one that was put
hole-before : (h : History) (low seq high : ℕ) (m : Message) (o : Option Message) → put seq h.entries ≡ o → NumbersRise h.entries → AreHolesFrom h low high → put high h.entries ≡ Some m → 1 ≤ seq → low ≤ seq → seq < high → IsHole h seq
hole-before h low seq high m None is rise holes there some from before = never-put h seq rise some (let q = put-below h.entries high m there in omega (arith, q, before)) is
hole-before h low seq high m (Some x) is rise holes there some from before = holes seq x from before is

-- so does a Put of the message that comes next
pub mirror-stores : (origin : History) (copy : List Entry) (start seq : ℕ) (message : Message) → NumbersRise origin.entries → start ≤ seq → last copy < seq → AreHolesFrom origin (max start (last copy + 1)) seq → put seq origin.entries ≡ Some message → MirrorHolds origin copy start → MirrorHolds origin (copy ++ Put seq message None ∷ []) start
mirror-stores origin copy start seq message rise from above holes there holds =
    let new : List Entry = copy ++ Put seq message None ∷ [] in
    let own : put seq new ≡ Some message = rw (put-append copy (Put seq message None ∷ []) seq, put-none_above copy seq above, eq-eqb seq seq refl) refl in
    let others : (k : ℕ) → k < seq → put k new ≡ put k copy = λ k lt. put-past copy (Put seq message None) k (rw (ne_eqb seq k (omega (arith, lt))) refl) in
    record {
      below = λ k low. others k (omega (arith, low, from)) ∙ holds.below k low;
      each = λ k low high. elim (cases_lt k seq) [
        | inl before ↦ (elim (cases_lt (last copy) k) [
          | inl past ↦ inr (record {
            here = others k before ∙ put-none_above copy k past;
            hole = hole-before origin (max start (last copy + 1)) k seq message (put k origin.entries) refl rise holes there (omega (arith, past)) (omega (arith, low, past)) before;
          })
          | inr old ↦ same-number origin copy new k (others k before) (holds.each k low old)
        ])
        | inr at ↦ (let same : seq ≡ k = omega (arith, at, high, above, last-push copy (Put seq message None)) in
            subst (λ n. IsStored origin new n ⊎ IsLeftOut origin new n) same (inl (record { message = message; here = own; there = there })))
      ];
    }
