-- A copy that is bound and takes what its origin keeps has what its origin's log says.
use Rattle.std.proofs.Common.{◌≡◌, ℕ, ◌≤◌, max, List, [], ◌∷◌, ◌++◌, map, true, false, cond, ltb, Option, None, Some, inl, inr, ⊎_elim, refl, ap, ◌∙◌, arith}
use Rattle.std.specs.Prelude.{◌⊎◌}
use Rattle.std.proofs.lemmas.Bool.{lt-ltb, le-ltb, cases_lt}
use Rattle.nats_text.specs.declared.message.Message.{Message}
use Rattle.stream_fold.specs.declared.entry.Entry.{Entry}
use Rattle.stream_fold.specs.declared.entry.Entry.TheVariants.{Bind}
use Rattle.stream_fold.specs.declared.entry.Numbered.{Numbered}
use Rattle.stream_fold.specs.declared.entry.BoundTo.{BoundTo}
use Rattle.stream_fold.specs.Histories.{History, either, put, last, kept, message_at, NumbersRise}
use Rattle.stream_fold.specs.Copying.{IsStored, IsLeftOut, MirrorHolds}
use Rattle.stream_fold.proofs.Folds.{last-append}
use Rattle.stream_fold.proofs.Growth.{put-append}
use Rattle.stream_fold.proofs.KeptRows.{put-none_above}
use Rattle.leafd_cli.specs.Plain.{copied_entry, rows_past, bound_log}
use Rattle.leafd_cli.proofs.Joined.{either-none, put-rows, message_at-past, message_at-kept, HasAll-kept, last-taken}

-- the log of a copy that is bound and takes rows
abbrev pub fed_log : Option BoundTo → List Entry → List Numbered → List Entry
fed_log bound copy rows = bound_log bound copy ++ map copied_entry rows

put-bound_log : (bound : Option BoundTo) (copy : List Entry) (seq : ℕ) → put seq (bound_log bound copy) ≡ put seq copy
put-bound_log None copy seq = put-append copy (Bind 0 1 1 ∷ []) seq ∙ either-none (put seq copy)
put-bound_log (Some to) copy seq = refl

last-bound_log : (bound : Option BoundTo) (copy : List Entry) → last (bound_log bound copy) ≡ last copy
last-bound_log None copy = omega (arith, last-append copy (Bind 0 1 1 ∷ []))
last-bound_log (Some to) copy = refl

-- what is put under a number: what was there, or a row past the last
pub put-fed : (bound : Option BoundTo) (copy : List Entry) (rows : List Numbered) (seq : ℕ) → put seq (fed_log bound copy (rows_past (last copy) rows)) ≡ either (put seq copy) (cond (ltb (last copy) seq) (message_at seq rows) None)
put-fed bound copy rows seq =
    put-append (bound_log bound copy) (map copied_entry (rows_past (last copy) rows)) seq ∙
    (ap (λ o. either o (put seq (map copied_entry (rows_past (last copy) rows)))) (put-bound_log bound copy seq) ∙
    ap (λ o. either (put seq copy) o) (put-rows seq (rows_past (last copy) rows) ∙ message_at-past (last copy) seq rows))

pub last-fed : (bound : Option BoundTo) (copy : List Entry) (rows : List Numbered) → last (fed_log bound copy rows) ≡ max (last copy) (last (map copied_entry rows))
last-fed bound copy rows = omega (arith, last-append (bound_log bound copy) (map copied_entry rows), last-bound_log bound copy)

new_number : (origin : History) (copy : List Entry) (seq : ℕ) (o : Option Message) → NumbersRise origin.entries → message_at seq (kept origin) ≡ o → put seq copy ≡ o → 1 ≤ seq → seq ≤ last origin.entries → IsStored origin copy seq ⊎ IsLeftOut origin copy seq
new_number origin copy seq None rise there here low high = inr (record { here = here; hole = record { positive = low; reached = high; gone = there } })
new_number origin copy seq (Some m) rise there here low high = inl (record { message = m; here = here; there = message_at-kept origin seq m rise there })

old_number : (origin : History) (copy new : List Entry) (seq : ℕ) → put seq new ≡ put seq copy → IsStored origin copy seq ⊎ IsLeftOut origin copy seq → IsStored origin new seq ⊎ IsLeftOut origin new seq
old_number origin copy new seq e (inl s) = inl (record { message = s.message; here = e ∙ s.here; there = s.there })
old_number origin copy new seq e (inr s) = inr (record { here = e ∙ s.here; hole = s.hole })

-- what holds up to the last number holds after a feed
pub MirrorHolds-fed : (bound : Option BoundTo) (origin : History) (copy : List Entry) → NumbersRise origin.entries → ((seq : ℕ) → 1 ≤ seq → seq ≤ last copy → IsStored origin copy seq ⊎ IsLeftOut origin copy seq) → put 0 copy ≡ None → MirrorHolds origin (fed_log bound copy (rows_past (last copy) (kept origin))) 1
MirrorHolds-fed bound origin copy rise each none =
    let new : List Entry = fed_log bound copy (rows_past (last copy) (kept origin)) in
    let taken = last-taken (last origin.entries) (last copy) (kept origin) (HasAll-kept origin) in
    record {
      below = λ seq h.
          let zero_is : seq ≡ 0 = omega arith in
          let low : ltb (last copy) seq ≡ false = le-ltb (last copy) seq (omega arith) in
          let old : put seq copy ≡ None = rw zero_is none in
          put-fed bound copy (kept origin) seq ∙ rw (low, old) refl;
      each = λ seq low high.
          ⊎_elim
          (λ above.
          let t : ltb (last copy) seq ≡ true = lt-ltb (last copy) seq above in
          let past : put seq copy ≡ None = put-none_above copy seq above in
          let here : put seq new ≡ message_at seq (kept origin) = put-fed bound copy (kept origin) seq ∙ rw (t, past) refl in
          new_number origin new seq (message_at seq (kept origin)) rise refl here low (omega (arith, last-fed bound copy (rows_past (last copy) (kept origin)), taken)))
          (λ within.
          let f : ltb (last copy) seq ≡ false = le-ltb (last copy) seq within in
          let same : put seq new ≡ put seq copy = put-fed bound copy (kept origin) seq ∙ (rw f refl ∙ either-none (put seq copy)) in
          old_number origin copy new seq same (each seq low within))
          (cases_lt (last copy) seq);
    }
