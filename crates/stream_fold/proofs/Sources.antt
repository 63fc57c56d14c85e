-- What a source holds, as its copy and its origin grow.
use Rattle.std.proofs.Common.{◌≡◌, ℕ, zero, suc, ◌+◌, ◌-◌, ◌<◌, ◌≤◌, max, List, [], ◌∷◌, ◌++◌, length, Option, Some, None, refl, sym, ap, ◌∙◌, subst, arith, ◌⊎◌, inl, inr, append_assoc, append-nil}
use Rattle.std.specs.Prelude.{map, All, Contains, slice_index_or}
use Rattle.std.proofs.lemmas.Bool.{cases_lt, eq-eqb, ne_eqb}
use Rattle.std.proofs.lemmas.List.Elements.{All-append, All-nil, Contains-append_left, Contains-append_right}
use Rattle.nats_text.specs.declared.message.Message.{Message}
use Rattle.nats_text.specs.declared.message.Start.{Start}
use Rattle.nats_text.specs.declared.message.Start.TheVariants.{Seq, Time}
use Rattle.nats_text.specs.declared.origin.Origin.{Origin}
use Rattle.stream_fold.specs.declared.config.Copies.{Copies}
use Rattle.stream_fold.specs.declared.entry.BoundTo.{BoundTo}
use Rattle.stream_fold.specs.declared.entry.Entry.{Entry}
use Rattle.stream_fold.specs.declared.entry.Entry.TheVariants.{Put, Del, Purge, Expire, Bind, Limits}
use Rattle.stream_fold.specs.Histories.{History, Folded, with_entry, either, put, last, number_put, limits_after, stands, NumbersRise, IsHole}
use Rattle.stream_fold.specs.RowLists.{Rises}
use Rattle.stream_fold.specs.Sourcing.{via}
use Rattle.stream_fold.specs.Copying.{bound, bound_by, binding_at, configured, start_of, origin_named, copy_start, last_mark, mark_by, mark_or, mark, Stored, stored, stored_by, stored_under, marks, Follows, FollowFrom, NumbersFollow, IsVia, SourceHolds, PassesBy, AreHolesBetween}
use Rattle.stream_fold.specs.Fits.{Fits}
use Rattle.stream_fold.proofs.Folds.{stands-push}
use Rattle.stream_fold.proofs.Growth.{put-stays, put-back, put-below}
use Rattle.stream_fold.proofs.Mirrors.{hole-on}
use Rattle.stream_fold.proofs.Stepping.{bound-push, either-None}

-- ---- marks and the mark

-- the least number that may come behind numbers that rise
abbrev next_after : ℕ → List ℕ → ℕ
next_after low [] = low
next_after low (x ∷ xs) = next_after (suc x) xs

rises-push : (low x : ℕ) (xs : List ℕ) → Rises low xs → next_after low xs ≤ x → Rises low (xs ++ x ∷ [])
rises-push low x [] h le = (le, tt)
rises-push low x (y ∷ xs) h le = (h.0, rises-push (suc y) x xs h.1 le)

next-push : (low x : ℕ) (xs : List ℕ) → next_after low (xs ++ x ∷ []) ≡ suc x
next-push low x [] = refl
next-push low x (y ∷ xs) = next-push (suc y) x xs

marks-push : (xs : List Stored) (s : Stored) → map (λ (s : Stored). s.mark) (xs ++ s ∷ []) ≡ map (λ (s : Stored). s.mark) xs ++ s.mark ∷ []
marks-push [] s = refl
marks-push (x ∷ xs) s = ap (λ l. x.mark ∷ l) (marks-push xs s)

mark_or-either : (l : Option ℕ) (x start : ℕ) → mark_or l (suc x - 1) ≡ mark_or (either l (Some x)) (start - 1)
mark_or-either None x start = omega arith
mark_or-either (Some y) x start = refl

next-step : (o : Option ℕ) (m : Message) (l : Option ℕ) (xs : List Stored) (start : ℕ) → 1 ≤ start → ((n : ℕ) → 1 ≤ n → next_after n (map (λ (s : Stored). s.mark) xs) ≡ suc (mark_or l (n - 1))) → next_after start (map (λ (s : Stored). s.mark) (stored_under o m ++ xs)) ≡ suc (mark_or (either l o) (start - 1))
next-step None m l xs start pos ih = ih start pos ∙ ap (λ k. suc (mark_or k (start - 1))) (sym (either-None l))
next-step (Some x) m l xs start pos ih = ih (suc x) (omega arith) ∙ ap suc (mark_or-either l x start)

next-none : (l : Option ℕ) (n start : ℕ) → n ≡ suc (mark_or l (start - 1)) → n ≡ suc (mark_or (either l None) (start - 1))
next-none l n start e = e ∙ ap (λ k. suc (mark_or k (start - 1))) (sym (either-None l))

-- the mark is the last of the marks, or the number before the start
next-mark : (index : ℕ) (es : List Entry) (start : ℕ) → 1 ≤ start → next_after start (marks index es) ≡ suc (mark_or (last_mark index es) (start - 1))
next-mark index [] start pos = omega (arith, pos)
next-mark index (Put number message m ∷ es) start pos = next-step (mark_by index m) message (last_mark index es) (stored index es) start pos (λ n p. next-mark index es n p)
next-mark index (Del number ∷ es) start pos = next-none (last_mark index es) _ start (next-mark index es start pos)
next-mark index (Purge pattern below ∷ es) start pos = next-none (last_mark index es) _ start (next-mark index es start pos)
next-mark index (Expire now ∷ es) start pos = next-none (last_mark index es) _ start (next-mark index es start pos)
next-mark index (Bind other incarnation from ∷ es) start pos = next-none (last_mark index es) _ start (next-mark index es start pos)
next-mark index (Limits config ∷ es) start pos = next-none (last_mark index es) _ start (next-mark index es start pos)

configured-positive : (start : Start) → 1 ≤ configured start
configured-positive (Seq n) = omega arith
configured-positive (Time moment) = omega arith

start_of-positive : (b : Option BoundTo) (o : Option Origin) → 1 ≤ start_of b o
start_of-positive b None = omega arith
start_of-positive None (Some origin) = configured-positive origin.start
start_of-positive (Some to) (Some origin) = omega arith

-- the number behind the mark of a copy
next-of : (index : ℕ) (h : History) → next_after (copy_start index h) (marks index h.entries) ≡ suc (mark index h)
next-of index h = next-mark index h.entries (copy_start index h) (start_of-positive (bound index h.entries) (origin_named index (stands h).limits.copies))

tops : (xs : List Stored) (low top : ℕ) → All (λ (s : Stored). s.mark ≤ top) xs → next_after low (map (λ (s : Stored). s.mark) xs) ≤ max low (suc top)
tops [] low top h = omega arith
tops (x ∷ xs) low top h =
    let here : x.mark ≤ top = h 0 x (omega arith) in
    let ih = tops xs (suc x.mark) top (λ k d lt. h (suc k) d (omega (arith, lt))) in
    omega (arith, here, ih)

-- the numbers from the start to the mark were reached in the origin
reached : (want : Origin) (origin copy : History) (index seq : ℕ) → SourceHolds want origin copy index → copy_start index copy ≤ seq → seq ≤ mark index copy → seq ≤ last origin.entries
reached want origin copy index seq holds low high =
    let top : next_after (copy_start index copy) (marks index copy.entries) ≤ max (copy_start index copy) (suc (last origin.entries)) =
    tops (stored index copy.entries) (copy_start index copy) (last origin.entries)
    (λ k d lt. let v = holds.each k d lt in put-below origin.entries _ v.message v.there) in
    omega (arith, top, next-of index copy, low, high)

-- a source outlasts what is put into its origin
pub source-outlasts : (want : Origin) (origin copy : History) (index : ℕ) (e : Entry) → NumbersRise (with_entry origin e).entries → SourceHolds want origin copy index → SourceHolds want (with_entry origin e) copy index
source-outlasts want origin copy index e rise holds = record {
  rise = holds.rise;
  follow = holds.follow;
  each = λ k d lt. let v = holds.each k d lt in record { message = v.message; there = put-stays origin.entries (e ∷ []) _ v.message v.there; made = v.made };
  left_out = λ seq message made low high there is.
      let back = put-back origin.entries (e ∷ []) seq message rise (reached want origin copy index seq holds low high) there in
      elim (holds.left_out seq message made low high back is) [
        | inl some ↦ inl some
        | inr hole ↦ inr (hole-on origin e seq rise hole)
      ];
}

-- ---- the copy grows

stored-append : (index : ℕ) (xs ys : List Entry) → stored index (xs ++ ys) ≡ stored index xs ++ stored index ys
stored-append index [] ys = refl
stored-append index (x ∷ xs) ys = ap (λ l. stored_by index x ++ l) (stored-append index xs ys) ∙ sym (append_assoc (stored_by index x) (stored index xs) (stored index ys))

stored-push : (index : ℕ) (es : List Entry) (e : Entry) → stored index (es ++ e ∷ []) ≡ stored index es ++ stored_by index e
stored-push index es e = stored-append index es (e ∷ []) ∙ ap (λ l. stored index es ++ l) (append-nil (stored_by index e))

follow-push : (es : List Entry) (e : Entry) (low : ℕ) → FollowFrom low es → Follows (max low (last es)) e → FollowFrom low (es ++ e ∷ [])
follow-push [] e low h f = (subst (λ l. Follows l e) (let q : max low 0 ≡ low = omega arith in q) f, tt)
follow-push (x ∷ es) e low h f = (
  h.0,
  follow-push es e (max low (number_put x)) h.1
      (subst (λ l. Follows l e) (let q : max low (max (number_put x) (last es)) ≡ max (max low (number_put x)) (last es) = omega arith in q) f),
)

follow-on : (h : History) (e : Entry) → NumbersFollow h.entries → Follows (last h.entries) e → NumbersFollow (with_entry h e).entries
follow-on h e follow next = follow-push h.entries e 0 follow (subst (λ l. Follows l e) (let q : last h.entries ≡ max 0 (last h.entries) = omega arith in q) next)

-- the start stays with an entry that neither binds the index nor changes what is copied
start-same : (index : ℕ) (h : History) (e : Entry) → binding_at index (bound_by e) ≡ None → (limits_after (stands h).limits e).copies ≡ (stands h).limits.copies → copy_start index (with_entry h e) ≡ copy_start index h
start-same index h e none same =
    let bound_is : bound index (with_entry h e).entries ≡ bound index h.entries = bound-push index h.entries e ∙ (ap (either (bound index h.entries)) none ∙ either-None (bound index h.entries)) in
    let copies_are : (stands (with_entry h e)).limits.copies ≡ (stands h).limits.copies = ap (λ (k : Folded). k.limits.copies) (stands-push h e) ∙ same in
    ap (λ b. start_of b (origin_named index (stands (with_entry h e)).limits.copies)) bound_is ∙ ap (λ (c : Copies). start_of (bound index h.entries) (origin_named index c)) copies_are

copies-stay : (h : History) (e : Entry) → Fits h e → (limits_after (stands h).limits e).copies ≡ (stands h).limits.copies
copies-stay h (Put number message m) fits = refl
copies-stay h (Del number) fits = refl
copies-stay h (Purge pattern below) fits = refl
copies-stay h (Expire now) fits = refl
copies-stay h (Bind index incarnation start) fits = refl
copies-stay h (Limits config) fits = fits.copies

stored-none : (index : ℕ) (e : Entry) → PassesBy index e → stored_by index e ≡ []
stored-none index (Put number message m) pass = ap (λ o. stored_under o message) pass
stored-none index (Del number) pass = refl
stored-none index (Purge pattern below) pass = refl
stored-none index (Expire now) pass = refl
stored-none index (Bind other incarnation start) pass = refl
stored-none index (Limits config) pass = refl

bound-none : (index : ℕ) (e : Entry) → PassesBy index e → binding_at index (bound_by e) ≡ None
bound-none index (Put number message m) pass = refl
bound-none index (Del number) pass = refl
bound-none index (Purge pattern below) pass = refl
bound-none index (Expire now) pass = refl
bound-none index (Bind other incarnation start) pass = rw (ne_eqb other index pass) refl
bound-none index (Limits config) pass = refl

-- where start and marks are the same, so is the mark
mark-same : (index : ℕ) (h g : History) → copy_start index g ≡ copy_start index h → stored index g.entries ≡ stored index h.entries → mark index g ≡ mark index h
mark-same index h g starts same =
    let marks_are : next_after (copy_start index g) (marks index g.entries) ≡ next_after (copy_start index h) (marks index h.entries) =
    ap (λ (l : List Stored). next_after (copy_start index g) (map (λ (s : Stored). s.mark) l)) same ∙ ap (λ n. next_after n (marks index h.entries)) starts in
    omega (arith, marks_are, next-of index g, next-of index h)

-- an entry of the copy that is none of the index leaves what the source holds
pub source-stays : (want : Origin) (origin copy : History) (index : ℕ) (e : Entry) → Fits copy e → Follows (last copy.entries) e → PassesBy index e → SourceHolds want origin copy index → SourceHolds want origin (with_entry copy e) index
source-stays want origin copy index e fits next pass holds =
    let starts : copy_start index (with_entry copy e) ≡ copy_start index copy = start-same index copy e (bound-none index e pass) (copies-stay copy e fits) in
    let same : stored index (with_entry copy e).entries ≡ stored index copy.entries = stored-push index copy.entries e ∙ (ap (λ l. stored index copy.entries ++ l) (stored-none index e pass) ∙ append-nil (stored index copy.entries)) in
    let marks_are : marks index (with_entry copy e).entries ≡ marks index copy.entries = ap (λ (l : List Stored). map (λ (s : Stored). s.mark) l) same in
    record {
      rise = subst (λ n. Rises n (marks index (with_entry copy e).entries)) (sym starts) (subst (λ l. Rises (copy_start index copy) l) (sym marks_are) holds.rise);
      follow = follow-on copy e holds.follow next;
      each = subst (λ l. All (IsVia want origin) l) (sym same) holds.each;
      left_out = λ seq message made low high there is. subst (λ l. Contains l seq ⊎ IsHole origin seq) (sym marks_are)
          (holds.left_out seq message made (subst (λ n. n ≤ seq) starts low) (subst (λ n. seq ≤ n) (mark-same index copy (with_entry copy e) starts same) high) there is);
    }

-- so does a Bind, where nothing was stored
pub source-binds : (want : Origin) (origin copy : History) (index incarnation start : ℕ) → stored index copy.entries ≡ [] → SourceHolds want origin copy index → SourceHolds want origin (with_entry copy (Bind index incarnation start)) index
source-binds want origin copy index incarnation start none holds =
    let new : History = with_entry copy (Bind index incarnation start) in
    let still : stored index new.entries ≡ [] = stored-push index copy.entries (Bind index incarnation start) ∙ (append-nil (stored index copy.entries) ∙ none) in
    let marks_are : marks index new.entries ≡ [] = ap (λ (l : List Stored). map (λ (s : Stored). s.mark) l) still in
    let next : copy_start index new ≡ suc (mark index new) = sym (ap (λ l. next_after (copy_start index new) l) marks_are) ∙ next-of index new in
    record {
      rise = subst (λ l. Rises (copy_start index new) l) (sym marks_are) tt;
      follow = follow-on copy (Bind index incarnation start) holds.follow tt;
      each = subst (λ l. All (IsVia want origin) l) (sym still) (All-nil (IsVia want origin));
      left_out = λ seq message made low high there is. absurd (omega (arith, next, low, high));
    }

one : (P : Stored → Type 0) (x : Stored) → P x → (k : ℕ) (d : Stored) → k < length (x ∷ []) → P (slice_index_or (x ∷ []) k d)
one P x p zero d lt = p
one P x p (suc k) d lt = absurd (omega (arith, lt))

stored-own : (index seq number : ℕ) (message : Message) → stored_by index (Put number message (Some (record { index = index; seq = seq }))) ≡ (record { mark = seq; message = message }) ∷ []
stored-own index seq number message = rw (eq-eqb index index refl) refl

-- a number up to the one that is stored next
left-out-store : (want : Origin) (origin copy : History) (index seq : ℕ) → AreHolesBetween want origin (mark index copy) seq → SourceHolds want origin copy index → (k : ℕ) (m made : Message) → copy_start index copy ≤ k → k ≤ seq → put k origin.entries ≡ Some m → via want m k ≡ Some made → Contains (marks index copy.entries ++ seq ∷ []) k ⊎ IsHole origin k
left-out-store want origin copy index seq holes holds k m made low high there is = elim (cases_lt k seq) [
  | inl before ↦ (elim (cases_lt (mark index copy) k) [
    | inl new ↦ inr (holes k m made new before there is)
    | inr old ↦ (elim (holds.left_out k m made low old there is) [
      | inl some ↦ inl (Contains-append_left (marks index copy.entries) (seq ∷ []) k some)
      | inr hole ↦ inr hole
    ])
  ])
  | inr own ↦ inl (Contains-append_right (marks index copy.entries) (seq ∷ []) k (0, omega arith, (let q : seq ≡ k = omega (arith, own, high) in q)))
]

-- and so does a Put of the message that comes next
pub source-stores : (want : Origin) (origin copy : History) (index seq : ℕ) (message : Message) → mark index copy < seq → AreHolesBetween want origin (mark index copy) seq → IsVia want origin (record { mark = seq; message = message }) → SourceHolds want origin copy index → SourceHolds want origin (with_entry copy (Put (last copy.entries + 1) message (Some (record { index = index; seq = seq })))) index
source-stores want origin copy index seq message above holes via_is holds =
    let own : Stored = record { mark = seq; message = message } in
    let e : Entry = Put (last copy.entries + 1) message (Some (record { index = index; seq = seq })) in
    let new : History = with_entry copy e in
    let starts : copy_start index new ≡ copy_start index copy = start-same index copy e refl refl in
    let more : stored index new.entries ≡ stored index copy.entries ++ own ∷ [] = stored-push index copy.entries e ∙ ap (λ l. stored index copy.entries ++ l) (stored-own index seq (last copy.entries + 1) message) in
    let marks_are : marks index new.entries ≡ marks index copy.entries ++ seq ∷ [] = ap (λ (l : List Stored). map (λ (s : Stored). s.mark) l) more ∙ marks-push (stored index copy.entries) own in
    let end : next_after (copy_start index new) (marks index new.entries) ≡ suc seq = ap (λ l. next_after (copy_start index new) l) marks_are ∙ next-push (copy_start index new) seq (marks index copy.entries) in
    record {
      rise = subst (λ n. Rises n (marks index new.entries)) (sym starts) (subst (λ l. Rises (copy_start index copy) l) (sym marks_are)
          (rises-push (copy_start index copy) seq (marks index copy.entries) holds.rise (omega (arith, next-of index copy, above))));
      follow = follow-on copy e holds.follow refl;
      each = subst (λ l. All (IsVia want origin) l) (sym more) (All-append (IsVia want origin) (stored index copy.entries) (own ∷ []) holds.each (one (IsVia want origin) own via_is));
      left_out = λ k m made low high there is. subst (λ l. Contains l k ⊎ IsHole origin k) (sym marks_are)
          (left-out-store want origin copy index seq holes holds k m made (subst (λ n. n ≤ k) starts low) (omega (arith, high, end, next-of index new)) there is);
    }
