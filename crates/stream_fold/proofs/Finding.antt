-- Rows that rise, found by their numbers.
use Rattle.std.proofs.Common.{◌≡◌, ℕ, zero, suc, ◌<◌, ◌≤◌, Bool, true, false, cond, ltb, List, [], ◌∷◌, Some, None, length, get_or, drop, refl, sym, ap, ◌∙◌, arith}
use Rattle.std.proofs.lemmas.Bool.{lt-ltb, le-ltb, ltb-true, ltb-false, ne_eqb, lt-leb}
use Rattle.std.specs.List.Sorted.{IsNonDecreasingBy}
use Rattle.std.specs.Prelude.{slice_get}
use Rattle.std.proofs.lemmas.Option.{same_Some}
use Rattle.stream_fold.specs.declared.entry.Numbered.{Numbered}
use Rattle.stream_fold.specs.Histories.{message_at}
use Rattle.stream_fold.specs.Publishing.{next_match}
use Rattle.stream_fold.specs.RowLists.{Rises, seqs, from_number}

above : (low : ℕ) (rows : List Numbered) (k : ℕ) (d : Numbered) → Rises low (seqs rows) → k < length rows → low ≤ (get_or rows k d).seq
above low [] k d h lt = absurd (omega (arith, lt))
above low (row ∷ rows) zero d h lt = h.0
above low (row ∷ rows) (suc k) d h lt = let q = above (suc row.seq) rows k d h.1 (omega (arith, lt)) in omega (arith, q, h.0)

-- the numbers don't fall
pub never_falls : (low : ℕ) (rows : List Numbered) → Rises low (seqs rows) → IsNonDecreasingBy (λ (row : Numbered). row.seq) rows
never_falls low [] h i j d le lt = absurd (omega (arith, lt))
never_falls low (row ∷ rows) h zero zero d le lt = omega arith
never_falls low (row ∷ rows) h zero (suc j) d le lt = let q = above (suc row.seq) rows j d h.1 (omega (arith, lt)) in omega (arith, q)
never_falls low (row ∷ rows) h (suc i) zero d le lt = absurd (omega (arith, le))
never_falls low (row ∷ rows) h (suc i) (suc j) d le lt = never_falls (suc row.seq) rows h.1 i j d (omega (arith, le)) (omega (arith, lt))

-- the rows behind those of lower numbers
pub drop_lower : (seq : ℕ) (rows : List Numbered) (i : ℕ) → i ≤ length rows → ((k : ℕ) (d : Numbered) → k < i → (get_or rows k d).seq < seq) → ((d : Numbered) → i < length rows → seq ≤ (get_or rows i d).seq) → drop i rows ≡ from_number seq rows
drop_lower seq [] zero le low high = refl
drop_lower seq [] (suc i) le low high = absurd (omega (arith, le))
drop_lower seq (row ∷ rows) zero le low high = rw (le-ltb row.seq seq (high row (omega arith))) refl
drop_lower seq (row ∷ rows) (suc i) le low high =
    rw (lt-ltb row.seq seq (low 0 row (omega arith)))
    (drop_lower seq rows i (omega (arith, le)) (λ k d lt. low (suc k) d (omega (arith, lt))) (λ d lt. high d (omega (arith, lt))))

-- no row of a number below all of them
none_lower : (seq low : ℕ) (rows : List Numbered) → Rises low (seqs rows) → seq < low → message_at seq rows ≡ None
none_lower seq low [] h lt = refl
none_lower seq low (row ∷ rows) h lt = rw (ne_eqb row.seq seq (omega (arith, h.0, lt))) (none_lower seq (suc row.seq) rows h.1 (omega (arith, h.0, lt)))

from-step : (seq : ℕ) (row : Numbered) (rows : List Numbered) (b : Bool) → ltb row.seq seq ≡ b → (message_at seq (from_number seq rows) ≡ message_at seq rows) → message_at seq (cond b (from_number seq rows) (row ∷ rows)) ≡ message_at seq (row ∷ rows)
from-step seq row rows true e ih = let lt = ltb-true row.seq seq e in rw (ne_eqb row.seq seq (omega (arith, lt))) ih
from-step seq row rows false e ih = refl

-- a number is to be found from it on
pub found_from : (seq : ℕ) (rows : List Numbered) → message_at seq (from_number seq rows) ≡ message_at seq rows
found_from seq [] = refl
found_from seq (row ∷ rows) = from-step seq row rows (ltb row.seq seq) refl (found_from seq rows)

rises-step : (seq : ℕ) (row : Numbered) (rows : List Numbered) (b : Bool) → ltb row.seq seq ≡ b → Rises (suc row.seq) (seqs rows) → Rises seq (seqs (from_number seq rows)) → Rises seq (seqs (cond b (from_number seq rows) (row ∷ rows)))
rises-step seq row rows true e h ih = ih
rises-step seq row rows false e h ih = (ltb-false row.seq seq e, h)

-- the rows from a number on have no lower one
pub Rises-from : (seq low : ℕ) (rows : List Numbered) → Rises low (seqs rows) → Rises seq (seqs (from_number seq rows))
Rises-from seq low [] h = tt
Rises-from seq low (row ∷ rows) h = rises-step seq row rows (ltb row.seq seq) refl h.1 (Rises-from seq (suc row.seq) rows h.1)

-- where the first row has another number, and none is lower, none has it
pub none_first : (seq : ℕ) (rows : List Numbered) (row : Numbered) → Rises seq (seqs rows) → slice_get rows 0 ≡ Some row → ¬ (row.seq ≡ seq) → message_at seq rows ≡ None
none_first seq [] row h first other = refl
none_first seq (r ∷ rows) row h first other =
    let is : r.seq ≡ row.seq = ap (λ (x : Numbered). x.seq) (same_Some r row first) in
    let ne : ¬ (r.seq ≡ seq) = λ e. other (sym is ∙ e) in
    rw (ne_eqb r.seq seq ne) (none_lower seq (suc r.seq) rows h.1 (omega (arith, h.0, ne)))

next-step : (seq : ℕ) (filters : List (List ℕ)) (row : Numbered) (rows : List Numbered) (b : Bool) → ltb row.seq seq ≡ b → next_match seq filters (from_number seq rows) ≡ next_match seq filters rows → next_match seq filters (cond b (from_number seq rows) (row ∷ rows)) ≡ next_match seq filters (row ∷ rows)
next-step seq filters row rows true e ih = rw (lt-leb seq row.seq (ltb-true row.seq seq e)) ih
next-step seq filters row rows false e ih = refl

-- the next match of a number is to be found from it on
pub next_from : (seq : ℕ) (filters : List (List ℕ)) (rows : List Numbered) → next_match seq filters (from_number seq rows) ≡ next_match seq filters rows
next_from seq filters [] = refl
next_from seq filters (row ∷ rows) = next-step seq filters row rows (ltb row.seq seq) refl (next_from seq filters rows)
