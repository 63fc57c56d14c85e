-- What holds of indexes whose rows change.
use Rattle.std.proofs.Common.{◌≡◌, ℕ, Bool, true, cond, if◌then◌else◌, not, eqb, List, [], ◌∷◌, Option, Some, None, inl, inr, refl, sym, ap, ◌∙◌}
use Rattle.std.specs.Prelude.{filter}
use Rattle.std.specs.Str.{bytes_eq}
use Rattle.std.proofs.lemmas.Bool.{cases_Bool}
use Rattle.indexed_rows.specs.Entries.{value_at}
use Rattle.indexed_rows.specs.Indexes.{Subjects, IsReady}

-- a list that changes under one subject stays that of the numbers, which change likewise
pub both_change : (F : List ℕ → List ℕ) (s s' q : List ℕ) (new old numbers numbers' : List ℕ) → s ≡ s' → old ≡ numbers → new ≡ (if bytes_eq s q then F old else old) → numbers' ≡ (if bytes_eq s' q then F numbers else numbers) → new ≡ numbers'
both_change F s s' q new old numbers numbers' same was a b =
    a ∙ (ap (λ (x : List ℕ). cond (bytes_eq x q) (F old) old) same ∙ (ap (λ (l : List ℕ). cond (bytes_eq s' q) (F l) l) was ∙ sym b))

pub ready_room : (o : Option (List ℕ)) (room room' : Bool) (subjects : Subjects) → (room ≡ true → room' ≡ true) → IsReady o room subjects → IsReady o room' subjects
ready_room None room room' subjects keeps h = tt
ready_room (Some s) room room' subjects keeps h = (keeps h.0, h.1)

pub absent_item : {V : Type 0} (n : ℕ) (items : List (ℕ × V)) → value_at n items ≡ None → filter (λ e. not (eqb e.0 n)) items ≡ items
absent_item n [] h = refl
absent_item n (e ∷ es) h = elim (cases_Bool (eqb e.0 n)) [
  | inl same ↦ absurd (let q = rw same at h in cc)
  | inr other ↦ rw other (ap (λ xs. e ∷ xs) (absent_item n es (rw other at h)))
]
