-- The views of a table at their places, and their shares.
use Rattle.std.proofs.Common.{◌≡◌, ◌≢◌, ◌⊎◌, ⊎_elim, inl, inr, ℕ, zero, suc, ◌+◌, ◌<◌, ◌≤◌, List, [], ◌∷◌, ◌++◌, length, refl, sym, ap, ◌∙◌, subst, arith}
use Rattle.std.specs.Prelude.{slice_set}
use mathlib.Core.Option.{some, some-injective, some-ne-none}
use mathlib.Core.Logic.{dite}
use native.Mathlib.Decide.{ℕ_discrete}
use lib.ListN.{get_elem?}
use Rattle.atomic_table.proofs.Lists.{set_else, set_here}
use Rattle.turn_lock.specs.declared.rule.View.{View}
use Rattle.turn_lock.specs.Turns.{weight, total, Has}

module _ {A : Type 0} where
  pub within : (l : List A) (i : ℕ) (a : A) → get_elem? l i ≡ some a → i < length l
  within [] i a e = absurd (some-ne-none a (sym e))
  within (x ∷ xs) zero a e = omega arith
  within (x ∷ xs) (suc i) a e = let h = within xs i a e in omega (arith, h)

  -- at_snoc of the table's Lists, with the place
  pub at_end : (l : List A) (a b : A) (j : ℕ) → get_elem? (l ++ a ∷ []) j ≡ some b → (get_elem? l j ≡ some b) ⊎ ((j ≡ length l) × (a ≡ b))
  at_end [] a b zero e = inr (refl, some-injective a b e)
  at_end [] a b (suc j) e = absurd (some-ne-none b (sym e))
  at_end (x ∷ xs) a b zero e = inl e
  at_end (x ∷ xs) a b (suc j) e = ⊎_elim (λ h. inl h) (λ h. inr (ap suc h.0, h.1)) (at_end xs a b j e)

  pub at_one : (x v : A) (i : ℕ) → get_elem? (x ∷ []) i ≡ some v → x ≡ v
  at_one x v zero e = some-injective x v e
  at_one x v (suc i) e = absurd (some-ne-none v (sym e))

module _ {S O : Type 0} where
  -- a fact that a view has is kept where it is kept at the place that changes
  pub has_set : (l : List (View S O)) (id : ℕ) (v w : View S O) (P Q : View S O → Type 0) → get_elem? l id ≡ some v
      → (P v → Q w) → ((j : ℕ) (u : View S O) → j ≢ id → get_elem? l j ≡ some u → P u → Q u) → Has l P → Has (slice_set l id w) Q
  has_set l id v w P Q here mine others (j, u, at, p) =
      dite (ℕ_discrete j id)
      (λ e. let same : u ≡ v = some-injective u v (sym at ∙ ap (get_elem? l) e ∙ here) in (id, w, set_here l id w (within l id v here), mine (subst P same p)))
      (λ ne. (j, u, set_else l id j w ne ∙ at, others j u ne at p))

  pub total_set : (d : ℕ) (l : List (View S O)) (id : ℕ) (v w : View S O) → get_elem? l id ≡ some v → total d (slice_set l id w) + weight d v ≡ total d l + weight d w
  total_set d [] id v w e = absurd (some-ne-none v (sym e))
  total_set d (x ∷ xs) zero v w e = let same : weight d x ≡ weight d v = ap (weight d) (some-injective x v e) in omega (arith, same)
  total_set d (x ∷ xs) (suc id) v w e = let h = total_set d xs id v w e in omega (arith, h)

  pub total_end : (d : ℕ) (l : List (View S O)) (w : View S O) → total d (l ++ w ∷ []) ≡ total d l + weight d w
  total_end d [] w = omega arith
  total_end d (x ∷ xs) w = let h = total_end d xs w in omega (arith, h)

  pub total_one : (d : ℕ) (l : List (View S O)) (i : ℕ) (v : View S O) → get_elem? l i ≡ some v → weight d v ≤ total d l
  total_one d [] i v e = absurd (some-ne-none v (sym e))
  total_one d (x ∷ xs) zero v e = let same : weight d x ≡ weight d v = ap (weight d) (some-injective x v e) in omega (arith, same)
  total_one d (x ∷ xs) (suc i) v e = let h = total_one d xs i v e in omega (arith, h)

  pub total_two : (d : ℕ) (l : List (View S O)) (i j : ℕ) (v w : View S O) → i ≢ j → get_elem? l i ≡ some v → get_elem? l j ≡ some w → weight d v + weight d w ≤ total d l
  total_two d [] i j v w ne e f = absurd (some-ne-none v (sym e))
  total_two d (x ∷ xs) zero zero v w ne e f = absurd (ne refl)
  total_two d (x ∷ xs) zero (suc j) v w ne e f = let same : weight d x ≡ weight d v = ap (weight d) (some-injective x v e) in let h = total_one d xs j w f in omega (arith, same, h)
  total_two d (x ∷ xs) (suc i) zero v w ne e f = let same : weight d x ≡ weight d w = ap (weight d) (some-injective x w f) in let h = total_one d xs i v e in omega (arith, same, h)
  total_two d (x ∷ xs) (suc i) (suc j) v w ne e f = let h = total_two d xs i j v w (λ q. ne (ap suc q)) e f in omega (arith, h)
