-- Lists that stand in an order, in which each item stands once.
use Rattle.std.specs.Prelude.{ℕ, List, [], ◌∷◌, Option, None, Some}
use Rattle.std.specs.Ordering.{nat_cmp}
use Rattle.std.specs.Cmp.Lexicographic.{slice_cmp}
use Rattle.std.specs.declared.cmp.Ordering.{Ordering}
use Rattle.std.specs.declared.cmp.Ordering.TheVariants.{Less, Equal, Greater}

-- the byte order of texts
abbrev pub text_cmp : List ℕ → List ℕ → Ordering
text_cmp a b = slice_cmp nat_cmp a b

-- a plain pattern stands before the groups, and these in byte order
abbrev pub queue_cmp : Option (List ℕ) → Option (List ℕ) → Ordering
queue_cmp None None = Equal
queue_cmp None (Some b) = Less
queue_cmp (Some a) None = Greater
queue_cmp (Some a) (Some b) = text_cmp a b

-- an item at its place: before the first that is greater, or in place of the one that is equal
abbrev pub placed : {A : Type 0} → (A → A → Ordering) → A → List A → List A
placed cmp x [] = x ∷ []
placed cmp x (y ∷ ys) = elim (cmp x y) [ Less ↦ x ∷ y ∷ ys | Equal ↦ x ∷ ys | Greater ↦ y ∷ placed cmp x ys ]

-- these items, one after another, at their places among those
abbrev pub placed_among : {A : Type 0} → (A → A → Ordering) → List A → List A → List A
placed_among cmp [] ys = ys
placed_among cmp (x ∷ xs) ys = placed_among cmp xs (placed cmp x ys)

-- the items in order, each once
abbrev pub in_order : {A : Type 0} → (A → A → Ordering) → List A → List A
in_order cmp xs = placed_among cmp xs []
