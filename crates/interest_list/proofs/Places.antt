-- The place of an item in an order.
use Rattle.std.proofs.Common.{◌≡◌, ℕ, ◌+◌, ◌<◌, ◌≤◌, List, [], ◌∷◌, ◌++◌, length, take, drop, get_or, sym, ap, ◌∙◌, append_assoc}
use Rattle.std.specs.Prelude.{insert, set}
use Rattle.std.specs.declared.cmp.Ordering.{Ordering}
use Rattle.std.specs.declared.cmp.Ordering.TheVariants.{Less, Equal, Greater}
use Rattle.std.proofs.lemmas.List.{drop_all, take_more, take-set, drop-set, take-append-drop}
use Rattle.interest_list.specs.Orders.{placed}
use Rattle.interest_list.proofs.Steps.{left}

module _ {X : Type 0} (cmp : X → X → Ordering) (x : X) where
  abbrev by_order : List X → X → Ordering → List X
  by_order ys y o = elim o [ Less ↦ x ∷ y ∷ ys | Equal ↦ x ∷ ys | Greater ↦ y ∷ placed cmp x ys ]

  -- the item goes before one that is greater
  pub place-less : (xs : List X) (i : ℕ) (y : X) → i < length xs → y ≡ get_or xs i y → cmp x y ≡ Less
      → take i xs ++ placed cmp x (drop i xs) ≡ placed cmp x xs → placed cmp x xs ≡ insert xs i x
  place-less xs i y lt is less so =
      let here = left xs i y lt is in
      sym so ∙ (ap (λ l. take i xs ++ placed cmp x l) here ∙ (ap (λ o. take i xs ++ by_order (drop (i + 1) xs) y o) less ∙ ap (λ l. take i xs ++ x ∷ l) (sym here)))

  -- it takes the place of one that is equal
  pub place-equal : (xs : List X) (i : ℕ) (y : X) → i < length xs → y ≡ get_or xs i y → cmp x y ≡ Equal
      → take i xs ++ placed cmp x (drop i xs) ≡ placed cmp x xs → placed cmp x xs ≡ set xs i x
  place-equal xs i y lt is equal so =
      let here = left xs i y lt is in
      let parts : take i (set xs i x) ++ drop i (set xs i x) ≡ set xs i x = take-append-drop i (set xs i x) in
      sym so ∙ (ap (λ l. take i xs ++ placed cmp x l) here ∙ (ap (λ o. take i xs ++ by_order (drop (i + 1) xs) y o) equal
      ∙ (ap (λ l. take i xs ++ l) (sym (drop-set xs i x lt)) ∙ (ap (λ l. l ++ drop i (set xs i x)) (sym (take-set xs i x)) ∙ parts))))

  -- it goes behind one that is less
  pub place-greater : (xs : List X) (i : ℕ) (y : X) → i < length xs → y ≡ get_or xs i y → cmp x y ≡ Greater
      → take i xs ++ placed cmp x (drop i xs) ≡ placed cmp x xs → take (i + 1) xs ++ placed cmp x (drop (i + 1) xs) ≡ placed cmp x xs
  place-greater xs i y lt is greater so =
      let here = left xs i y lt is in
      let more : take (i + 1) xs ≡ take i xs ++ y ∷ [] = take_more xs i y lt ∙ ap (λ (z : X). take i xs ++ z ∷ []) (sym is) in
      ap (λ l. l ++ placed cmp x (drop (i + 1) xs)) more ∙ (append_assoc (take i xs) (y ∷ []) (placed cmp x (drop (i + 1) xs))
      ∙ (ap (λ o. take i xs ++ by_order (drop (i + 1) xs) y o) (sym greater) ∙ (ap (λ l. take i xs ++ placed cmp x l) (sym here) ∙ so)))

  -- it goes to the end
  pub place-end : (xs : List X) (i : ℕ) → length xs ≤ i
      → take i xs ++ placed cmp x (drop i xs) ≡ placed cmp x xs → placed cmp x xs ≡ insert xs i x
  place-end xs i le so = sym so ∙ (ap (λ l. take i xs ++ placed cmp x l) (drop_all i xs le) ∙ ap (λ l. take i xs ++ x ∷ l) (sym (drop_all i xs le)))
