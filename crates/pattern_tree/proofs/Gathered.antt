-- What is placed in order one after another, and what it has.
use Rattle.std.proofs.Common.{◌≡◌, ◌⊎◌, ◌↔◌, ℕ, zero, suc, ◌+◌, ◌<◌, arith, length, List, [], ◌∷◌, ◌++◌, inl, inr, refl, sym, ap, ◌∙◌, subst, Ordering}
use Rattle.std.specs.Prelude.{⊤, map, drop, slice_index_or}
use Rattle.std.specs.Borrow.{Bor}
use Rattle.std.specs.BTreeSet.{replace_key}
use Rattle.std.specs.Cmp.{IsTotalOrder, alike_right, tied_itself}
use Rattle.std.specs.List.{AllByRecursion}
use Rattle.std.specs.List.Sorted.{IsStrictlySortedBy}
use Rattle.std.specs.Ordering.{ordering_reverse, match_ordering, is_lt}
use Rattle.std.specs.declared.cmp.Ordering.TheVariants.{Less, Equal, Greater}
use Rattle.std.proofs.lemmas.Bool.{true≢false}
use Rattle.std.proofs.lemmas.Map.Keys.{sorted_head, sorted_tail}
use Rattle.interest_list.specs.Orders.{placed, placed_among, in_order}
use Rattle.pattern_tree.specs.Reached.{Among, seen}
use Rattle.pattern_tree.proofs.Members.{same_members}

module _ {A : Type 0} (R : A → A → Ordering) where
  abbrev by_order : A → A → List A → Ordering → List A
  by_order x y ys o = elim o [ Less ↦ x ∷ y ∷ ys | Equal ↦ x ∷ ys | Greater ↦ y ∷ placed R x ys ]

  -- what is replaced among references is placed among what they point to
  pub seen_replaced : (x : Bor A) (ys : List (Bor A)) → seen (replace_key (λ a b. R a.now b.now) ys x) ≡ placed R x.now (seen ys)
  seen_replaced x [] = refl
  seen_replaced x (y ∷ ys) = by (R x.now y.now) (seen_replaced x ys) where
    by : (o : Ordering) → seen (replace_key (λ a b. R a.now b.now) ys x) ≡ placed R x.now (seen ys) → seen (match_ordering o (x ∷ y ∷ ys) (x ∷ ys) (y ∷ replace_key (λ a b. R a.now b.now) ys x)) ≡ by_order x.now y.now (seen ys) o
    by Less e = refl
    by Equal e = refl
    by Greater e = ap (λ zs. y.now ∷ zs) e

  pub among_parts : (xs ys zs : List A) → placed_among R (xs ++ ys) zs ≡ placed_among R ys (placed_among R xs zs)
  among_parts [] ys zs = refl
  among_parts (x ∷ xs) ys zs = among_parts xs ys (placed R x zs)

  all_placed : (P : A → Type 0) (x : A) (ys : List A) → P x → AllByRecursion P ys → AllByRecursion P (placed R x ys)
  all_placed P x [] p h = (p, tt)
  all_placed P x (y ∷ ys) p h = by (R x y) (all_placed P x ys p h.1) where
    by : (o : Ordering) → AllByRecursion P (placed R x ys) → AllByRecursion P (by_order x y ys o)
    by Less more = (p, h)
    by Equal more = (p, h.1)
    by Greater more = (h.0, more)

  -- one that is equal is in the list
  abbrev pub HasSame : List A → A → Type 0
  HasSame ys z = (y : A) × Among ys y × (R z y ≡ Equal)

  later : (y z : A) (ys : List A) → HasSame ys z → HasSame (y ∷ ys) z
  later y z ys h = (h.0, inr h.1, h.2)

  only_placed : (x : A) (ys : List A) (z : A) → Among (placed R x ys) z → (x ≡ z) ⊎ Among ys z
  only_placed x [] z h = h
  only_placed x (y ∷ ys) z h = by (R x y) h (only_placed x ys z) where
    by : (o : Ordering) → Among (by_order x y ys o) z → (Among (placed R x ys) z → (x ≡ z) ⊎ Among ys z) → (x ≡ z) ⊎ Among (y ∷ ys) z
    by Less k more = k
    by Equal k more = elim k [ inl e ↦ inl e | inr l ↦ inr (inr l) ]
    by Greater k more = elim k [ inl e ↦ inr (inl e) | inr l ↦ elim (more l) [ inl e ↦ inl e | inr m ↦ inr (inr m) ] ]

  only_among : (xs ys : List A) (z : A) → Among (placed_among R xs ys) z → Among xs z ⊎ Among ys z
  only_among [] ys z h = inr h
  only_among (x ∷ xs) ys z h = elim (only_among xs (placed R x ys) z h) [
    | inl l ↦ inl (inr l)
    | inr r ↦ elim (only_placed x ys z r) [ inl e ↦ inl (inl e) | inr m ↦ inr m ]
  ]

  module _ (o : IsTotalOrder R) where
    here_placed : (x : A) (ys : List A) → HasSame (placed R x ys) x
    here_placed x [] = (x, inl refl, tied_itself o x)
    here_placed x (y ∷ ys) = by (R x y) (here_placed x ys) where
      by : (r : Ordering) → HasSame (placed R x ys) x → HasSame (by_order x y ys r) x
      by Less more = (x, inl refl, tied_itself o x)
      by Equal more = (x, inl refl, tied_itself o x)
      by Greater more = later y x (placed R x ys) more

    stays_placed : (x : A) (ys : List A) (z : A) → HasSame ys z → HasSame (placed R x ys) z
    stays_placed x [] z h = absurd h.1
    stays_placed x (y ∷ ys) z h = by (R x y) refl h.1 (λ k. stays_placed x ys z k) where
      by : (r : Ordering) → R x y ≡ r → Among (y ∷ ys) h.0 → (HasSame ys z → HasSame (placed R x ys) z) → HasSame (by_order x y ys r) z
      by Less e k more = (h.0, inr k, h.2)
      by Equal e (inl is) more = (x, inl refl, alike_right o x y z e ∙ ap (R z) is ∙ h.2)
      by Equal e (inr l) more = (h.0, inr l, h.2)
      by Greater e (inl is) more = (h.0, inl is, h.2)
      by Greater e (inr l) more = later y z (placed R x ys) (more (h.0, l, h.2))

    stays_among : (xs ys : List A) (z : A) → HasSame ys z → HasSame (placed_among R xs ys) z
    stays_among [] ys z h = h
    stays_among (x ∷ xs) ys z h = stays_among xs (placed R x ys) z (stays_placed x ys z h)

    each_among : (xs ys : List A) (z : A) → Among xs z → HasSame (placed_among R xs ys) z
    each_among [] ys z h = absurd h
    each_among (x ∷ xs) ys z (inl is) = stays_among xs (placed R x ys) z (subst (λ w. HasSame (placed R x ys) w) is (here_placed x ys))
    each_among (x ∷ xs) ys z (inr l) = each_among xs (placed R x ys) z l

    chained : (x y : A) (zs : List A) → R x y ≡ Less → AllByRecursion (λ z. R y z ≡ Less) zs → AllByRecursion (λ z. R x z ≡ Less) zs
    chained x y [] e h = tt
    chained x y (z ∷ zs) e h = (o.trans x y z e h.0, chained x y zs e h.1)

    levelled : (x y : A) (zs : List A) → R x y ≡ Equal → AllByRecursion (λ z. R y z ≡ Less) zs → AllByRecursion (λ z. R x z ≡ Less) zs
    levelled x y [] e h = tt
    levelled x y (z ∷ zs) e h = (o.congr x y z e ∙ h.0, levelled x y zs e h.1)

    sorted_placed : (x : A) (ys : List A) → IsStrictlySortedBy R ys → IsStrictlySortedBy R (placed R x ys)
    unfolding IsStrictlySortedBy
    sorted_placed x [] s = (tt, tt)
    sorted_placed x (y ∷ ys) s = by (R x y) refl (sorted_placed x ys s.1) where
      by : (r : Ordering) → R x y ≡ r → IsStrictlySortedBy R (placed R x ys) → IsStrictlySortedBy R (by_order x y ys r)
      by Less e more = ((e, chained x y ys e s.0), s)
      by Equal e more = (levelled x y ys e s.0, s.1)
      by Greater e more = (all_placed (λ z. R y z ≡ Less) x ys (o.antisymm y x ∙ ap ordering_reverse e) s.0, more)

    sorted_among : (xs ys : List A) → IsStrictlySortedBy R ys → IsStrictlySortedBy R (placed_among R xs ys)
    sorted_among [] ys s = s
    sorted_among (x ∷ xs) ys s = sorted_among xs (placed R x ys) (sorted_placed x ys s)

    sorted_none : IsStrictlySortedBy R []
    unfolding IsStrictlySortedBy
    sorted_none = tt

    below_one : (x : A) (ys : List A) (y : A) → AllByRecursion (λ z. R x z ≡ Less) ys → Among ys y → R x y ≡ Less
    below_one x (z ∷ zs) y h (inl is) = subst (λ w. R x w ≡ Less) is h.0
    below_one x (z ∷ zs) y h (inr l) = below_one x zs y h.1 l
    below_one x [] y h k = absurd k

    less≢equal : Less ≡ Equal → ⊥
    less≢equal e = true≢false (ap is_lt e)

    -- two of a list in strict order are the same where they are equal in the order
    only_one : (ys : List A) (x y : A) → IsStrictlySortedBy R ys → Among ys x → Among ys y → R x y ≡ Equal → x ≡ y
    only_one [] x y s h k e = absurd h
    only_one (w ∷ ws) x y s (inl a) (inl b) e = sym a ∙ b
    only_one (w ∷ ws) x y s (inl a) (inr b) e = absurd (less≢equal (sym (subst (λ v. R v y ≡ Less) a (below_one w ws y (sorted_head R w ws s) b)) ∙ e))
    only_one (w ∷ ws) x y s (inr a) (inl b) e = absurd (less≢equal (sym (subst (λ v. R v x ≡ Less) b (below_one w ws x (sorted_head R w ws s) a)) ∙ (o.antisymm y x ∙ ap ordering_reverse e)))
    only_one (w ∷ ws) x y s (inr a) (inr b) e = only_one ws x y (sorted_tail R w ws s) a b e

    -- these items in order are a list in strict order that has just them
    pub ordered_is : (xs ys : List A) → IsStrictlySortedBy R ys → ((x : A) → Among xs x → Among ys x) → ((x : A) → Among ys x → Among xs x) → in_order R xs ≡ ys
    ordered_is xs ys s f g = same_members o (in_order R xs) ys (sorted_among xs [] sorted_none) s (λ x h. from x (only_among xs [] x h)) to where
      from : (x : A) → Among xs x ⊎ Among [] x → Among ys x
      from x (inl h) = f x h
      from x (inr h) = absurd h

      to : (x : A) → Among ys x → Among (in_order R xs) x
      to x h =
          let p = each_among xs [] x (g x h) in
          let y = from p.0 (only_among xs [] p.0 p.1) in
          subst (λ w. Among (in_order R xs) w) (sym (only_one ys x p.0 s h y p.2)) p.1

-- what is read at a place comes first of all from there on
pub drop_read : {A : Type 0} (xs : List A) (place : ℕ) (x : A) → place < length xs → x ≡ slice_index_or xs place x → drop place xs ≡ x ∷ drop (place + 1) xs
drop_read [] place x lt e = absurd (omega arith)
drop_read (y ∷ xs) zero x lt e = ap (λ z. z ∷ xs) (sym e)
drop_read (y ∷ xs) (suc place) x lt e = drop_read xs place x (omega arith) e ∙ ap (λ n. x ∷ drop n (y ∷ xs)) (let z : suc (place + 1) ≡ suc place + 1 = omega arith in z)
