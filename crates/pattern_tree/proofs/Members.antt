-- Lists in strict order are equal where they have the same members.
use Rattle.std.proofs.Common.{◌≡◌, ◌⊎◌, inl, inr, List, [], ◌∷◌, refl, sym, ap, ap₂, subst, ◌∙◌, Ordering, Less, Equal}
use Rattle.std.specs.Cmp.{IsTotalOrder}
use Rattle.std.specs.List.{AllByRecursion}
use Rattle.std.specs.List.Sorted.{IsStrictlySortedBy}
use Rattle.std.proofs.lemmas.Map.Keys.{sorted_head, sorted_tail}
use Rattle.std.proofs.lemmas.Cmp.{tied_itself}
use Rattle.pattern_tree.specs.Reached.{Among}

module _ {A : Type 0} where
  pub each_among : (P : A → Type 0) (xs : List A) (x : A) → AllByRecursion P xs → Among xs x → P x
  each_among P [] x all here = absurd here
  each_among P (y ∷ ys) x all (inl is) = subst P is all.0
  each_among P (y ∷ ys) x all (inr later) = each_among P ys x all.1 later

  module _ {R : A → A → Ordering} (o : IsTotalOrder R) where
    not_below_itself : (x : A) → R x x ≡ Less → ⊥
    not_below_itself x h = absurd (let e = tied_itself o x in cc)

    firsts : (x y : A) (xs ys : List A) → IsStrictlySortedBy R (x ∷ xs) → IsStrictlySortedBy R (y ∷ ys) → Among (y ∷ ys) x → Among (x ∷ xs) y → x ≡ y
    firsts x y xs ys r s (inl is) g = sym is
    firsts x y xs ys r s (inr later) (inl is) = is
    firsts x y xs ys r s (inr later) (inr also) = absurd (not_below_itself x (o.trans x y x (each_among (λ z. R x z ≡ Less) xs y (sorted_head R x xs r) also) (each_among (λ z. R y z ≡ Less) ys x (sorted_head R y ys s) later)))

    later_one : (x y z : A) (xs ys : List A) → x ≡ y → IsStrictlySortedBy R (x ∷ xs) → Among xs z → Among (y ∷ ys) z → Among ys z
    later_one x y z xs ys e r here (inr later) = later
    later_one x y z xs ys e r here (inl is) = absurd (not_below_itself x (subst (λ w. R x w ≡ Less) (sym (e ∙ is)) (each_among (λ w. R x w ≡ Less) xs z (sorted_head R x xs r) here)))

    pub same_members : (xs ys : List A) → IsStrictlySortedBy R xs → IsStrictlySortedBy R ys → ((x : A) → Among xs x → Among ys x) → ((x : A) → Among ys x → Among xs x) → xs ≡ ys
    same_members [] [] r s f g = refl
    same_members [] (y ∷ ys) r s f g = absurd (g y (inl refl))
    same_members (x ∷ xs) [] r s f g = absurd (f x (inl refl))
    same_members (x ∷ xs) (y ∷ ys) r s f g =
        let e = firsts x y xs ys r s (f x (inl refl)) (g y (inl refl)) in
        ap₂ (λ z zs. z ∷ zs) e (same_members xs ys (sorted_tail R x xs r) (sorted_tail R y ys s) (λ z h. later_one x y z xs ys e r h (f z (inr h))) (λ z h. later_one y x z ys xs (sym e) s h (g z (inr h))))
