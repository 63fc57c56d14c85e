-- What a walk has added, put together.
use Rattle.std.proofs.Common.{◌≡◌, ◌⊎◌, ◌↔◌, inl, inr, ℕ, List, [], ◌∷◌, ◌++◌, Option, Some, None, refl, sym, ap, ◌∙◌, subst, BTreeMap}
use Rattle.std.specs.Global.{Vec}
use Rattle.std.proofs.lemmas.Option.{same_Some}
use Rattle.pattern_tree.specs.Reached.{Adds, Among, in_option, value_at}

module _ {V : Type 0} where
  pub among_left : (xs ys : List V) (x : V) → Among xs x → Among (xs ++ ys) x
  among_left [] ys x h = absurd h
  among_left (z ∷ xs) ys x (inl h) = inl h
  among_left (z ∷ xs) ys x (inr h) = inr (among_left xs ys x h)

  pub among_right : (xs ys : List V) (x : V) → Among ys x → Among (xs ++ ys) x
  among_right [] ys x h = h
  among_right (z ∷ xs) ys x h = inr (among_right xs ys x h)

  pub among_cases : (xs ys : List V) (x : V) → Among (xs ++ ys) x → Among xs x ⊎ Among ys x
  among_cases [] ys x h = inr h
  among_cases (z ∷ xs) ys x (inl h) = inl (inl h)
  among_cases (z ∷ xs) ys x (inr h) = elim (among_cases xs ys x h) [ inl a ↦ inl (inr a) | inr b ↦ inr b ]

  option_is : (o : Option V) (v : V) → Among (in_option o) v → o ≡ Some v
  option_is None v h = absurd h
  option_is (Some w) v (inl h) = ap Some h
  option_is (Some w) v (inr h) = absurd h

  option_has : (o : Option V) (v : V) → o ≡ Some v → Among (in_option o) v
  option_has None v h = absurd (cc)
  option_has (Some w) v h = inl (same_Some w v h)

  module _ (m : BTreeMap (Vec ℕ) V) where
    pub adds_one : (key : List ℕ) (old new : List V) → new ≡ old ++ in_option (value_at key m) → Adds (λ k. k ≡ key) m old new
    adds_one key old new is v = (
      λ h. elim (among_cases old (in_option (value_at key m)) v (subst (λ xs. Among xs v) is h)) [
        | inl a ↦ inl a
        | inr b ↦ inr (key, refl, option_is (value_at key m) v b)
      ],
      λ h. subst (λ xs. Among xs v) (sym is) (elim h [
        | inl a ↦ among_left old (in_option (value_at key m)) v a
        | inr p ↦ among_right old (in_option (value_at key m)) v (option_has (value_at key m) v (subst (λ q. value_at q m ≡ Some v) p.1 p.2))
      ]),
    )

    pub adds_none : (P : List ℕ → Type 0) (old : List V) → ((k : List ℕ) → P k → value_at k m ≡ None) → Adds P m old old
    adds_none P old none v = (λ h. inl h, λ h. elim h [ inl a ↦ a | inr p ↦ absurd (let e = none p.0 p.1 in let f = p.2 in cc) ])

    pub adds_both : (P Q : List ℕ → Type 0) (a b c : List V) → Adds P m a b → Adds Q m b c → Adds (λ k. P k ⊎ Q k) m a c
    adds_both P Q a b c h g v = (
      λ x. elim ((g v).0 x) [
        | inl y ↦ elim ((h v).0 y) [ inl z ↦ inl z | inr p ↦ inr (p.0, inl p.1, p.2) ]
        | inr p ↦ inr (p.0, inr p.1, p.2)
      ],
      λ x. elim x [
        | inl z ↦ (g v).1 (inl ((h v).1 (inl z)))
        | inr p ↦ elim p.1 [ inl q ↦ (g v).1 (inl ((h v).1 (inr (p.0, q, p.2)))) | inr q ↦ (g v).1 (inr (p.0, q, p.2)) ]
      ],
    )

    pub adds_same : (P Q : List ℕ → Type 0) (a b : List V) → ((k : List ℕ) → P k → Q k) → ((k : List ℕ) → Q k → P k) → Adds P m a b → Adds Q m a b
    adds_same P Q a b f g h v = (
      λ x. elim ((h v).0 x) [ inl z ↦ inl z | inr p ↦ inr (p.0, f p.0 p.1, p.2) ],
      λ x. elim x [ inl z ↦ (h v).1 (inl z) | inr p ↦ (h v).1 (inr (p.0, g p.0 p.1, p.2)) ],
    )
