-- What the walk found, in order, is what matches.
use Rattle.std.proofs.Common.{◌≡◌, ◌⊎◌, ℕ, Bool, true, false, List, [], ◌∷◌, ◌++◌, Option, Some, None, inl, inr, refl, sym, ap, ◌∙◌, subst}
use Rattle.std.specs.Prelude.{filter}
use Rattle.std.specs.BTreeSet.{BTreeSet}
use Rattle.std.specs.Cmp.Lexicographic.{bytes_decides}
use Rattle.std.proofs.lemmas.Bool.{cases_Bool, true≢false}
use Rattle.std.proofs.lemmas.List.Kept.{IsStrictlySortedBy-filter}
use Rattle.nats_text.specs.Matching.{matches}
use Rattle.interest_list.specs.Lists.{subscription_cmp}
use Rattle.interest_list.specs.Orders.{in_order}
use Rattle.interest_list.specs.declared.subscription.Subscription.{Subscription}
use Rattle.pattern_tree.specs.Order.{subscriptions_total}
use Rattle.pattern_tree.specs.Reached.{Adds, Among, Reached, value_at}
use Rattle.pattern_tree.specs.Standing.{Listing, all_of, has_pattern, IsListed, keys_in, listed, matching}
use Rattle.pattern_tree.proofs.Added.{among_left, among_right, among_cases}
use Rattle.pattern_tree.proofs.Gathered.{ordered_is}

module _ {A : Type 0} (f : A → Bool) where
  passed : (xs : List A) (x : A) → Among (filter f xs) x → (f x ≡ true) × Among xs x
  passed [] x h = absurd h
  passed (y ∷ ys) x h = elim (cases_Bool (f y)) [
    | inl so ↦ elim (subst (λ zs. Among zs x) (keeps y ys so) h) [
      | inl is ↦ (subst (λ z. f z ≡ true) is so, inl is)
      | inr later ↦ (let p = passed ys x later in (p.0, inr p.1))
    ]
    | inr other ↦ (let p = passed ys x (subst (λ zs. Among zs x) (drops y ys other) h) in (p.0, inr p.1))
  ] where
    keeps : (y : A) (ys : List A) → f y ≡ true → filter f (y ∷ ys) ≡ y ∷ filter f ys
    keeps y ys so = rw so refl

    drops : (y : A) (ys : List A) → f y ≡ false → filter f (y ∷ ys) ≡ filter f ys
    drops y ys other = rw other refl

  passes : (xs : List A) (x : A) → f x ≡ true → Among xs x → Among (filter f xs) x
  passes [] x so h = absurd h
  passes (y ∷ ys) x so (inl is) = (let here : f y ≡ true = subst (λ z. f z ≡ true) (sym is) so in rw here (inl is))
  passes (y ∷ ys) x so (inr later) = elim (cases_Bool (f y)) [
    | inl here ↦ rw here (inr (passes ys x so later))
    | inr other ↦ rw other (passes ys x so later)
  ]

-- one of these sets has it
abbrev InSome : List (BTreeSet Subscription) → Subscription → Type 0
InSome sets x = (set : BTreeSet Subscription) × Among sets set × Among set.keys x

in_some : (sets : List (BTreeSet Subscription)) (x : Subscription) → Among (all_of sets) x → InSome sets x
in_some [] x h = absurd h
in_some (set ∷ sets) x h = elim (among_cases set.keys (all_of sets) x h) [
  | inl a ↦ (set, inl refl, a)
  | inr b ↦ (let p = in_some sets x b in (p.0, inr p.1, p.2))
]

of_some : (sets : List (BTreeSet Subscription)) (set : BTreeSet Subscription) (x : Subscription) → Among sets set → Among set.keys x → Among (all_of sets) x
of_some [] set x h k = absurd h
of_some (s ∷ sets) set x (inl is) k = among_left s.keys (all_of sets) x (subst (λ (z : BTreeSet Subscription). Among z.keys x) (sym is) k)
of_some (s ∷ sets) set x (inr later) k = among_right s.keys (all_of sets) x (of_some sets set x later k)

module _ (subs : List Subscription) (m : Listing) (sets : List (BTreeSet Subscription)) (subject : List ℕ) (h : IsListed subs m) (found : Adds (Reached [] subject) m [] sets) where
  -- what stands under a pattern
  under : (k : List ℕ) (set : BTreeSet Subscription) (x : Subscription) → value_at k m ≡ Some set → Among set.keys x → Among (filter (has_pattern k) subs) x
  under k set x is a = subst (λ zs. Among zs x) (sym (ap (λ o. keys_in o) is) ∙ h.lists k) a

  from_set : (k : List ℕ) (set : BTreeSet Subscription) (x : Subscription) → Reached [] subject k → value_at k m ≡ Some set → Among set.keys x → Among (matching subject subs) x
  from_set k set x r is a =
      let p = passed (has_pattern k) subs x (under k set x is a) in
      passes (λ s. matches s.pattern subject) subs x (ap (λ q. matches q subject) ((bytes_decides x.pattern k).0 p.0 ∙ r.1) ∙ r.2) p.1

  only : (x : Subscription) → Among (all_of sets) x → Among (matching subject subs) x
  only x a =
      let p = in_some sets x a in
      elim ((found p.0).0 p.1) [
        | inl none ↦ absurd none
        | inr q ↦ from_set q.0 p.0 x q.1 q.2 p.2
      ]

  abbrev Held : List ℕ → Subscription → Type 0
  Held k x = (set : BTreeSet Subscription) × (value_at k m ≡ Some set) × Among set.keys x

  held : (k : List ℕ) (x : Subscription) → Among (listed k m) x → Held k x
  held k x a = by (value_at k m) refl a where
    by : (o : Option (BTreeSet Subscription)) → value_at k m ≡ o → Among (keys_in o) x → Held k x
    by None is b = absurd b
    by (Some set) is b = (set, is, b)

  all : (x : Subscription) → Among (matching subject subs) x → Among (all_of sets) x
  all x a =
      let p = passed (λ s. matches s.pattern subject) subs x a in
      let s = held x.pattern x (subst (λ zs. Among zs x) (sym (h.lists x.pattern)) (passes (has_pattern x.pattern) subs x ((bytes_decides x.pattern x.pattern).1 refl) p.1)) in
      of_some sets s.0 x ((found s.0).1 (inr (x.pattern, (x.pattern, refl, p.0), s.1))) s.2

  pub matched : in_order subscription_cmp (all_of sets) ≡ matching subject subs
  matched = ordered_is subscription_cmp subscriptions_total (all_of sets) (matching subject subs) (IsStrictlySortedBy-filter subscription_cmp (λ s. matches s.pattern subject) subs h.rises) only all
