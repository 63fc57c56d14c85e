-- Lists that rise by an order: look-ups by what is equal there, and what is placed, taken out and found in them.
use Rattle.std.proofs.Common.{◌≡◌, Bool, true, false, cond, List, [], ◌∷◌, Option, Some, None, inl, inr, refl, sym, ap, ◌∙◌, subst, Ordering}
use Rattle.std.specs.Prelude.{filter, ⊤}
use Rattle.std.specs.Cmp.{IsTotalOrder, alike_right, tied_itself}
use Rattle.std.specs.Ordering.{is_lt, is_gt, ordering_reverse}
use Rattle.std.specs.declared.cmp.Ordering.TheVariants.{Less, Equal, Greater}
use Rattle.std.proofs.lemmas.Bool.{cases_Bool, true≢false}
use Rattle.interest_list.specs.Orders.{placed, placed_among}

-- the first of two, where there is one
abbrev pub or_else : {A : Type 0} → Option A → Option A → Option A
or_else None o = o
or_else (Some x) o = Some x

-- what was found, where it passes
abbrev pub kept_if : {A : Type 0} → (A → Bool) → Option A → Option A
kept_if f None = None
kept_if f (Some x) = cond (f x) (Some x) None

-- the item, where it is equal
abbrev pub if_at : {A : Type 0} → Ordering → A → Option A → Option A
if_at Less x rest = rest
if_at Equal x rest = Some x
if_at Greater x rest = rest

none≢some : {A : Type 0} (x : A) → None ≡ Some x → ⊥
none≢some {A} x e = true≢false (ap (λ (o : Option A). elim o [ None ↦ true | Some y ↦ false ]) e)

less≢equal : Less ≡ Equal → ⊥
less≢equal e = true≢false (ap is_lt e)

greater≢equal : Greater ≡ Equal → ⊥
greater≢equal e = true≢false (ap is_gt e)

same_some : {A : Type 0} (x y : A) → Some x ≡ Some y → x ≡ y
same_some x y e = ap (λ o. elim o [ None ↦ x | Some z ↦ z ]) e

-- each item passes
abbrev pub Each : {A : Type 0} → (A → Type 0) → List A → Type 0
Each P [] = ⊤
Each P (x ∷ xs) = P x × Each P xs

pub each-filter : {A : Type 0} (P : A → Type 0) (f : A → Bool) (xs : List A) → Each P xs → Each P (filter f xs)
each-filter P f [] h = tt
each-filter P f (x ∷ xs) h = elim (cases_Bool (f x)) [
  | inl so ↦ rw so (h.0, each-filter P f xs h.1)
  | inr other ↦ rw other (each-filter P f xs h.1)
]

module _ {A : Type 0} (R : A → A → Ordering) where
  -- the item stands below all of these
  abbrev pub Below : A → List A → Type 0
  Below x ys = Each (λ y. R x y ≡ Less) ys

  -- each item stands below those behind it
  abbrev pub Rises : List A → Type 0
  Rises [] = ⊤
  Rises (x ∷ xs) = Below x xs × Rises xs

  -- the first item that is equal
  abbrev pub at : A → List A → Option A
  at p [] = None
  at p (x ∷ xs) = if_at (R p x) x (at p xs)

  abbrev by_order : A → A → List A → Ordering → List A
  by_order x y ys o = elim o [ Less ↦ x ∷ y ∷ ys | Equal ↦ x ∷ ys | Greater ↦ y ∷ placed R x ys ]

  pub each-placed : (P : A → Type 0) (x : A) (ys : List A) → P x → Each P ys → Each P (placed R x ys)
  each-placed P x [] p h = (p, tt)
  each-placed P x (y ∷ ys) p h = by (R x y) (each-placed P x ys p h.1) where
    by : (o : Ordering) → Each P (placed R x ys) → Each P (by_order x y ys o)
    by Less more = (p, h)
    by Equal more = (p, h.1)
    by Greater more = (h.0, more)

  pub each-among : (P : A → Type 0) (xs ys : List A) → Each P xs → Each P ys → Each P (placed_among R xs ys)
  each-among P [] ys h k = k
  each-among P (x ∷ xs) ys h k = each-among P xs (placed R x ys) h.1 (each-placed P x ys h.0 k)

  module _ (o : IsTotalOrder R) where
    pub below-less : (x y : A) (zs : List A) → R x y ≡ Less → Below y zs → Below x zs
    below-less x y [] e h = tt
    below-less x y (z ∷ zs) e h = (o.trans x y z e h.0, below-less x y zs e h.1)

    pub below-equal : (x y : A) (zs : List A) → R x y ≡ Equal → Below y zs → Below x zs
    below-equal x y [] e h = tt
    below-equal x y (z ∷ zs) e h = (o.congr x y z e ∙ h.0, below-equal x y zs e h.1)

    turned : (x y : A) → R x y ≡ Greater → R y x ≡ Less
    turned x y e = o.antisymm y x ∙ ap ordering_reverse e

    pub rises-placed : (x : A) (ys : List A) → Rises ys → Rises (placed R x ys)
    rises-placed x [] h = (tt, tt)
    rises-placed x (y ∷ ys) h = by (R x y) refl (rises-placed x ys h.1) where
      by : (r : Ordering) → R x y ≡ r → Rises (placed R x ys) → Rises (by_order x y ys r)
      by Less e more = ((e, below-less x y ys e h.0), h)
      by Equal e more = (below-equal x y ys e h.0, h.1)
      by Greater e more = (each-placed (λ z. R y z ≡ Less) x ys (turned x y e) h.0, more)

    pub rises-among : (xs ys : List A) → Rises ys → Rises (placed_among R xs ys)
    rises-among [] ys h = h
    rises-among (x ∷ xs) ys h = rises-among xs (placed R x ys) (rises-placed x ys h)

    pub rises-filter : (f : A → Bool) (xs : List A) → Rises xs → Rises (filter f xs)
    rises-filter f [] h = tt
    rises-filter f (x ∷ xs) h = elim (cases_Bool (f x)) [
      | inl so ↦ rw so (each-filter (λ y. R x y ≡ Less) f xs h.0, rises-filter f xs h.1)
      | inr other ↦ rw other (rises-filter f xs h.1)
    ]

    -- ---- look-ups

    pub at-below : (p : A) (xs : List A) → Below p xs → at p xs ≡ None
    at-below p [] h = refl
    at-below p (x ∷ xs) h = ap (λ r. if_at r x (at p xs)) h.0 ∙ at-below p xs h.1

    pub at-head : (x : A) (xs : List A) → at x (x ∷ xs) ≡ Some x
    at-head x xs = ap (λ r. if_at r x (at x xs)) (tied_itself o x)

    pub at-equal : (p x : A) (xs : List A) → at p xs ≡ Some x → R p x ≡ Equal
    at-equal p x [] e = absurd (none≢some x e)
    at-equal p x (y ∷ ys) e = by (R p y) refl (λ more. at-equal p x ys more) where
      by : (r : Ordering) → R p y ≡ r → (at p ys ≡ Some x → R p x ≡ Equal) → R p x ≡ Equal
      by Less k more = more (sym (ap (λ r. if_at r y (at p ys)) k) ∙ e)
      by Equal k more = subst (λ z. R p z ≡ Equal) (same_some y x (sym (ap (λ r. if_at r y (at p ys)) k) ∙ e)) k
      by Greater k more = more (sym (ap (λ r. if_at r y (at p ys)) k) ∙ e)

    pub at-alike : (p q : A) (xs : List A) → R p q ≡ Equal → at p xs ≡ at q xs
    at-alike p q [] e = refl
    at-alike p q (x ∷ xs) e = ap (λ r. if_at r x (at p xs)) (o.congr p q x e) ∙ ap (λ z. if_at (R q x) x z) (at-alike p q xs e)

    swapped : (p x y : A) (rest : Option A) → R x y ≡ Greater → (r s : Ordering) → R p x ≡ r → R p y ≡ s → if_at s y (if_at r x rest) ≡ if_at r x (if_at s y rest)
    swapped p x y rest g Equal Equal e k = absurd (greater≢equal (sym g ∙ sym (o.congr p x y e) ∙ k))
    swapped p x y rest g Equal Less e k = refl
    swapped p x y rest g Equal Greater e k = refl
    swapped p x y rest g Less s e k = refl
    swapped p x y rest g Greater s e k = refl

    twice : (r : Ordering) (x y : A) (rest : Option A) → if_at r x rest ≡ if_at r x (if_at r y rest)
    twice Less x y rest = refl
    twice Equal x y rest = refl
    twice Greater x y rest = refl

    pub at-placed : (p x : A) (ys : List A) → at p (placed R x ys) ≡ if_at (R p x) x (at p ys)
    at-placed p x [] = refl
    at-placed p x (y ∷ ys) = by (R x y) refl (at-placed p x ys) where
      by : (r : Ordering) → R x y ≡ r → at p (placed R x ys) ≡ if_at (R p x) x (at p ys) → at p (by_order x y ys r) ≡ if_at (R p x) x (at p (y ∷ ys))
      by Less e more = refl
      by Equal e more = twice (R p x) x y (at p ys) ∙ ap (λ s. if_at (R p x) x (if_at s y (at p ys))) (alike_right o x y p e)
      by Greater e more = ap (λ z. if_at (R p y) y z) more ∙ swapped p x y (at p ys) e (R p x) (R p y) refl refl

    pub at-among : (p : A) (xs ys : List A) → Rises xs → at p (placed_among R xs ys) ≡ or_else (at p xs) (at p ys)
    at-among p [] ys h = refl
    at-among p (x ∷ xs) ys h = at-among p xs (placed R x ys) h.1 ∙ ap (λ z. or_else (at p xs) z) (at-placed p x ys) ∙ by (R p x) refl where
      by : (r : Ordering) → R p x ≡ r → or_else (at p xs) (if_at r x (at p ys)) ≡ or_else (if_at r x (at p xs)) (at p ys)
      by Less e = refl
      by Equal e = ap (λ z. or_else z (Some x)) (at-below p xs (below-equal p x xs e h.0))
      by Greater e = refl

    nothing-either : (n : Option A) → n ≡ None → (b : Bool) → n ≡ cond b n None
    nothing-either n e true = refl
    nothing-either n e false = e

    -- what is equal passes alike
    pub at-filter : (f : A → Bool) → ((a b : A) → R a b ≡ Equal → f a ≡ f b) → (p : A) (xs : List A) → at p (filter f xs) ≡ cond (f p) (at p xs) None
    at-filter f same p [] = nothing-either (at p []) refl (f p)
    at-filter f same p (x ∷ xs) = elim (cases_Bool (f x)) [
      | inl so ↦ rw so (ap (λ z. if_at (R p x) x z) (at-filter f same p xs) ∙ kept (R p x) refl so)
      | inr other ↦ rw other (at-filter f same p xs ∙ gone (R p x) refl other)
    ] where
      kept : (r : Ordering) → R p x ≡ r → f x ≡ true → if_at r x (cond (f p) (at p xs) None) ≡ cond (f p) (if_at r x (at p xs)) None
      kept Less e so = refl
      kept Equal e so = sym (ap (λ b. cond b (Some x) None) (same p x e ∙ so))
      kept Greater e so = refl

      gone : (r : Ordering) → R p x ≡ r → f x ≡ false → cond (f p) (at p xs) None ≡ cond (f p) (if_at r x (at p xs)) None
      gone Less e other = refl
      gone Equal e other = ap (λ b. cond b (at p xs) None) (same p x e ∙ other) ∙ sym (ap (λ b. cond b (Some x) None) (same p x e ∙ other))
      gone Greater e other = refl

    pub at-kept : (f : A → Bool) (p : A) (xs : List A) → Rises xs → at p (filter f xs) ≡ kept_if f (at p xs)
    at-kept f p [] h = refl
    at-kept f p (x ∷ xs) h = elim (cases_Bool (f x)) [
      | inl so ↦ rw so (ap (λ z. if_at (R p x) x z) (at-kept f p xs h.1) ∙ kept (R p x) so)
      | inr other ↦ rw other (at-kept f p xs h.1 ∙ gone (R p x) refl other)
    ] where
      kept : (r : Ordering) → f x ≡ true → if_at r x (kept_if f (at p xs)) ≡ kept_if f (if_at r x (at p xs))
      kept Less so = refl
      kept Equal so = sym (ap (λ b. cond b (Some x) None) so)
      kept Greater so = refl

      gone : (r : Ordering) → R p x ≡ r → f x ≡ false → kept_if f (at p xs) ≡ kept_if f (if_at r x (at p xs))
      gone Less e other = refl
      gone Equal e other = ap (kept_if f) (at-below p xs (below-equal p x xs e h.0)) ∙ sym (ap (λ b. cond b (Some x) None) other)
      gone Greater e other = refl

    -- two lists that rise are the same where each look-up is
    pub same_items : (xs ys : List A) → Rises xs → Rises ys → ((p : A) → at p xs ≡ at p ys) → xs ≡ ys
    same_items [] [] h k e = refl
    same_items [] (y ∷ ys) h k e = absurd (none≢some y (e y ∙ at-head y ys))
    same_items (x ∷ xs) [] h k e = absurd (none≢some x (sym (e x) ∙ at-head x xs))
    same_items (x ∷ xs) (y ∷ ys) h k e = by (R x y) refl (λ more. same_items xs ys h.1 k.1 more) where
      rest : (p : A) → x ≡ y → (r : Ordering) → R p x ≡ r → at p xs ≡ at p ys
      rest p one Less l = sym (ap (λ r. if_at r x (at p xs)) l) ∙ e p ∙ ap (λ r. if_at r y (at p ys)) (ap (R p) (sym one) ∙ l)
      rest p one Greater l = sym (ap (λ r. if_at r x (at p xs)) l) ∙ e p ∙ ap (λ r. if_at r y (at p ys)) (ap (R p) (sym one) ∙ l)
      rest p one Equal l = at-below p xs (below-equal p x xs l h.0) ∙ sym (at-below p ys (below-equal p y ys (ap (R p) (sym one) ∙ l) k.0))

      by : (r : Ordering) → R x y ≡ r → (((p : A) → at p xs ≡ at p ys) → xs ≡ ys) → x ∷ xs ≡ y ∷ ys
      by Less l more = absurd (none≢some x (sym (at-below x (y ∷ ys) (l, below-less x y ys l k.0)) ∙ sym (e x) ∙ at-head x xs))
      by Greater g more = absurd (none≢some y (sym (at-below y (x ∷ xs) (turned x y g, below-less y x xs (turned x y g) h.0)) ∙ e y ∙ at-head y ys))
      by Equal s more =
          let one : x ≡ y = same_some x y (sym (at-head x xs) ∙ e x ∙ ap (λ r. if_at r y (at x ys)) s) in
          ap (λ z. z ∷ xs) one ∙ ap (λ zs. y ∷ zs) (more (λ p. rest p one (R p x) refl))
