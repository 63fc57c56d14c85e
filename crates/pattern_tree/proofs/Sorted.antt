-- Lists in strict order: what is put at its place there, and what is taken away.
use Rattle.std.proofs.Common.{◌≡◌, Bool, true, false, cond, ◌||◌, List, [], ◌∷◌, Some, inl, inr, refl, sym, ap, ◌∙◌, Ordering, not}
use Rattle.std.specs.Prelude.{filter, IfSome}
use Rattle.std.specs.BTreeSet.{replace_key}
use Rattle.std.specs.Cmp.{IsTotalOrder}
use Rattle.std.specs.List.{find, list_any, AllByRecursion}
use Rattle.std.specs.List.Sorted.{IsStrictlySortedBy}
use Rattle.std.specs.Ordering.{is_eq, match_ordering}
use Rattle.std.specs.Set.{remove_key}
use Rattle.std.specs.declared.cmp.Ordering.TheVariants.{Less, Equal, Greater}
use Rattle.std.proofs.lemmas.Bool.{cases_Bool, true≢false}
use Rattle.std.proofs.lemmas.Map.Keys.{sorted_head, sorted_tail}
use Rattle.interest_list.specs.Orders.{placed}

module _ {A : Type 0} where
  all-filter : (P : A → Type 0) (f : A → Bool) (xs : List A) → AllByRecursion P xs → AllByRecursion P (filter f xs)
  all-filter P f [] h = tt
  all-filter P f (x ∷ xs) h = elim (cases_Bool (f x)) [
    | inl so ↦ rw so (h.0, all-filter P f xs h.1)
    | inr other ↦ rw other (all-filter P f xs h.1)
  ]

  all_pass : (f : A → Bool) (xs : List A) → AllByRecursion (λ x. f x ≡ true) xs → filter f xs ≡ xs
  all_pass f [] h = refl
  all_pass f (x ∷ xs) h = rw h.0 (ap (λ zs. x ∷ zs) (all_pass f xs h.1))

  each : (P Q : A → Type 0) (xs : List A) → ((x : A) → P x → Q x) → AllByRecursion P xs → AllByRecursion Q xs
  each P Q [] g h = tt
  each P Q (x ∷ xs) g h = (g x h.0, each P Q xs g h.1)

  pub filters_turn : (f g : A → Bool) (xs : List A) → filter f (filter g xs) ≡ filter g (filter f xs)
  filters_turn f g [] = refl
  filters_turn f g (x ∷ xs) = elim (cases_Bool (f x)) [
    | inl a ↦ elim (cases_Bool (g x)) [
      | inl b ↦ rw (a, b) (rw a (ap (λ zs. x ∷ zs) (filters_turn f g xs)))
      | inr b ↦ rw (a, b) (filters_turn f g xs)
    ]
    | inr a ↦ elim (cases_Bool (g x)) [
      | inl b ↦ rw (a, b) (rw a (filters_turn f g xs))
      | inr b ↦ rw (a, b) (filters_turn f g xs)
    ]
  ]

  -- what was found by a test is gone: where it doesn't pass another test, that finds what it found before
  pub out_removed : (t f : A → Bool) (xs : List A) → IfSome (find t xs) (λ x. f x ≡ false) → filter f (remove_key t xs) ≡ filter f xs
  out_removed t f [] h = refl
  out_removed t f (x ∷ xs) h = elim (cases_Bool (t x)) [
    | inl here ↦ (let n : f x ≡ false = rw here at h in rw (here, n) refl)
    | inr other ↦ (let more = out_removed t f xs (rw other at h) in rw other (elim (cases_Bool (f x)) [
      | inl y ↦ rw y (ap (λ zs. x ∷ zs) more)
      | inr n ↦ rw n more
    ]))
  ]

  pub in_removed : (t f : A → Bool) (xs : List A) → IfSome (find t xs) (λ x. f x ≡ true) → filter f (remove_key t xs) ≡ remove_key t (filter f xs)
  in_removed t f [] h = refl
  in_removed t f (x ∷ xs) h = elim (cases_Bool (t x)) [
    | inl here ↦ (let y : f x ≡ true = rw here at h in rw (here, y) (rw here refl))
    | inr other ↦ (let more = in_removed t f xs (rw other at h) in rw other (elim (cases_Bool (f x)) [
      | inl y ↦ rw y (rw other (ap (λ zs. x ∷ zs) more))
      | inr n ↦ rw n more
    ]))
  ]

  -- what isn't there isn't among some of them either
  pub none_among : (t f : A → Bool) (xs : List A) → list_any t xs ≡ false → list_any t (filter f xs) ≡ false
  none_among t f [] h = refl
  none_among t f (x ∷ xs) h = elim (cases_Bool (t x)) [
    | inl here ↦ absurd (true≢false (rw here at h))
    | inr other ↦ (let more = none_among t f xs (rw other at h) in elim (cases_Bool (f x)) [
      | inl y ↦ rw y (rw other more)
      | inr n ↦ rw n more
    ])
  ]

module _ {A : Type 0} (R : A → A → Ordering) where
  abbrev by_order : A → A → List A → Ordering → List A
  by_order x y ys o = elim o [ Less ↦ x ∷ y ∷ ys | Equal ↦ x ∷ ys | Greater ↦ y ∷ placed R x ys ]

  pub replaced_is_placed : (x : A) (ys : List A) → replace_key R ys x ≡ placed R x ys
  replaced_is_placed x [] = refl
  replaced_is_placed x (y ∷ ys) = by (R x y) (replaced_is_placed x ys) where
    by : (o : Ordering) → replace_key R ys x ≡ placed R x ys → match_ordering o (x ∷ y ∷ ys) (x ∷ ys) (y ∷ replace_key R ys x) ≡ by_order x y ys o
    by Less e = refl
    by Equal e = refl
    by Greater e = ap (λ zs. y ∷ zs) e

  first_placed : (x : A) (zs : List A) → AllByRecursion (λ z. R x z ≡ Less) zs → placed R x zs ≡ x ∷ zs
  first_placed x [] h = refl
  first_placed x (z ∷ zs) h = ap (λ o. by_order x z zs o) h.0

  -- the one that is found in place of x has the same answer
  abbrev pub SameAnswer : (A → Bool) → A → List A → Type 0
  SameAnswer f x ys = IfSome (find (λ y. is_eq (R x y)) ys) (λ y. f y ≡ f x)

  pub out_placed : (f : A → Bool) (x : A) (ys : List A) → f x ≡ false → SameAnswer f x ys → filter f (placed R x ys) ≡ filter f ys
  out_placed f x [] out h = rw out refl
  out_placed f x (y ∷ ys) out h = by (R x y) h (out_placed f x ys out) where
    by : (o : Ordering) → IfSome (cond (is_eq o) (Some y) (find (λ z. is_eq (R x z)) ys)) (λ z. f z ≡ f x) → (SameAnswer f x ys → filter f (placed R x ys) ≡ filter f ys) → filter f (by_order x y ys o) ≡ filter f (y ∷ ys)
    by Less k more = rw out refl
    by Equal k more = rw (out, k ∙ out) refl
    by Greater k more = elim (cases_Bool (f y)) [
      | inl so ↦ rw so (ap (λ zs. y ∷ zs) (more k))
      | inr other ↦ rw other (more k)
    ]

  module _ (o : IsTotalOrder R) where
    below : (x y : A) (zs : List A) → R x y ≡ Less → AllByRecursion (λ z. R y z ≡ Less) zs → AllByRecursion (λ z. R x z ≡ Less) zs
    below x y zs e h = each (λ z. R y z ≡ Less) (λ z. R x z ≡ Less) zs (λ z k. o.trans x y z e k) h

    pub in_placed : (f : A → Bool) (x : A) (ys : List A) → f x ≡ true → IsStrictlySortedBy R ys → SameAnswer f x ys → filter f (placed R x ys) ≡ placed R x (filter f ys)
    in_placed f x [] so s h = rw so refl
    in_placed f x (y ∷ ys) so s h = by (R x y) refl h (in_placed f x ys so (sorted_tail R y ys s)) where
      by : (r : Ordering) → R x y ≡ r → IfSome (cond (is_eq r) (Some y) (find (λ z. is_eq (R x z)) ys)) (λ z. f z ≡ f x) → (SameAnswer f x ys → filter f (placed R x ys) ≡ placed R x (filter f ys)) → filter f (by_order x y ys r) ≡ placed R x (filter f (y ∷ ys))
      by Less e k more = rw so (sym (first_placed x (filter f (y ∷ ys)) (all-filter (λ z. R x z ≡ Less) f (y ∷ ys) (e, below x y ys e (sorted_head R y ys s)))))
      by Equal e k more = rw (so, k ∙ so) (sym (ap (λ r. by_order x y (filter f ys) r) e))
      by Greater e k more = elim (cases_Bool (f y)) [
        | inl passes ↦ rw passes (ap (λ zs. y ∷ zs) (more k) ∙ sym (ap (λ r. by_order x y (filter f ys) r) e))
        | inr other ↦ rw other (more k)
      ]

    -- what is equal to one that was there stands nowhere else
    pub removed_all : (e : A) (xs : List A) → IsStrictlySortedBy R xs → remove_key (λ y. is_eq (R e y)) xs ≡ filter (λ y. not (is_eq (R e y))) xs
    removed_all e [] s = refl
    removed_all e (x ∷ xs) s = by (R e x) refl (removed_all e xs (sorted_tail R x xs s)) where
      by : (r : Ordering) → R e x ≡ r → remove_key (λ y. is_eq (R e y)) xs ≡ filter (λ y. not (is_eq (R e y))) xs → cond (is_eq r) xs (x ∷ remove_key (λ y. is_eq (R e y)) xs) ≡ cond (not (is_eq r)) (x ∷ filter (λ y. not (is_eq (R e y))) xs) (filter (λ y. not (is_eq (R e y))) xs)
      by Less k more = ap (λ zs. x ∷ zs) more
      by Equal k more = sym (all_pass (λ y. not (is_eq (R e y))) xs (each (λ y. R x y ≡ Less) (λ y. not (is_eq (R e y)) ≡ true) xs (λ y l. ap (λ r. not (is_eq r)) (o.congr e x y k ∙ l)) (sorted_head R x xs s)))
      by Greater k more = ap (λ zs. x ∷ zs) more

    -- what was put where nothing equal stood, and is taken away, leaves what stood
    pub put_and_taken : (x : A) (ys : List A) → list_any (λ y. is_eq (R x y)) ys ≡ false → R x x ≡ Equal → remove_key (λ y. is_eq (R x y)) (replace_key R ys x) ≡ ys
    put_and_taken x [] none self = rw self refl
    put_and_taken x (y ∷ ys) none self = by (R x y) refl none (λ k. put_and_taken x ys k self) where
      by : (r : Ordering) → R x y ≡ r → (is_eq r || list_any (λ z. is_eq (R x z)) ys) ≡ false → (list_any (λ z. is_eq (R x z)) ys ≡ false → remove_key (λ z. is_eq (R x z)) (replace_key R ys x) ≡ ys) → remove_key (λ z. is_eq (R x z)) (match_ordering r (x ∷ y ∷ ys) (x ∷ ys) (y ∷ replace_key R ys x)) ≡ y ∷ ys
      by Less e k more = rw self refl
      by Equal e k more = absurd (true≢false k)
      by Greater e k more = rw e (ap (λ zs. y ∷ zs) (more k))
