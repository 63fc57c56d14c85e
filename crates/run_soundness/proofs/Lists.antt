-- Members of lists that are filtered, mapped and searched.
use Rattle.std.proofs.Common.{◌≡◌, zero, suc, Bool, true, false, cond, List, [], ◌∷◌, Some, None, refl, sym, ap, ◌∙◌, subst, arith, ◌⊎◌, inl, inr}
use Rattle.std.specs.Prelude.{filter, map, flat_map, Contains}
use Rattle.std.specs.List.{find}
use Rattle.std.proofs.lemmas.List.Elements.{Contains-append_cases}

pub cons-cases : {X : Type 0} (x : X) (xs : List X) (y : X) → Contains (x ∷ xs) y → (x ≡ y) ⊎ Contains xs y
cons-cases x xs y (zero, lt, e) = inl e
cons-cases x xs y (suc k, lt, e) = inr (k, omega arith, e)

pub Contains-head : {X : Type 0} (x : X) (xs : List X) → Contains (x ∷ xs) x
Contains-head x xs = (0, omega arith, refl)

pub Contains-tail : {X : Type 0} (x : X) (xs : List X) (y : X) → Contains xs y → Contains (x ∷ xs) y
Contains-tail x xs y (k, lt, e) = (suc k, omega arith, e)

pub Contains-none : {X : Type 0} (y : X) → Contains [] y → ⊥
Contains-none y (k, lt, e) = omega arith

pub Contains-one : {X : Type 0} (x y : X) → Contains (x ∷ []) y → x ≡ y
Contains-one x y q = elim (cons-cases x [] y q) [ inl e ↦ e | inr none ↦ absurd (Contains-none y none) ]

-- ---- mapped

-- it is the image of a member
pub record IsImage {X Y : Type 0} (f : X → Y) (xs : List X) (y : Y) : Type 0 where
  pub of : X
  pub here : Contains xs of
  pub is : f of ≡ y

pub map-back : {X Y : Type 0} (f : X → Y) (xs : List X) (y : Y) → Contains (map f xs) y → IsImage f xs y
map-back f [] y q = absurd (Contains-none y q)
map-back f (x ∷ xs) y q = elim (cons-cases (f x) (map f xs) y q) [
  | inl e ↦ record { of = x; here = Contains-head x xs; is = e }
  | inr more ↦ (let w = map-back f xs y more in record { of = w.of; here = Contains-tail x xs w.of w.here; is = w.is })
]

pub map-on : {X Y : Type 0} (f : X → Y) (xs : List X) (x : X) → Contains xs x → Contains (map f xs) (f x)
map-on f [] x q = absurd (Contains-none x q)
map-on f (z ∷ xs) x q = elim (cons-cases z xs x q) [
  | inl e ↦ subst (λ y. Contains (f z ∷ map f xs) (f y)) e (Contains-head (f z) (map f xs))
  | inr more ↦ Contains-tail (f z) (map f xs) (f x) (map-on f xs x more)
]

-- ---- filtered

filter_at : {X : Type 0} (x : X) (xs cs : List X) (c : X) (b : Bool) → ((d : X) → Contains xs d → Contains cs d) → Contains (cond b (x ∷ xs) xs) c → Contains (x ∷ cs) c
filter_at x xs cs c true f q = elim (cons-cases x xs c q) [ inl e ↦ subst (λ y. Contains (x ∷ cs) y) e (Contains-head x cs) | inr more ↦ Contains-tail x cs c (f c more) ]
filter_at x xs cs c false f q = Contains-tail x cs c (f c q)

pub filter-was : {X : Type 0} (p : X → Bool) (cs : List X) (c : X) → Contains (filter p cs) c → Contains cs c
filter-was p [] c q = q
filter-was p (x ∷ cs) c q = filter_at x (filter p cs) cs c (p x) (λ d w. filter-was p cs d w) q

pass_at : {X : Type 0} (p : X → Bool) (x : X) (xs : List X) (c : X) (b : Bool) → p x ≡ b → (Contains xs c → p c ≡ true) → Contains (cond b (x ∷ xs) xs) c → p c ≡ true
pass_at p x xs c true e f q = elim (cons-cases x xs c q) [ inl s ↦ ap p (sym s) ∙ e | inr more ↦ f more ]
pass_at p x xs c false e f q = f q

pub filter-pass : {X : Type 0} (p : X → Bool) (cs : List X) (c : X) → Contains (filter p cs) c → p c ≡ true
filter-pass p [] c q = absurd (Contains-none c q)
filter-pass p (x ∷ cs) c q = pass_at p x (filter p cs) c (p x) refl (λ w. filter-pass p cs c w) q

stays_at : {X : Type 0} (p : X → Bool) (x : X) (xs : List X) (c : X) (b : Bool) → p x ≡ b → p c ≡ true → (x ≡ c) ⊎ Contains xs c → Contains (cond b (x ∷ xs) xs) c
stays_at p x xs c true e t (inl s) = subst (λ y. Contains (x ∷ xs) y) s (Contains-head x xs)
stays_at p x xs c true e t (inr q) = Contains-tail x xs c q
stays_at p x xs c false e t (inl s) = absurd (let z : false ≡ true = sym e ∙ (ap p s ∙ t) in cc)
stays_at p x xs c false e t (inr q) = q

pub filter-on : {X : Type 0} (p : X → Bool) (cs : List X) (c : X) → Contains cs c → p c ≡ true → Contains (filter p cs) c
filter-on p [] c q t = absurd (Contains-none c q)
filter-on p (x ∷ cs) c q t = stays_at p x (filter p cs) c (p x) refl t (elim (cons-cases x cs c q) [ inl e ↦ inl e | inr more ↦ inr (filter-on p cs c more t) ])

-- ---- joined

-- a member of one of the parts
pub record IsPart {X Y : Type 0} (f : X → List Y) (xs : List X) (y : Y) : Type 0 where
  pub of : X
  pub here : Contains xs of
  pub part : Contains (f of) y

pub flat-back : {X Y : Type 0} (f : X → List Y) (xs : List X) (y : Y) → Contains (flat_map f xs) y → IsPart f xs y
flat-back f [] y q = absurd (Contains-none y q)
flat-back f (x ∷ xs) y q = elim (Contains-append_cases (f x) (flat_map f xs) y q) [
  | inl own ↦ record { of = x; here = Contains-head x xs; part = own }
  | inr more ↦ (let w = flat-back f xs y more in record { of = w.of; here = Contains-tail x xs w.of w.here; part = w.part })
]

-- ---- found

-- what was found is a member that passes
pub record IsFound {X : Type 0} (p : X → Bool) (xs : List X) (x : X) : Type 0 where
  pub here : Contains xs x
  pub passes : p x ≡ true

found_at : {X : Type 0} (p : X → Bool) (z : X) (xs : List X) (x : X) (b : Bool) → p z ≡ b → cond b (Some z) (find p xs) ≡ Some x → (find p xs ≡ Some x → IsFound p xs x) → IsFound p (z ∷ xs) x
found_at p z xs x true e q f = (let s : z ≡ x = cc in record { here = subst (λ y. Contains (z ∷ xs) y) s (Contains-head z xs); passes = ap p (sym s) ∙ e })
found_at p z xs x false e q f = (let w = f q in record { here = Contains-tail z xs x w.here; passes = w.passes })

pub found : {X : Type 0} (p : X → Bool) (xs : List X) (x : X) → find p xs ≡ Some x → IsFound p xs x
found p [] x e = absurd (cc)
found p (z ∷ xs) x e = found_at p z xs x (p z) refl e (λ q. found p xs x q)

none_at : {X : Type 0} (p : X → Bool) (z : X) (xs : List X) (x : X) (b : Bool) → p z ≡ b → cond b (Some z) (find p xs) ≡ None → (z ≡ x) ⊎ Contains xs x → (find p xs ≡ None → Contains xs x → p x ≡ false) → p x ≡ false
none_at p z xs x true e q s f = absurd (cc)
none_at p z xs x false e q (inl s) f = ap p (sym s) ∙ e
none_at p z xs x false e q (inr more) f = f q more

pub none-found : {X : Type 0} (p : X → Bool) (xs : List X) (x : X) → find p xs ≡ None → Contains xs x → p x ≡ false
none-found p [] x e q = absurd (Contains-none x q)
none-found p (z ∷ xs) x e q = none_at p z xs x (p z) refl e (cons-cases z xs x q) (λ n more. none-found p xs x n more)
