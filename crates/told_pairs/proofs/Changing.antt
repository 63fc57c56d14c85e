-- The frames between what was told and what is to be told, from the pairs that may have changed alone.
use Rattle.std.proofs.Common.{◌≡◌, ℕ, ◌==◌, Bool, true, false, cond, not, List, [], ◌∷◌, ◌++◌, Option, Some, None, inl, inr, refl, sym, ap, ap₂, ◌∙◌, Ordering, arith}
use Rattle.std.specs.Prelude.{filter, map, nat_lt}
use Rattle.std.specs.List.{list_any}
use Rattle.std.specs.List.Sorted.{IsStrictlySortedBy}
use Rattle.std.specs.Option.{is_some}
use Rattle.std.specs.Ordering.{is_eq}
use Rattle.std.specs.declared.cmp.Ordering.TheVariants.{Less, Equal, Greater}
use Rattle.std.proofs.lemmas.Bool.{cases_Bool, eqb-true, eq-eqb}
use Rattle.interest_list.specs.declared.telling.Told.{Told}
use Rattle.interest_list.specs.Lists.{told_cmp}
use Rattle.interest_list.specs.Tellings.{changes, frame_on, frame_off, has_pair, has_told, same_pair}
use Rattle.interest_list.proofs.Rising.{Rises, at, if_at, kept_if, at-kept, at-below, below-equal, rises-filter, same_items}
use Rattle.interest_list.proofs.Taking.{pairs_total}
use Rattle.told_pairs.specs.declared.pair.Pair.{Pair}
use Rattle.told_pairs.specs.Keys.{key_cmp, same_key}
use Rattle.told_pairs.specs.Tellings.{as_told, gone, come}
use Rattle.told_pairs.proofs.Keys.{by_bytes}
use Rattle.told_pairs.proofs.Lookups.{key_of, telling_of, at_given, rises_given}

same_by_key : (a b : Told) → same_pair a b ≡ is_eq (told_cmp a b)
same_by_key a b = sym (by_bytes (key_of a) (key_of b))

if_found : (r : Ordering) (x : Told) (rest : Option Told) → is_some (if_at r x rest) ≡ cond (is_eq r) true (is_some rest)
if_found Less x rest = refl
if_found Equal x rest = refl
if_found Greater x rest = refl

or_cond : (b c : Bool) → cond b true c ≡ cond b true c
or_cond b c = refl

-- a pair stands in a list where it is found there
pair_found : (ts : List Told) (t : Told) → has_pair ts t ≡ is_some (at told_cmp t ts)
pair_found [] t = refl
pair_found (x ∷ ts) t = elim (cases_Bool (same_pair t x)) [
  | inl same ↦ rw same (sym (if_found (told_cmp t x) x (at told_cmp t ts) ∙ ap (λ (b : Bool). cond b true (is_some (at told_cmp t ts))) (sym (same_by_key t x) ∙ same)))
  | inr other ↦ rw other (pair_found ts t ∙ sym (if_found (told_cmp t x) x (at told_cmp t ts) ∙ ap (λ (b : Bool). cond b true (is_some (at told_cmp t ts))) (sym (same_by_key t x) ∙ other)))
]

-- what was found has this weight
abbrev weighs : ℕ → Option Told → Bool
weighs n None = false
weighs n (Some u) = n == u.weight

told_found : (ts : List Told) → Rises told_cmp ts → (t : Told) → has_told ts t ≡ weighs t.weight (at told_cmp t ts)
told_found [] h t = refl
told_found (x ∷ ts) h t = by (told_cmp t x) refl (told_found ts h.1 t) where
  by : (r : Ordering) → told_cmp t x ≡ r → has_told ts t ≡ weighs t.weight (at told_cmp t ts) → has_told (x ∷ ts) t ≡ weighs t.weight (if_at r x (at told_cmp t ts))
  by Less q more = rw (same_by_key t x ∙ ap is_eq q) more
  by Greater q more = rw (same_by_key t x ∙ ap is_eq q) more
  by Equal q more =
      let none : has_told ts t ≡ false = more ∙ ap (weighs t.weight) (at-below told_cmp pairs_total t ts (below-equal told_cmp pairs_total t x ts q h.0)) in
      elim (cases_Bool (t.weight == x.weight)) [
        | inl same ↦ rw (same_by_key t x ∙ ap is_eq q, same) refl
        | inr other ↦ rw (same_by_key t x ∙ ap is_eq q, other) none
      ]

module _ (old new : List Told) (ro : Rises told_cmp old) (rn : Rises told_cmp new) (a b : Pair → ℕ)
    (ha : (t : Told) → at told_cmp t old ≡ telling_of (key_of t) (a (key_of t)))
    (hb : (t : Told) → at told_cmp t new ≡ telling_of (key_of t) (b (key_of t)))
    (ks : List Pair) (sorted : IsStrictlySortedBy key_cmp ks)
    (all : (p : Pair) → list_any (same_key p) ks ≡ false → a p ≡ b p) where
  abbrev stays : Told → Bool
  stays t = not (has_pair new t)

  abbrev comes : Told → Bool
  comes t = not (has_told old t)

  abbrev in_ks : Pair → Bool
  in_ks p = list_any (same_key p) ks

  -- whether another pair is told of it
  some_by : (p : Pair) (n : ℕ) → is_some (telling_of p n) ≡ nat_lt 0 n
  some_by p n = elim (cases_Bool (nat_lt 0 n)) [
    | inl y ↦ rw y refl
    | inr n ↦ rw n refl
  ]

  weighs_by : (p : Pair) (m n : ℕ) → nat_lt 0 m ≡ true → weighs m (telling_of p n) ≡ (m == n)
  weighs_by p m n pos = elim (cases_Bool (nat_lt 0 n)) [
    | inl y ↦ rw y refl
    | inr z ↦ rw z (sym (grind (arith, pos, z)))
  ]

  off_by : (p : Pair) (m n : ℕ) (here : Bool) → (here ≡ false → m ≡ n) → ((u : Told) → key_of u ≡ p → stays u ≡ not (nat_lt 0 n))
      → kept_if stays (telling_of p m) ≡ telling_of p (cond here (cond (n == 0) m 0) 0)
  off_by p m n here same st = elim (cases_Bool (nat_lt 0 m)) [
    | inr none ↦ rw none (elim (cases_Bool here) [
      | inl y ↦ rw y (elim (cases_Bool (n == 0)) [
        | inl z ↦ rw (z, none) refl
        | inr z ↦ rw z refl
      ])
      | inr away ↦ rw away refl
    ])
    | inl some ↦ rw some (rw (st (as_told (p, m)) refl) (elim (cases_Bool here) [
      | inl y ↦ rw y (elim (cases_Bool (n == 0)) [
        | inl z ↦ rw (z, some, ap (λ (q : ℕ). nat_lt 0 q) (eqb-true n 0 z)) refl
        | inr z ↦ rw (z, positive n z) refl
      ])
      | inr away ↦ rw (away, sym (ap (λ (q : ℕ). nat_lt 0 q) (same away)) ∙ some) refl
    ]))
  ] where
    positive : (q : ℕ) → (q == 0) ≡ false → nat_lt 0 q ≡ true
    positive q z = grind (arith, z)

  off_items : filter stays old ≡ gone a b ks
  off_items = same_items told_cmp pairs_total (filter stays old) (gone a b ks) (rises-filter told_cmp pairs_total stays old ro) (rises_given (λ p. cond (b p == 0) (a p) 0) ks sorted) (λ t.
      at-kept told_cmp pairs_total stays t old ro ∙ (ap (kept_if stays) (ha t)
      ∙ (off_by (key_of t) (a (key_of t)) (b (key_of t)) (in_ks (key_of t)) (all (key_of t)) (λ u e. ap not (pair_found new u ∙ (ap is_some (hb u) ∙ (some_by (key_of u) (b (key_of u)) ∙ ap (λ (p : Pair). nat_lt 0 (b p)) e))))
      ∙ sym (at_given (λ p. cond (b p == 0) (a p) 0) ks sorted t))))

  on_by : (p : Pair) (m n : ℕ) (here : Bool) → (here ≡ false → m ≡ n) → ((u : Told) → key_of u ≡ p → nat_lt 0 u.weight ≡ true → comes u ≡ not (u.weight == m))
      → kept_if comes (telling_of p n) ≡ telling_of p (cond here (cond (m == n) 0 n) 0)
  on_by p m n here same co = elim (cases_Bool (nat_lt 0 n)) [
    | inr none ↦ rw none (elim (cases_Bool here) [
      | inl y ↦ rw y (elim (cases_Bool (m == n)) [
        | inl z ↦ rw z refl
        | inr z ↦ rw (z, none) refl
      ])
      | inr away ↦ rw away refl
    ])
    | inl some ↦ rw some (rw (co (as_told (p, n)) refl some) (elim (cases_Bool here) [
      | inl y ↦ rw y (elim (cases_Bool (m == n)) [
        | inl z ↦ rw (z, eq-eqb n m (sym (eqb-true m n z))) refl
        | inr z ↦ rw (z, some, other m n z) refl
      ])
      | inr away ↦ rw (away, eq-eqb n m (sym (same away))) refl
    ]))
  ] where
    other : (q r : ℕ) → (q == r) ≡ false → (r == q) ≡ false
    other q r z = grind (arith, z)

  on_items : filter comes new ≡ come a b ks
  on_items = same_items told_cmp pairs_total (filter comes new) (come a b ks) (rises-filter told_cmp pairs_total comes new rn) (rises_given (λ p. cond (a p == b p) 0 (b p)) ks sorted) (λ t.
      at-kept told_cmp pairs_total comes t new rn ∙ (ap (kept_if comes) (hb t)
      ∙ (on_by (key_of t) (a (key_of t)) (b (key_of t)) (in_ks (key_of t)) (all (key_of t)) (λ u e pos. ap not (told_found old ro u ∙ (ap (weighs u.weight) (ha u) ∙ (weighs_by (key_of u) u.weight (a (key_of u)) pos ∙ ap (λ (p : Pair). u.weight == a p) e))))
      ∙ sym (at_given (λ p. cond (a p == b p) 0 (b p)) ks sorted t))))

  -- the frames of the pairs that may have changed are all
  pub changes_by : changes old new ≡ map frame_off (gone a b ks) ++ map frame_on (come a b ks)
  changes_by = ap₂ (λ (xs ys : List Told). map frame_off xs ++ map frame_on ys) off_items on_items
