-- Lists of values under numbers that rise, as the ordered map keeps them.
use Rattle.std.proofs.Common.{◌≡◌, ℕ, suc, ◌<◌, ◌≤◌, Bool, true, false, cond, not, eqb, leb, List, [], ◌∷◌, ◌++◌, zero, Some, None, inl, inr, refl, sym, ap, arith, length}
use Rattle.std.specs.Prelude.{filter, slice_get}
use Rattle.std.specs.declared.cmp.Ordering.TheVariants.{Less, Equal, Greater}
use Rattle.std.specs.Cmp.{nat_cmp_is}
use Rattle.std.specs.Ordering.{nat_cmp, is_le}
use Rattle.std.specs.Map.{keys_of, lookup, remove_entry}
use Rattle.std.specs.BTreeMap.{is_at, insert_entry}
use Rattle.std.proofs.lemmas.Bool.{cases_order, cases_eq, eq-eqb, ne_eqb, le-leb, lt-leb, cases_Bool}
use Rattle.std.proofs.lemmas.Option.{same_Some}
use Rattle.stream_fold.specs.RowLists.{Rises}
use Rattle.indexed_rows.specs.Entries.{value_at, last_number, entry_from}

-- ---- the order of numbers

cmp_lt : (a b : ℕ) → a < b → nat_cmp a b ≡ Less
cmp_lt a b h = sym (nat_cmp_is a b Less h)

cmp_eq : (a b : ℕ) → a ≡ b → nat_cmp a b ≡ Equal
cmp_eq a b h = sym (nat_cmp_is a b Equal h)

cmp_gt : (a b : ℕ) → b < a → nat_cmp a b ≡ Greater
cmp_gt a b h = sym (nat_cmp_is a b Greater h)

pub at_eqb : (n k : ℕ) → is_at (nat_cmp n) k ≡ eqb k n
at_eqb n k = elim (cases_order n k) [
  | inl e ↦ rw (cmp_eq n k e, eq-eqb k n (sym e)) refl
  | inr d ↦ elim d [
    | inl lt ↦ rw (cmp_lt n k lt, ne_eqb k n (λ e. absurd (omega (arith, e, lt)))) refl
    | inr gt ↦ rw (cmp_gt n k gt, ne_eqb k n (λ e. absurd (omega (arith, e, gt)))) refl
  ]
]

pub le_leb : (n k : ℕ) → is_le (nat_cmp n k) ≡ leb n k
le_leb n k = elim (cases_order n k) [
  | inl e ↦ rw (cmp_eq n k e, le-leb n k (omega (arith, e))) refl
  | inr d ↦ elim d [
    | inl lt ↦ rw (cmp_lt n k lt, le-leb n k (omega (arith, lt))) refl
    | inr gt ↦ rw (cmp_gt n k gt, lt-leb n k gt) refl
  ]
]

-- ---- numbers that rise

pub rises_weaker : (low low' : ℕ) (xs : List ℕ) → low' ≤ low → Rises low xs → Rises low' xs
rises_weaker low low' [] le h = tt
rises_weaker low low' (x ∷ xs) le h = (omega (arith, le, h.0), h.1)

pub rises_front : {V : Type 0} (low : ℕ) (xs : List (ℕ × V)) (e : ℕ × V) → Rises low (keys_of (xs ++ e ∷ [])) → Rises low (keys_of xs)
rises_front low [] e h = tt
rises_front low (x ∷ xs) e h = (h.0, rises_front (suc x.0) xs e h.1)

pub rises_low : {V : Type 0} (low : ℕ) (xs : List (ℕ × V)) (e : ℕ × V) → Rises low (keys_of (xs ++ e ∷ [])) → low ≤ e.0
rises_low low [] e h = h.0
rises_low low (x ∷ xs) e h = let q = rises_low (suc x.0) xs e h.1 in omega (arith, q, h.0)

rises_cond : {V : Type 0} (b : Bool) (low : ℕ) (e : ℕ × V) (xs : List (ℕ × V)) → low ≤ e.0 → Rises (suc e.0) (keys_of xs) → Rises low (keys_of (cond b (e ∷ xs) xs))
rises_cond true low e xs le h = (le, h)
rises_cond false low e xs le h = rises_weaker (suc e.0) low (keys_of xs) (omega (arith, le)) h

pub rises_filter : {V : Type 0} (p : ℕ × V → Bool) (low : ℕ) (xs : List (ℕ × V)) → Rises low (keys_of xs) → Rises low (keys_of (filter p xs))
rises_filter p low [] h = tt
rises_filter p low (x ∷ xs) h = rises_cond (p x) low x (filter p xs) h.0 (rises_filter p (suc x.0) xs h.1)

-- ---- look-ups

pub value_at-lookup : {V : Type 0} (n : ℕ) (xs : List (ℕ × V)) → lookup (is_at (nat_cmp n)) xs ≡ value_at n xs
value_at-lookup n [] = refl
value_at-lookup n (x ∷ xs) = rw (at_eqb n x.0) (ap (λ o. cond (eqb x.0 n) (Some x.1) o) (value_at-lookup n xs))

pub value_at-newest : {V : Type 0} (low : ℕ) (xs : List (ℕ × V)) (e : ℕ × V) → Rises low (keys_of (xs ++ e ∷ [])) → value_at e.0 (xs ++ e ∷ []) ≡ Some e.1
value_at-newest low [] e h = rw (eq-eqb e.0 e.0 refl) refl
value_at-newest low (x ∷ xs) e h =
    let q = rises_low (suc x.0) xs e h.1 in
    rw (ne_eqb x.0 e.0 (λ same. absurd (omega (arith, same, q)))) (value_at-newest (suc x.0) xs e h.1)

pub value_at-older : {V : Type 0} (n : ℕ) (xs : List (ℕ × V)) (e : ℕ × V) → eqb e.0 n ≡ false → value_at n (xs ++ e ∷ []) ≡ value_at n xs
value_at-older n [] e other = rw other refl
value_at-older n (x ∷ xs) e other = ap (λ o. cond (eqb x.0 n) (Some x.1) o) (value_at-older n xs e other)

pub last-newest : {V : Type 0} (xs : List (ℕ × V)) (e : ℕ × V) → last_number (xs ++ e ∷ []) ≡ Some e.0
last-newest [] e = refl
last-newest (x ∷ xs) e = rw (last-newest xs e) refl

pub last-at : {V : Type 0} (xs : List (ℕ × V)) (k : ℕ) (e : ℕ × V) → suc k ≡ length xs → slice_get xs k ≡ Some e → last_number xs ≡ Some e.0
last-at [] k e is h = absurd (omega (arith, is))
last-at (x ∷ []) zero e is h = ap (λ (f : ℕ × _). Some f.0) (same_Some x e h)
last-at (x ∷ y ∷ xs) zero e is h = absurd (omega (arith, is))
last-at (x ∷ []) (suc k) e is h = absurd (omega (arith, is))
last-at (x ∷ y ∷ xs) (suc k) e is h = rw (last-at (y ∷ xs) k e (omega (arith, is)) h) refl

pub from-filter : {V : Type 0} (n : ℕ) (p : ℕ × V → Bool) → ((e : ℕ × V) → p e ≡ leb n e.0) → (xs : List (ℕ × V)) → slice_get (filter p xs) 0 ≡ entry_from n xs
from-filter n p is [] = refl
from-filter n p is (x ∷ xs) = elim (cases_Bool (leb n x.0)) [
  | inl here ↦ rw (is x, here) refl
  | inr other ↦ rw (is x, other) (from-filter n p is xs)
]

pub from-older : {V : Type 0} (n : ℕ) (xs : List (ℕ × V)) (e f : ℕ × V) → entry_from n xs ≡ Some f → entry_from n (xs ++ e ∷ []) ≡ Some f
from-older n [] e f h = absurd (cc)
from-older n (x ∷ xs) e f h = elim (cases_Bool (leb n x.0)) [
  | inl here ↦ rw here (rw here at h)
  | inr other ↦ rw other (from-older n xs e f (rw other at h))
]

pub from-newest : {V : Type 0} (n : ℕ) (xs : List (ℕ × V)) (e : ℕ × V) → entry_from n xs ≡ None → entry_from n (xs ++ e ∷ []) ≡ cond (leb n e.0) (Some e) None
from-newest n [] e h = refl
from-newest n (x ∷ xs) e h = elim (cases_Bool (leb n x.0)) [
  | inl here ↦ absurd (let q = rw here at h in cc)
  | inr other ↦ rw other (from-newest n xs e (rw other at h))
]

-- ---- changes

without-none : {V : Type 0} (n low : ℕ) (xs : List (ℕ × V)) → n < low → Rises low (keys_of xs) → filter (λ e. not (eqb e.0 n)) xs ≡ xs
without-none n low [] lt h = refl
without-none n low (x ∷ xs) lt h = rw (ne_eqb x.0 n (λ e. absurd (omega (arith, e, lt, h.0)))) (ap (λ ys. x ∷ ys) (without-none n (suc x.0) xs (omega (arith, lt, h.0)) h.1))

pub without-entry : {V : Type 0} (n low : ℕ) (xs : List (ℕ × V)) → Rises low (keys_of xs) → remove_entry (is_at (nat_cmp n)) xs ≡ filter (λ e. not (eqb e.0 n)) xs
without-entry n low [] h = refl
without-entry n low (x ∷ xs) h = elim (cases_eq x.0 n) [
  | inl same ↦ rw (at_eqb n x.0, eq-eqb x.0 n same) (sym (without-none n (suc x.0) xs (omega (arith, same)) h.1))
  | inr other ↦ rw (at_eqb n x.0, ne_eqb x.0 n other) (ap (λ ys. x ∷ ys) (without-entry n (suc x.0) xs h.1))
]

pub without-newest : {V : Type 0} (low : ℕ) (xs : List (ℕ × V)) (e : ℕ × V) → Rises low (keys_of (xs ++ e ∷ [])) → filter (λ f. not (eqb f.0 e.0)) (xs ++ e ∷ []) ≡ xs
without-newest low [] e h = rw (eq-eqb e.0 e.0 refl) refl
without-newest low (x ∷ xs) e h =
    let q = rises_low (suc x.0) xs e h.1 in
    rw (ne_eqb x.0 e.0 (λ same. absurd (omega (arith, same, q)))) (ap (λ ys. x ∷ ys) (without-newest (suc x.0) xs e h.1))

pub without-older : {V : Type 0} (n : ℕ) (xs : List (ℕ × V)) (e : ℕ × V) → eqb e.0 n ≡ false → filter (λ f. not (eqb f.0 n)) (xs ++ e ∷ []) ≡ filter (λ f. not (eqb f.0 n)) xs ++ e ∷ []
without-older n [] e other = rw other refl
without-older n (x ∷ xs) e other = elim (cases_Bool (eqb x.0 n)) [
  | inl here ↦ rw here (without-older n xs e other)
  | inr stays ↦ rw stays (ap (λ ys. x ∷ ys) (without-older n xs e other))
]

pub inserted-last : {V : Type 0} (low : ℕ) (xs : List (ℕ × V)) (e : ℕ × V) → Rises low (keys_of (xs ++ e ∷ [])) → insert_entry nat_cmp xs e.0 e.1 ≡ xs ++ e ∷ []
inserted-last low [] e h = refl
inserted-last low (x ∷ xs) e h =
    let q = rises_low (suc x.0) xs e h.1 in
    rw (cmp_gt e.0 x.0 q) (ap (λ ys. x ∷ ys) (inserted-last (suc x.0) xs e h.1))
