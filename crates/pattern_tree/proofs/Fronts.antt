-- Texts that begin with a front stand side by side in byte order.
use Rattle.std.proofs.Common.{◌≡◌, ◌<◌, inl, inr, ℕ, List, [], ◌∷◌, Bool, true, false, ◌&&◌, eqb, ltb, length, take, refl, sym, ap, ◌∙◌, subst, Ordering, arith}
use Rattle.std.proofs.lemmas.Bool.{cases_Bool, and_parts, false≢true, eqb-true, eq-eqb, ltb-true, ne_eqb}
use Rattle.std.specs.Cmp.{nat_cmp_total}
use Rattle.std.specs.Cmp.Lexicographic.{slice_cmp, pointwise}
use Rattle.std.specs.List.{starts_with}
use Rattle.std.specs.Ordering.{nat_cmp, is_gt, ordering_then}
use Rattle.std.specs.Prelude.{nat_eq}
use Rattle.std.proofs.lemmas.Cmp.{tied_itself}

rises : (a b : ℕ) (r : Ordering) → eqb a b ≡ false → is_gt (ordering_then (nat_cmp a b) r) ≡ false → a < b
rises a b r n h = elim (cases_Bool (ltb a b)) [
  | inl y ↦ ltb-true a b y
  | inr m ↦ absurd (false≢true (sym (rw (m, n) at h)))
]

level : (a : ℕ) (r : Ordering) → ordering_then (nat_cmp a a) r ≡ r
level a r = rw (tied_itself nat_cmp_total a) refl

and_no : (b : Bool) → b ≡ false → (c : Bool) → (b && c) ≡ false
and_no b n c = rw n refl

-- the same byte stands first
deeper : (a b : ℕ) (r : Ordering) → a ≡ b → is_gt (ordering_then (nat_cmp a b) r) ≡ false → is_gt r ≡ false
deeper a b r e h = ap is_gt (sym (level a r)) ∙ subst (λ z. is_gt (ordering_then (nat_cmp a z) r) ≡ false) (sym e) h

between : (a b c : ℕ) (r s : Ordering) → a ≡ c → eqb a b ≡ false → is_gt (ordering_then (nat_cmp a b) r) ≡ false → is_gt (ordering_then (nat_cmp b c) s) ≡ false → ⊥
between a b c r s e n up on =
    let n2 : eqb b c ≡ false = ne_eqb b c (λ q. false≢true (sym n ∙ eq-eqb a b (e ∙ sym q))) in
    let u = rises a b r n up in
    let v = rises b c s n2 on in
    omega (arith, e, u, v)

-- a front, a text behind it that doesn't begin with it, and one behind that
pub none_behind : (p x k : List ℕ) → is_gt (slice_cmp nat_cmp p x) ≡ false → starts_with nat_eq x p ≡ false → is_gt (slice_cmp nat_cmp x k) ≡ false → starts_with nat_eq k p ≡ false
none_behind [] x k up none on = none
none_behind (a ∷ p) [] k up none on = absurd (false≢true (sym up))
none_behind (a ∷ p) (b ∷ x) [] up none on = refl
none_behind (a ∷ p) (b ∷ x) (c ∷ k) up none on = elim (cases_Bool (eqb a c)) [
  | inr other ↦ and_no (eqb a c) other (pointwise nat_eq p (take (length p) k))
  | inl here ↦ elim (cases_Bool (eqb a b)) [
    | inl same ↦ rw here (none_behind p x k (deeper a b (slice_cmp nat_cmp p x) (eqb-true a b same) up) (rw same at none) (deeper b c (slice_cmp nat_cmp x k) (sym (eqb-true a b same) ∙ eqb-true a c here) on))
    | inr other ↦ absurd (between a b c (slice_cmp nat_cmp p x) (slice_cmp nat_cmp x k) (eqb-true a c here) other up on)
  ]
]

-- a front stands at or before each text that begins with it
pub front_first : (p k : List ℕ) → starts_with nat_eq k p ≡ true → is_gt (slice_cmp nat_cmp p k) ≡ false
front_first [] [] h = refl
front_first [] (c ∷ k) h = refl
front_first (a ∷ p) [] h = absurd (false≢true h)
front_first (a ∷ p) (c ∷ k) h =
    let parts = and_parts (eqb a c) (pointwise nat_eq p (take (length p) k)) h in
    subst (λ z. is_gt (ordering_then (nat_cmp a z) (slice_cmp nat_cmp p k)) ≡ false) (eqb-true a c parts.0) (ap is_gt (level a (slice_cmp nat_cmp p k)) ∙ front_first p k parts.1)
