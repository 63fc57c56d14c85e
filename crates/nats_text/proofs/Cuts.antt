-- The first part of a text, and the parts after it.
use Rattle.std.proofs.Common.{◌≡◌, ℕ, ◌+◌, ◌<◌, List, [], ◌∷◌, length, take, drop, Bool, true, false, ◌&&◌, cond, eqb, Option, None, Some, refl, sym, ap, subst, add-one, suc, zero, arith}
use Rattle.std.specs.Prelude.{MatchOption}
use Rattle.std.specs.List.{position_from, list_all}
use Rattle.std.specs.Borrow.{Bor}
use Rattle.nats_text.specs.Pieces.{pieces, views}

-- the text is cut at place k
pub record IsCutAt (c : ℕ) (xs : List ℕ) (k : ℕ) : Type 0 where
  pub within : k < length xs
  pub parts : pieces c xs ≡ take k xs ∷ pieces c (drop (suc k) xs)

abbrev pub CutFrom : ℕ → ℕ → List ℕ → Option ℕ → Type 0
CutFrom c n xs place = MatchOption place (pieces c xs ≡ xs ∷ []) (λ at. (k : ℕ) × (at ≡ n + k) × IsCutAt c xs k)

cut_later : (c n x : ℕ) (xs : List ℕ) (place : Option ℕ) → eqb x c ≡ false → CutFrom c (n + 1) xs place → CutFrom c n (x ∷ xs) place
cut_later c n x xs None e h = rw (e, h) refl
cut_later c n x xs (Some at) e h = (suc h.0, omega (arith, h.1), record { within = omega (arith, h.2.within); parts = rw (e, h.2.parts) refl })

cut_here : (c n x : ℕ) (xs : List ℕ) → eqb x c ≡ true → CutFrom c n (x ∷ xs) (Some n)
cut_here c n x xs e = (zero, omega arith, record { within = omega arith; parts = rw e refl })

pub cut_from : (c n : ℕ) (xs : List ℕ) → CutFrom c n xs (position_from (λ x. eqb x c) n xs)
cut_from c n [] = refl
cut_from c n (x ∷ xs) =
    let P : Bool → Type 0 = λ b. eqb x c ≡ b → CutFrom c n (x ∷ xs) (cond b (Some n) (position_from (λ y. eqb y c) (n + 1) xs)) in
    let go : (b : Bool) → P b = λ b. elim b as P [ true ↦ (λ e. cut_here c n x xs e) | false ↦ (λ e. cut_later c n x xs _ e (cut_from c (n + 1) xs)) ] in
    go (eqb x c) refl

place_from : (c : ℕ) (xs : List ℕ) (place : Option ℕ) → CutFrom c 0 xs place → MatchOption place (pieces c xs ≡ xs ∷ []) (λ at. (at < length xs) × (pieces c xs ≡ take at xs ∷ pieces c (drop (at + 1) xs)))
place_from c xs None h = h
place_from c xs (Some at) h =
    let e : h.0 ≡ at = omega (arith, h.1) in
    let cut = let P : ℕ → Type 0 = λ k. IsCutAt c xs k in subst P e h.2 in
    (cut.within, rw add-one cut.parts)

pub at_place : (c : ℕ) (xs : List ℕ) (place : Option ℕ) → place ≡ position_from (λ x. eqb x c) 0 xs → MatchOption place (pieces c xs ≡ xs ∷ []) (λ at. (at < length xs) × (pieces c xs ≡ take at xs ∷ pieces c (drop (at + 1) xs)))
at_place c xs place e = let P : Option ℕ → Type 0 = λ p. CutFrom c 0 xs p in place_from c xs place (subst P (sym e) (cut_from c 0 xs))

-- a test of what references point to
pub list_all-views : (f : List ℕ → Bool) (parts : List (Bor (List ℕ))) → list_all (λ part. f part.now) parts ≡ list_all f (views parts)
list_all-views f [] = refl
list_all-views f (part ∷ parts) = ap (λ b. f part.now && b) (list_all-views f parts)
