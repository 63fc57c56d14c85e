-- Where bytes stop being a name.
use Rattle.std.proofs.Common.{◌≡◌, ℕ, ◌+◌, ◌<◌, ◌≤◌, List, [], ◌∷◌, ◌++◌, length, take, min, Bool, true, false, not, cond, ◌==◌, ◌⊎◌, Option, None, Some, IsTrue, MatchOption, refl, sym, ap, ◌∙◌, subst, inl, inr, suc, zero, arith, add-one, length-append, length-take, append-nil, take-take, take_all, lt-ltb, le-leb, leb-true}
use Rattle.std.specs.List.{position_from, list_all}
use Rattle.std.proofs.lemmas.Bool.{and_parts, and_from, true≢false, eqb-true, eqb-false}
use Rattle.std.proofs.lemmas.List.Folds.{list_all-append}
use Rattle.nats_text.specs.Places.{IsBadPlace, Begins}
use Rattle.nats_text.specs.Text.{is_name, is_name_byte}

-- the bytes before place k pass, and the byte there doesn't
pub record IsFirstBad (p : ℕ → Bool) (xs : List ℕ) (k : ℕ) : Type 0 where
  pub within : k < length xs
  pub before : list_all p (take k xs) ≡ true
  pub at : list_all p (take (k + 1) xs) ≡ false

abbrev FirstBadFrom : (ℕ → Bool) → ℕ → List ℕ → Option ℕ → Type 0
FirstBadFrom p n xs place = MatchOption place (list_all p xs ≡ true) (λ at. (k : ℕ) × (at ≡ n + k) × IsFirstBad p xs k)

-- one byte more at the front, which passes
later : (p : ℕ → Bool) (n x : ℕ) (xs : List ℕ) (place : Option ℕ) → p x ≡ true → FirstBadFrom p (n + 1) xs place → FirstBadFrom p n (x ∷ xs) place
later p n x xs None e h = rw (e, h) refl
later p n x xs (Some at) e h = (
  suc h.0,
  omega (arith, h.1),
  record {
    within = omega (arith, h.2.within);
    before = rw (e, h.2.before) refl;
    at = rw (add-one, e) (rw add-one at h.2.at);
  },
)

here : (p : ℕ → Bool) (n x : ℕ) (xs : List ℕ) → p x ≡ false → FirstBadFrom p n (x ∷ xs) (Some n)
here p n x xs e = (zero, omega arith, record { within = omega arith; before = refl; at = rw e refl })

first_bad_from : (p : ℕ → Bool) (n : ℕ) (xs : List ℕ) → FirstBadFrom p n xs (position_from (λ x. not (p x)) n xs)
first_bad_from p n [] = refl
first_bad_from p n (x ∷ xs) =
    let P : Bool → Type 0 = λ b. p x ≡ b → FirstBadFrom p n (x ∷ xs) (cond (not b) (Some n) (position_from (λ y. not (p y)) (n + 1) xs)) in
    let go : (b : Bool) → P b = λ b. elim b as P [ true ↦ (λ e. later p n x xs _ e (first_bad_from p (n + 1) xs)) | false ↦ (λ e. here p n x xs e) ] in
    go (p x) refl

first_bad-at : (p : ℕ → Bool) (xs : List ℕ) (place : Option ℕ) → FirstBadFrom p 0 xs place → MatchOption place (list_all p xs ≡ true) (IsFirstBad p xs)
first_bad-at p xs None h = h
first_bad-at p xs (Some at) h = let P : ℕ → Type 0 = λ k. IsFirstBad p xs k in let e : h.0 ≡ at = omega (arith, h.1) in subst P e h.2

-- what `position` gives of a test that fails
pub first_bad : (p : ℕ → Bool) (xs : List ℕ) (place : Option ℕ) → place ≡ position_from (λ x. not (p x)) 0 xs → MatchOption place (list_all p xs ≡ true) (IsFirstBad p xs)
first_bad p xs place e = let P : Option ℕ → Type 0 = λ r. MatchOption r (list_all p xs ≡ true) (IsFirstBad p xs) in subst P (sym e) (first_bad-at p xs _ (first_bad_from p 0 xs))

pub is_name-from : (bs : List ℕ) → 0 < length bs → length bs ≤ 64 → list_all is_name_byte bs ≡ true → is_name bs ≡ true
is_name-from bs some short all = and_from _ _ (and_from _ _ (lt-ltb 0 (length bs) some) (le-leb (length bs) 64 short)) all

record IsNameOf (bs : List ℕ) : Type 0 where
  pub short : length bs ≤ 64
  pub all : list_all is_name_byte bs ≡ true

is_name-tells : (bs : List ℕ) → is_name bs ≡ true → IsNameOf bs
is_name-tells bs e =
    let parts = and_parts _ _ e in
    record { short = leb-true (length bs) 64 (and_parts _ _ parts.0).1; all = parts.1 }

-- up to 63 bytes of a name begin one: that with an `a` behind them
begins : (front : List ℕ) → length front < 64 → list_all is_name_byte front ≡ true → Begins is_name front
begins front short all =
    let a : List ℕ = 97 ∷ [] in
    (a, is_name-from (front ++ a) (omega (arith, length-append front a)) (omega (arith, length-append front a)) (list_all-append is_name_byte front a ∙ and_from _ _ all refl))

pub empty_place : (bytes : List ℕ) → length bytes ≡ 0 → IsBadPlace is_name bytes 0
empty_place [] e = inr (record { end = refl; before = begins [] (omega arith) refl; short = refl })
empty_place (b ∷ bs) e = absurd (omega arith)

pub long_place : (bytes : List ℕ) → 64 < length bytes → list_all is_name_byte (take 64 bytes) ≡ true → IsBadPlace is_name bytes 64
long_place bytes long all = inl (record {
  within = long;
  before = ([], rw append-nil (is_name-from (take 64 bytes) (omega (arith, length-take 64 bytes)) (omega (arith, length-take 64 bytes)) all));
  never = λ more. let name = is_name-tells (take 65 bytes ++ more.0) more.1 in omega (arith, name.short, length-append (take 65 bytes) more.0, length-take 65 bytes);
})

pub byte_place : (bytes : List ℕ) (place : ℕ) → place < 64 → IsFirstBad is_name_byte bytes place → IsBadPlace is_name bytes place
byte_place bytes place short bad = inl (record {
  within = bad.within;
  before = begins (take place bytes) (omega (arith, length-take place bytes)) bad.before;
  never = λ more.
      let front = take (place + 1) bytes in
      let name = is_name-tells (front ++ more.0) more.1 in
      let all = and_parts _ _ (sym (list_all-append is_name_byte front more.0) ∙ name.all) in
      true≢false (sym all.0 ∙ bad.at);
})

-- the first bad byte of a front is that of the whole
pub from_front : (p : ℕ → Bool) (bytes : List ℕ) (n place : ℕ) → IsFirstBad p (take n bytes) place → (place < n) × IsFirstBad p bytes place
from_front p bytes n place bad =
    let below : place < min n (length bytes) = rw length-take at bad.within in
    let before = take-take place n bytes (omega arith) in
    let at = take-take (place + 1) n bytes (omega arith) in
    (omega arith, record { within = omega arith; before = ap (list_all p) (sym before) ∙ bad.before; at = ap (list_all p) (sym at) ∙ bad.at })

abbrev Position : List ℕ → Option ℕ
Position xs = position_from (λ b. not (is_name_byte b)) 0 xs

-- the first bad byte among the first 64
pub byte_place_of : (bytes : List ℕ) (n place : ℕ) → n ≡ min (length bytes) 64 → Some place ≡ Position (take n bytes) → IsBadPlace is_name bytes place
byte_place_of bytes n place e found =
    let bad = from_front is_name_byte bytes n place (first_bad is_name_byte (take n bytes) (Some place) found) in
    byte_place bytes place (omega (arith, bad.0)) bad.1

-- no bad byte among the first 64, and none at all, or more than those
pub end_place_of : (bytes : List ℕ) (n : ℕ) (empty : Bool) → n ≡ min (length bytes) 64 → None ≡ Position (take n bytes) → empty ≡ (length bytes == 0)
    → (empty ≡ true) ⊎ ((empty ≡ false) × (64 < length bytes)) → IsBadPlace is_name bytes (length (take n bytes))
end_place_of bytes n empty e none is (inl blank) =
    let nothing : length bytes ≡ 0 = eqb-true (length bytes) 0 (sym is ∙ blank) in
    let end : 0 ≡ length (take n bytes) = omega (arith, length-take n bytes) in
    rw (← end) (empty_place bytes nothing)
end_place_of bytes n empty e none is (inr long) =
    let front : n ≡ 64 = omega (arith, long.1) in
    let all : list_all is_name_byte (take n bytes) ≡ true = first_bad is_name_byte (take n bytes) None none in
    let end : 64 ≡ length (take n bytes) = omega (arith, length-take n bytes, long.1) in
    rw (← end) (long_place bytes long.1 (rw front at all))

-- no bad byte among the first 64, and these are all
pub name_of : (bytes : List ℕ) (n : ℕ) (empty : Bool) → n ≡ min (length bytes) 64 → None ≡ Position (take n bytes) → empty ≡ (length bytes == 0)
    → empty ≡ false → length bytes ≤ 64 → IsTrue (is_name bytes)
name_of bytes n empty e none is some short =
    let all : list_all is_name_byte (take n bytes) ≡ true = first_bad is_name_byte (take n bytes) None none in
    is_name-from bytes (omega (arith, eqb-false (length bytes) 0 (sym is ∙ some))) short (rw (take_all n bytes (omega arith)) at all)
