-- Sizes and counts that are written are read again.
use Rattle.std.proofs.Common.{◌≡◌, ℕ, zero, suc, ◌+◌, ◌-◌, ◌*◌, ◌/◌, ◌%◌, ◌^◌, ◌<◌, ◌≤◌, List, [], ◌∷◌, ◌++◌, length, true, ◌&&◌, nat_lt, None, Some, refl, ap, ◌∙◌, arith}
use Rattle.std.specs.Prelude.{nat_le, decimal}
use Rattle.std.specs.List.{list_all}
use Rattle.std.proofs.lemmas.Bool.{cond-true, and_parts, and_from, lt-ltb, le-leb, leb-true}
use Rattle.std.proofs.lemmas.Bool.Decides.{nat_tests}
use Rattle.std.proofs.lemmas.Fmt.{decimal_by_steps, decimal_nonempty, length-decimal-le}
use Rattle.std.proofs.lemmas.List.Folds.{list_all-append}
use Rattle.nats_text.specs.Numbers.{is_digit, value_after, number_after, number_of}
use Rattle.nats_frames.specs.Fields.{size_of}
use Rattle.nats_frames.proofs.Parts.{is_field_byte, is_field}

value_more : (m : ℕ) (ds : List ℕ) (b : ℕ) → value_after m (ds ++ b ∷ []) ≡ value_after m ds * 10 + (b - 48)
value_more m [] b = refl
value_more m (d ∷ ds) b = value_more (m * 10 + (d - 48)) ds b

is_digit_from : (d : ℕ) → d < 10 → is_digit (48 + d) ≡ true
is_digit_from d h = and_from (nat_le 48 (48 + d)) (nat_le (48 + d) 57) (le-leb 48 (48 + d) (omega arith)) (le-leb (48 + d) 57 (omega arith))

abbrev Reads : ℕ → List ℕ → Type 0
Reads n ds = (list_all is_digit ds ≡ true) × (value_after 0 ds ≡ n)

one_digit : (n : ℕ) → n < 10 → Reads n ((48 + n) ∷ [])
one_digit n h = (and_from (is_digit (48 + n)) true (is_digit_from n h) refl, omega arith)

more_digits : (n : ℕ) (ds : List ℕ) → 10 ≤ n → Reads (n / 10) ds → Reads n (ds ++ ((48 + n % 10) ∷ []))
more_digits n ds h r =
    let d : n % 10 < 10 = omega arith in
    let last : list_all is_digit ((48 + n % 10) ∷ []) ≡ true = and_from (is_digit (48 + n % 10)) true (is_digit_from (n % 10) d) refl in (
      list_all-append is_digit ds ((48 + n % 10) ∷ []) ∙ and_from (list_all is_digit ds) (list_all is_digit ((48 + n % 10) ∷ [])) r.0 last,
      value_more 0 ds (48 + n % 10) ∙ (ap (λ v. v * 10 + (48 + n % 10 - 48)) r.1 ∙ omega arith),
    )

pub reads_decimal : (n : ℕ) → n < 2 ^ 64 → Reads n (decimal n)
reads_decimal n h = decimal_by_steps Reads one_digit more_digits n h

pub size_decimal : (n : ℕ) → n < 1_000_000_000 → size_of (decimal n) ≡ Some n
size_decimal n h =
    let small : n < 2 ^ 64 = omega arith in
    let r = reads_decimal n small in
    let ds : List ℕ = decimal n in
    let short : length ds ≤ 9 = length-decimal-le 9 n (omega arith) (omega arith) small in
    let some : 0 < length ds = decimal_nonempty n small in
    let v : value_after 0 ds ≡ n = r.1 in
    let inside = and_from (list_all is_digit ds) (nat_lt (value_after 0 ds) (2 ^ 63)) r.0 (lt-ltb (value_after 0 ds) (2 ^ 63) (omega (arith, v))) in
    let digits = and_from (nat_lt 0 (length ds)) (nat_lt (length ds) 20) (lt-ltb 0 (length ds) some) (lt-ltb (length ds) 20 (omega arith)) in
    cond-true (nat_lt (length ds) 10) (number_of ds) None (lt-ltb (length ds) 10 (omega arith))
    ∙ (cond-true (nat_lt 0 (length ds) && nat_lt (length ds) 20) (number_after 0 ds) None digits
    ∙ (cond-true (list_all is_digit ds && nat_lt (value_after 0 ds) (2 ^ 63)) (Some (value_after 0 ds)) None inside ∙ ap (λ k. Some k) v))

digit_field : (b : ℕ) → 48 ≤ b → b ≤ 57 → is_field_byte b ≡ true
digit_field b low high = grind (arith, nat_tests)

digits_field : (ds : List ℕ) → list_all is_digit ds ≡ true → list_all is_field_byte ds ≡ true
digits_field [] h = refl
digits_field (d ∷ ds) h =
    let p = and_parts (is_digit d) (list_all is_digit ds) h in
    let q = and_parts (nat_le 48 d) (nat_le d 57) p.0 in
    and_from (is_field_byte d) (list_all is_field_byte ds) (digit_field d (leb-true 48 d q.0) (leb-true d 57 q.1)) (digits_field ds p.1)

pub decimal_field : (n : ℕ) → n < 2 ^ 64 → is_field (decimal n) ≡ true
decimal_field n h = and_from (nat_lt 0 (length (decimal n))) (list_all is_field_byte (decimal n)) (lt-ltb 0 (length (decimal n)) (decimal_nonempty n h)) (digits_field (decimal n) (reads_decimal n h).0)

-- ---- a number of 9 digits at most is below 10^9

-- the greatest number with so many digits behind its own
abbrev most : ℕ → ℕ → ℕ
most zero m = m
most (suc k) m = most k (m * 10 + 9)

most_grows : (k a b : ℕ) → a ≤ b → most k a ≤ most k b
most_grows zero a b h = h
most_grows (suc k) a b h = most_grows k (a * 10 + 9) (b * 10 + 9) (omega arith)

most_above : (k m : ℕ) → m ≤ most k m
most_above zero m = omega arith
most_above (suc k) m = omega (arith, most_above k (m * 10 + 9))

value_within : (k m : ℕ) (ds : List ℕ) → list_all is_digit ds ≡ true → length ds ≤ k → value_after m ds ≤ most k m
value_within k m [] h le = most_above k m
value_within zero m (d ∷ ds) h le = absurd (omega arith)
value_within (suc k) m (d ∷ ds) h le =
    let p = and_parts (is_digit d) (list_all is_digit ds) h in
    let high : d ≤ 57 = leb-true d 57 (and_parts (nat_le 48 d) (nat_le d 57) p.0).1 in
    let one = value_within k (m * 10 + (d - 48)) ds p.1 (omega arith) in
    let two = most_grows k (m * 10 + (d - 48)) (m * 10 + 9) (omega arith) in
    omega (arith, one, two)

pub nine_digits : (ds : List ℕ) → list_all is_digit ds ≡ true → length ds < 10 → value_after 0 ds < 1_000_000_000
nine_digits ds h short =
    let v : value_after 0 ds ≤ 999_999_999 = value_within 9 0 ds h (omega arith) in
    omega (arith, v)
