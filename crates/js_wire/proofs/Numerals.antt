-- Numbers in decimal digits, written and read.
use Rattle.std.proofs.Common.{◌≡◌, ℕ, ◌^◌, ◌<◌, List, Bool, true, false, ◌&&◌, cond, nat_lt, None, Some, Result, Ok, refl, sym, ap, ◌∙◌, subst, IsUtf8}
use Rattle.std.specs.Prelude.{decimal}
use Rattle.std.specs.Str.{bytes_eq}
use Rattle.std.specs.Str.Parse.{digits_value, ParsesUnsigned}
use Rattle.std.proofs.lemmas.Bool.{and_parts, ltb-true, lt-ltb}
use Rattle.std.proofs.lemmas.Fmt.{decimal_is_IsNumeral, parse-decimal, IsAscii-decimal}
use Rattle.std.proofs.lemmas.Option.{none-some, same_Some}
use Rattle.std.proofs.lemmas.Slice.Eq.{bytes_eq-Decides}
use Rattle.std.proofs.lemmas.Str.{IsUtf8-from_ascii}
use Rattle.js_wire.specs.Reading.{numeral}

pub same_bytes : (s : List ℕ) → bytes_eq s s ≡ true
same_bytes s = (bytes_eq-Decides s s).1 refl

pub equal_bytes : (s t : List ℕ) → bytes_eq s t ≡ true → s ≡ t
equal_bytes s t h = (bytes_eq-Decides s t).0 h

-- what a choice between something and nothing says
pub chosen : {A : Type 0} (b : Bool) (x y : A) → cond b (Some x) None ≡ Some y → (b ≡ true) × (x ≡ y)
chosen true x y h = (refl, same_Some x y h)
chosen false x y h = absurd (none-some y h)

pub not_chosen : {A : Type 0} (b : Bool) (x : A) → (b ≡ true → ⊥) → cond b (Some x) None ≡ None
not_chosen true x h = absurd (h refl)
not_chosen false x h = refl

pub numeral_decimal : (n : ℕ) → n < 2 ^ 64 → numeral (decimal n) ≡ Some n
numeral_decimal n h =
    let e = (decimal_is_IsNumeral n h).1 in
    rw (e, same_bytes (decimal n), lt-ltb n (2 ^ 64) h) refl

-- a numeral is the digits of its number
pub record IsNumeralOf (t : List ℕ) (n : ℕ) : Type 0 where
  pub spelled : t ≡ decimal n
  pub small : n < 2 ^ 64

digits_of : (t : List ℕ) (n : ℕ) → (bytes_eq (decimal n) t && nat_lt n (2 ^ 64)) ≡ true → IsNumeralOf t n
digits_of t n h =
    let p = and_parts (bytes_eq (decimal n) t) (nat_lt n (2 ^ 64)) h in
    record { spelled = sym (equal_bytes (decimal n) t p.0); small = ltb-true n (2 ^ 64) p.1 }

pub numeral_is : (t : List ℕ) (n : ℕ) → numeral t ≡ Some n → IsNumeralOf t n
numeral_is t n h =
    let v = digits_value 10 t in
    let p = chosen (bytes_eq (decimal v) t && nat_lt v (2 ^ 64)) v n h in
    subst (λ m. IsNumeralOf t m) p.1 (digits_of t v p.0)

-- no number has these digits
pub no_numeral : (t : List ℕ) → ((n : ℕ) → n < 2 ^ 64 → t ≡ decimal n → ⊥) → numeral t ≡ None
no_numeral t h =
    let v = digits_value 10 t in
    not_chosen (bytes_eq (decimal v) t && nat_lt v (2 ^ 64)) v (λ e. let d = digits_of t v e in h v d.small d.spelled)

pub numeral_from : (t : List ℕ) (n : ℕ) → n < 2 ^ 64 → decimal n ≡ t → numeral t ≡ Some n
numeral_from t n h e = ap numeral (sym e) ∙ numeral_decimal n h

-- where the digits of a number that was read aren't the text, or none was read
pub not_numeral : {E : Type 0} (t : List ℕ) (r : Result ℕ E) → ParsesUnsigned 64 10 t r → ((n : ℕ) → r ≡ Ok n → decimal n ≡ t → ⊥) → numeral t ≡ None
not_numeral t r parses h = no_numeral t (λ n small e. h n (parse-decimal 64 n t r small small e parses) (sym e))

pub decimal_utf8 : (n : ℕ) → n < 2 ^ 64 → IsUtf8 (decimal n)
decimal_utf8 n h = IsUtf8-from_ascii (decimal n) (IsAscii-decimal n h)

pub not_text : (t : List ℕ) → (IsUtf8 t → ⊥) → numeral t ≡ None
not_text t never = no_numeral t (λ n small e. never (subst (λ s. IsUtf8 s) (sym e) (decimal_utf8 n small)))
