-- Bytes of names, and digits, which are such bytes.
use Rattle.std.proofs.Common.{◌≡◌, ℕ, zero, suc, length-append, ◌+◌, ◌^◌, ◌<◌, ◌≤◌, List, [], ◌∷◌, ◌++◌, length, Bool, true, false, ◌&&◌, not, ◌==◌, refl, sym, ◌∙◌, arith, IsUtf8, nat_lt}
use Rattle.std.specs.Prelude.{nat_le, decimal}
use Rattle.std.specs.List.{list_all}
use Rattle.std.specs.Str.{IsAscii, bytes_eq}
use Rattle.std.specs.Str.Parse.{AllDigits}
use Rattle.std.proofs.lemmas.Bool.{and_parts, and_from, ltb-true, lt-ltb, le-leb, leb-true, ne_eqb}
use Rattle.std.proofs.lemmas.Bool.Decides.{nat_tests}
use Rattle.std.proofs.lemmas.Fmt.{decimal_is_IsNumeral, decimal_nonempty, length-decimal-le}
use Rattle.std.proofs.lemmas.List.Folds.{list_all-append}
use Rattle.std.proofs.lemmas.Str.{IsUtf8-from_ascii}
use Rattle.std.proofs.lemmas.Str.Parse.{digit_from_value}
use Rattle.nats_text.specs.Text.{is_name, is_name_byte, is_subject_byte, is_literal_token, is_token, star, tail}
use Rattle.nats_text.specs.declared.message.Stamp.{Stamp}
use Rattle.js_wire.specs.Words.{consumer_name}

pub not_true : (b : Bool) → not b ≡ true → b ≡ false
not_true true h = sym h
not_true false h = refl

pub not_false : (b : Bool) → b ≡ false → not b ≡ true
not_false b h = rw h refl

-- what a byte of a name is
pub record NameByte (b : ℕ) : Type 0 where
  pub low : 32 < b
  pub high : b < 127
  pub no_dot : (b == 46) ≡ false
  pub no_star : (b == 42) ≡ false
  pub no_tail : (b == 62) ≡ false

pub name_byte : (b : ℕ) → is_name_byte b ≡ true → NameByte b
name_byte b h =
    let f = nat_lt 32 b && nat_lt b 127 in
    let p5 = and_parts (f && not (b == 46) && not (b == 42) && not (b == 62) && not (b == 47)) (not (b == 92)) h in
    let p4 = and_parts (f && not (b == 46) && not (b == 42) && not (b == 62)) (not (b == 47)) p5.0 in
    let p3 = and_parts (f && not (b == 46) && not (b == 42)) (not (b == 62)) p4.0 in
    let p2 = and_parts (f && not (b == 46)) (not (b == 42)) p3.0 in
    let p1 = and_parts f (not (b == 46)) p2.0 in
    let p0 = and_parts (nat_lt 32 b) (nat_lt b 127) p1.0 in
    record {
      low = ltb-true 32 b p0.0;
      high = ltb-true b 127 p0.1;
      no_dot = not_true (b == 46) p1.1;
      no_star = not_true (b == 42) p2.1;
      no_tail = not_true (b == 62) p3.1;
    }

digit_is_name_byte : (b : ℕ) → 48 ≤ b → b ≤ 57 → is_name_byte b ≡ true
digit_is_name_byte b low high = grind (arith, nat_tests)

pub digits_are_name_bytes : (ds : List ℕ) → AllDigits 10 ds → list_all is_name_byte ds ≡ true
digits_are_name_bytes [] h = refl
digits_are_name_bytes (d ∷ ds) h =
    let digit = digit_from_value d h.0 in
    and_from (is_name_byte d) (list_all is_name_byte ds) (digit_is_name_byte d digit.0 digit.1) (digits_are_name_bytes ds h.1)

all_three : (a b c : Bool) → a ≡ true → b ≡ true → c ≡ true → (a && b && c) ≡ true
all_three a b c p q r = rw (p, q, r) refl

pub is_name_from : (w : List ℕ) → 0 < length w → length w ≤ 64 → list_all is_name_byte w ≡ true → is_name w ≡ true
is_name_from w some short all = all_three (nat_lt 0 (length w)) (nat_le (length w) 64) (list_all is_name_byte w) (lt-ltb 0 (length w) some) (le-leb (length w) 64 short) all

-- the parts of a name
pub record NameParts (w : List ℕ) : Type 0 where
  pub some : 0 < length w
  pub short : length w ≤ 64
  pub all : list_all is_name_byte w ≡ true

pub name_parts : (w : List ℕ) → is_name w ≡ true → NameParts w
name_parts w h =
    let p1 = and_parts (nat_lt 0 (length w) && nat_le (length w) 64) (list_all is_name_byte w) h in
    let p0 = and_parts (nat_lt 0 (length w)) (nat_le (length w) 64) p1.0 in
    record { some = ltb-true 0 (length w) p0.0; short = leb-true (length w) 64 p0.1; all = p1.1 }

pub decimal_short : (n : ℕ) → n < 2 ^ 64 → length (decimal n) ≤ 20
decimal_short n h = length-decimal-le 20 n (omega arith) (omega arith) h

pub decimal_bytes : (n : ℕ) → n < 2 ^ 64 → list_all is_name_byte (decimal n) ≡ true
decimal_bytes n h = digits_are_name_bytes (decimal n) (decimal_is_IsNumeral n h).0.1

-- a number is a name
pub decimal_name : (n : ℕ) → n < 2 ^ 64 → is_name (decimal n) ≡ true
decimal_name n h = is_name_from (decimal n) (decimal_nonempty n h) (omega (arith, decimal_short n h)) (decimal_bytes n h)

-- the name of a consumer is a name
pub consumer_is_name : (s : Stamp) → s.boot < 2 ^ 64 → s.count < 2 ^ 64 → is_name (consumer_name s) ≡ true
consumer_is_name s b c =
    let tail_all : list_all is_name_byte (67 ∷ decimal s.count) ≡ true = decimal_bytes s.count c in
    let all : list_all is_name_byte (consumer_name s) ≡ true =
    list_all-append is_name_byte (decimal s.boot) (67 ∷ decimal s.count) ∙ and_from (list_all is_name_byte (decimal s.boot)) (list_all is_name_byte (67 ∷ decimal s.count)) (decimal_bytes s.boot b) tail_all in
    let long : length (decimal s.boot ++ 67 ∷ decimal s.count) ≡ length (decimal s.boot) + length (67 ∷ decimal s.count) = length-append (decimal s.boot) (67 ∷ decimal s.count) in
    is_name_from (consumer_name s) (omega arith) (omega (arith, long, decimal_short s.boot b, decimal_short s.count c)) all

-- names are text
name_ascii : (w : List ℕ) → list_all is_name_byte w ≡ true → IsAscii w
name_ascii [] h i = omega arith
name_ascii (b ∷ bs) h zero =
    let p = and_parts (is_name_byte b) (list_all is_name_byte bs) h in
    omega (arith, (name_byte b p.0).high)
name_ascii (b ∷ bs) h (suc i) = name_ascii bs (and_parts (is_name_byte b) (list_all is_name_byte bs) h).1 i

pub name_utf8 : (w : List ℕ) → list_all is_name_byte w ≡ true → IsUtf8 w
name_utf8 w h = IsUtf8-from_ascii w (name_ascii w h)

subject_bytes : (w : List ℕ) → list_all is_name_byte w ≡ true → list_all is_subject_byte w ≡ true
subject_bytes [] h = refl
subject_bytes (b ∷ bs) h =
    let p = and_parts (is_name_byte b) (list_all is_name_byte bs) h in
    let n = name_byte b p.0 in
    let here : is_subject_byte b ≡ true = and_from (nat_lt 32 b) (not (b == 127)) (lt-ltb 32 b n.low) (not_false (b == 127) (ne_eqb b 127 (λ e. omega (arith, n.high)))) in
    and_from (is_subject_byte b) (list_all is_subject_byte bs) here (subject_bytes bs p.1)

no_wildcard : (w : List ℕ) → list_all is_name_byte w ≡ true → (bytes_eq w star ≡ false) × (bytes_eq w tail ≡ false)
no_wildcard [] h = (refl, refl)
no_wildcard (b ∷ bs) h =
    let n = name_byte b (and_parts (is_name_byte b) (list_all is_name_byte bs) h).0 in
    (rw n.no_star refl, rw n.no_tail refl)

-- a name is a token of a subject
pub name_literal : (w : List ℕ) → is_name w ≡ true → is_literal_token w ≡ true
name_literal w h =
    let n = name_parts w h in
    let no = no_wildcard w n.all in
    let token : is_token w ≡ true = and_from (nat_lt 0 (length w)) (list_all is_subject_byte w) (lt-ltb 0 (length w) n.some) (subject_bytes w n.all) in
    all_three (is_token w) (not (bytes_eq w star)) (not (bytes_eq w tail)) token (not_false (bytes_eq w star) no.0) (not_false (bytes_eq w tail) no.1)
