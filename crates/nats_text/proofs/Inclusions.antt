-- A name is a subject, and a subject is a pattern.
use Rattle.std.proofs.Common.{◌≡◌, ℕ, ◌<◌, ◌≤◌, List, [], ◌∷◌, length, true, false, not, ◌&&◌, ◌==◌, nat_eq, zero, suc, refl, arith, ltb-true, lt-ltb, le-leb, leb-true}
use Rattle.std.specs.List.{list_all}
use Rattle.std.specs.Str.{IsAscii, bytes_eq}
use Rattle.std.proofs.lemmas.Str.{IsUtf8-from_ascii, is_utf8-from_IsUtf8}
use Rattle.std.proofs.lemmas.Bool.{and_parts, and_from}
use Rattle.std.proofs.lemmas.Bool.Decides.{nat_tests}
use Rattle.nats_text.specs.Text.{is_name, is_name_byte, is_subject, is_subject_byte, is_token, is_literal_token, is_pattern, are_pattern_tokens, star, tail, tokens}

-- what is known of a byte of a name
record IsByte (b : ℕ) : Type 0 where
  pub ascii : b < 128
  pub subject : is_subject_byte b ≡ true
  pub no_dot : (b == 46) ≡ false
  pub no_star : nat_eq b 42 ≡ false
  pub no_tail : nat_eq b 62 ≡ false

byte : (b : ℕ) → is_name_byte b ≡ true → IsByte b
byte b e = record {
  ascii = grind (arith, nat_tests);
  subject = grind (arith, nat_tests);
  no_dot = grind (arith, nat_tests);
  no_star = grind (arith, nat_tests);
  no_tail = grind (arith, nat_tests);
}

ascii : (bs : List ℕ) → list_all is_name_byte bs ≡ true → IsAscii bs
ascii [] e i = omega arith
ascii (b ∷ bs) e zero = (byte b (and_parts _ _ e).0).ascii
ascii (b ∷ bs) e (suc i) = ascii bs (and_parts _ _ e).1 i

one_token : (bs : List ℕ) → list_all is_name_byte bs ≡ true → tokens bs ≡ bs ∷ []
one_token [] e = refl
one_token (b ∷ bs) e =
    let parts = and_parts _ _ e in
    rw ((byte b parts.0).no_dot, one_token bs parts.1) refl

subject_bytes : (bs : List ℕ) → list_all is_name_byte bs ≡ true → list_all is_subject_byte bs ≡ true
subject_bytes [] e = refl
subject_bytes (b ∷ bs) e =
    let parts = and_parts _ _ e in
    and_from _ _ (byte b parts.0).subject (subject_bytes bs parts.1)

literal : (bs : List ℕ) → 0 < length bs → list_all is_name_byte bs ≡ true → is_literal_token bs ≡ true
literal [] some e = absurd (omega arith)
literal (b ∷ bs) some e =
    let first = byte b (and_parts _ _ e).0 in
    rw (first.no_star, first.no_tail, subject_bytes (b ∷ bs) e, lt-ltb 0 (length (b ∷ bs)) some) refl

pub subject_of_name : (bs : List ℕ) → is_name bs ≡ true → is_subject bs ≡ true
subject_of_name bs e =
    let parts = and_parts _ _ e in
    let lengths = and_parts _ _ parts.0 in
    let some : 0 < length bs = ltb-true 0 (length bs) lengths.0 in
    let short : length bs ≤ 64 = leb-true (length bs) 64 lengths.1 in
    and_from _ _
    (and_from _ _ (le-leb (length bs) 1024 (omega arith)) (is_utf8-from_IsUtf8 bs (IsUtf8-from_ascii bs (ascii bs parts.1))))
    (rw (one_token bs parts.1, literal bs some parts.1) refl)

record IsLiteral (t : List ℕ) : Type 0 where
  pub token : is_token t ≡ true
  pub no_tail : not (bytes_eq t tail) ≡ true

literal-tells : (t : List ℕ) → is_literal_token t ≡ true → IsLiteral t
literal-tells t e =
    let parts = and_parts (is_token t && not (bytes_eq t star)) (not (bytes_eq t tail)) e in
    record { token = (and_parts (is_token t) (not (bytes_eq t star)) parts.0).0; no_tail = parts.1 }

pattern_tokens : (ts : List (List ℕ)) → list_all is_literal_token ts ≡ true → are_pattern_tokens ts ≡ true
pattern_tokens [] e = refl
pattern_tokens (t ∷ []) e = (literal-tells t (and_parts (is_literal_token t) true e).0).token
pattern_tokens (t ∷ u ∷ ts) e =
    let parts = and_parts (is_literal_token t) (list_all is_literal_token (u ∷ ts)) e in
    let first = literal-tells t parts.0 in
    and_from (is_token t && not (bytes_eq t tail)) _ (and_from (is_token t) _ first.token first.no_tail) (pattern_tokens (u ∷ ts) parts.1)

pub pattern_of_subject : (bs : List ℕ) → is_subject bs ≡ true → is_pattern bs ≡ true
pattern_of_subject bs e =
    let parts = and_parts _ _ e in
    and_from _ _ parts.0 (pattern_tokens (tokens bs) parts.1)
