-- What is written as JSON is one line.
use Rattle.std.proofs.Common.{◌≡◌, ℕ, ◌+◌, ◌/◌, ◌%◌, ◌^◌, ◌<◌, ◌≤◌, List, [], ◌∷◌, ◌++◌, Bool, true, false, ◌||◌, not, ◌==◌, cond, nat_lt, refl, sym, ap, subst, ◌∙◌, arith}
use Rattle.std.specs.Prelude.{decimal}
use Rattle.std.specs.Char.{digit_char}
use Rattle.std.specs.List.{list_all}
use Rattle.std.specs.Str.Parse.{AllDigits}
use Rattle.std.proofs.lemmas.Bool.{ltb-false, false≢true, ne_eqb, and_from}
use Rattle.std.proofs.lemmas.Fmt.{decimal_is_IsNumeral}
use Rattle.std.proofs.lemmas.List.Folds.{list_all-append}
use Rattle.std.proofs.lemmas.Str.Parse.{digit_from_value}
use Rattle.json.specs.Print.{quoted, escape, escape_byte, escape_letter, token_text}
use Rattle.json.specs.Token.{Token}
use Rattle.serde_json.specs.Data.{unsigned, negative, float, Data, null, boolean, number, string, array, object, Items, no_items, item, Members, no_members, member}
use Rattle.serde_json.specs.Written.{compact_text, items_text, members_text, comma_if}
use Rattle.nats_text.specs.Headers.{is_line_byte}
use Rattle.config_json.proofs.Json.{Plain, PlainItems, PlainMembers}

-- bytes of which none ends a line
abbrev Line : List ℕ → Type 0
Line bs = list_all is_line_byte bs ≡ true

-- a byte that ends no line
abbrev Within : ℕ → Type 0
Within b = (b ≡ 13 → ⊥) × (b ≡ 10 → ⊥)

within : (b : ℕ) → Within b → is_line_byte b ≡ true
within b h = and_from (not (b == 13)) (not (b == 10)) (ap not (ne_eqb b 13 h.0)) (ap not (ne_eqb b 10 h.1))

high : (b : ℕ) → 32 ≤ b → Within b
high b h = (λ e. omega (arith, e, h), λ e. omega (arith, e, h))

line_append : (a b : List ℕ) → Line a → Line b → Line (a ++ b)
line_append a b g h = list_all-append is_line_byte a b ∙ and_from (list_all is_line_byte a) (list_all is_line_byte b) g h

one_byte : (b : ℕ) → Within b → Line (b ∷ [])
one_byte b h = and_from (is_line_byte b) true (within b h) refl

two_bytes : (a b : ℕ) → Within a → Within b → Line (a ∷ b ∷ [])
two_bytes a b g h = and_from (is_line_byte a) (list_all is_line_byte (b ∷ [])) (within a g) (one_byte b h)

-- ---- texts

-- a choice of two letters, neither of which is this byte
letter_of : (b : Bool) (x y byte : ℕ) → (b ≡ true → x ≡ byte → ⊥) → (y ≡ byte → ⊥) → cond b x y ≡ byte → ⊥
letter_of true x y byte g h = g refl
letter_of false x y byte g h = h

same_or : (x byte : ℕ) → ((byte == 34) || (byte == 92)) ≡ false → ((x == 34) || (x == 92)) ≡ true → x ≡ byte → ⊥
same_or x byte n h e = false≢true (sym n ∙ (ap (λ k. (k == 34) || (k == 92)) (sym e) ∙ h))

letter_free : (x byte : ℕ) → 0 < byte → byte < 32 → ((byte == 34) || (byte == 92)) ≡ false → escape_letter x ≡ byte → ⊥
letter_free x byte low below n =
    letter_of ((x == 34) || (x == 92)) x (cond (x == 8) 98 (cond (x == 12) 102 (cond (x == 10) 110 (cond (x == 13) 114 (cond (x == 9) 116 0))))) byte (same_or x byte n)
    (letter_of (x == 8) 98 (cond (x == 12) 102 (cond (x == 10) 110 (cond (x == 13) 114 (cond (x == 9) 116 0)))) byte (λ t e. omega (arith, e, below))
    (letter_of (x == 12) 102 (cond (x == 10) 110 (cond (x == 13) 114 (cond (x == 9) 116 0))) byte (λ t e. omega (arith, e, below))
    (letter_of (x == 10) 110 (cond (x == 13) 114 (cond (x == 9) 116 0)) byte (λ t e. omega (arith, e, below))
    (letter_of (x == 13) 114 (cond (x == 9) 116 0) byte (λ t e. omega (arith, e, below))
    (letter_of (x == 9) 116 0 byte (λ t e. omega (arith, e, below)) (λ e. omega (arith, e, low)))))))

letter_within : (x : ℕ) → Within (escape_letter x)
letter_within x = (letter_free x 13 (omega arith) (omega arith) refl, letter_free x 10 (omega arith) (omega arith) refl)

digit_free : (d byte : ℕ) → byte < 32 → digit_char d ≡ byte → ⊥
digit_free d byte below = letter_of (nat_lt d 10) (48 + d) (87 + d) byte (λ t e. omega (arith, e, below)) (λ e. omega (arith, e, below))

digit_within : (d : ℕ) → Within (digit_char d)
digit_within d = (digit_free d 13 (omega arith), digit_free d 10 (omega arith))

hex_line : (x : ℕ) → Line (92 ∷ 117 ∷ 48 ∷ 48 ∷ digit_char (x / 16) ∷ digit_char (x % 16) ∷ [])
hex_line x = two_bytes (digit_char (x / 16)) (digit_char (x % 16)) (digit_within (x / 16)) (digit_within (x % 16))

byte_line : (x : ℕ) → Line (escape_byte x)
unfolding escape_byte
byte_line x =
    let Q : Bool → Type 0 = λ t. nat_lt x 32 ≡ t → Line (cond t (92 ∷ 117 ∷ 48 ∷ 48 ∷ digit_char (x / 16) ∷ digit_char (x % 16) ∷ []) (x ∷ [])) in
    let inner : (t : Bool) → Q t = λ t. elim t as Q [ true ↦ (λ e. hex_line x) | false ↦ (λ e. one_byte x (high x (ltb-false x 32 e))) ] in
    let P : Bool → Type 0 = λ t. Line (cond t (92 ∷ escape_letter x ∷ []) (cond (nat_lt x 32) (92 ∷ 117 ∷ 48 ∷ 48 ∷ digit_char (x / 16) ∷ digit_char (x % 16) ∷ []) (x ∷ []))) in
    elim (nat_lt 0 (escape_letter x)) as P [ true ↦ two_bytes 92 (escape_letter x) (high 92 (omega arith)) (letter_within x) | false ↦ inner (nat_lt x 32) refl ]

escape_line : (s : List ℕ) → Line (escape s)
escape_line [] = refl
escape_line (b ∷ bs) = line_append (escape_byte b) (escape bs) (byte_line b) (escape_line bs)

quoted_line : (s : List ℕ) → Line (quoted s)
quoted_line s = line_append (escape s) (34 ∷ []) (escape_line s) refl

comma_line : (later : Bool) → Line (comma_if later)
comma_line true = refl
comma_line false = refl

boolean_line : (b : Bool) → Line (token_text (Token.boolean b))
boolean_line true = refl
boolean_line false = refl

digits_line : (ds : List ℕ) → AllDigits 10 ds → Line ds
digits_line [] h = refl
digits_line (d ∷ ds) h =
    let digit = digit_from_value d h.0 in
    and_from (is_line_byte d) (list_all is_line_byte ds) (within d (high d (omega (arith, digit.0)))) (digits_line ds h.1)

decimal_line : (n : ℕ) → n < 2 ^ 64 → Line (decimal n)
decimal_line n h = digits_line (decimal n) (decimal_is_IsNumeral n h).0.1

mutual
  pub text_line : (d : Data) → Plain d → list_all is_line_byte (compact_text d) ≡ true
  text_line null h = absurd h
  text_line (boolean b) h = boolean_line b
  text_line (number (unsigned n)) h = decimal_line n h
  text_line (number (negative z)) h = subst (λ w. Line (compact_text (number (negative w)))) (sym h) (line_append (45 ∷ []) (decimal 1) (one_byte 45 (high 45 (omega arith))) (decimal_line 1 (omega arith)))
  text_line (number (float x)) h = absurd h
  text_line (string s) h = quoted_line s
  text_line (array ds) h = items_line false ds h
  text_line (object ms) h = members_line false ms h

  items_line : (later : Bool) (ds : Items) → PlainItems ds → Line (items_text later ds)
  items_line later no_items h = refl
  items_line later (item d ds) h =
      line_append (comma_if later) (compact_text d ++ items_text true ds) (comma_line later) (line_append (compact_text d) (items_text true ds) (text_line d h.0) (items_line true ds h.1))

  members_line : (later : Bool) (ms : Members) → PlainMembers ms → Line (members_text later ms)
  members_line later no_members h = refl
  members_line later (member k d ms) h =
      line_append (comma_if later) (quoted k ++ 58 ∷ (compact_text d ++ members_text true ms)) (comma_line later)
      (line_append (quoted k) (58 ∷ (compact_text d ++ members_text true ms)) (quoted_line k)
      (line_append (compact_text d) (members_text true ms) (text_line d h.1) (members_line true ms h.2)))
