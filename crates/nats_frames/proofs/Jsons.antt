-- The JSON of CONNECT and INFO that is written reads as the same data, and stands within a line.
use Rattle.std.proofs.Common.{◌≡◌, ℕ, zero, suc, max, ◌+◌, ◌/◌, ◌%◌, ◌^◌, ◌<◌, ◌≤◌, List, [], ◌∷◌, ◌++◌, length, Bool, true, false, ◌||◌, not, ◌==◌, cond, nat_lt, Some, refl, sym, ap, ap₂, ◌∙◌, arith, IsUtf8, append-nil, append_assoc}
use Rattle.std.specs.Prelude.{decimal, ⊤, option_and_then}
use Rattle.std.specs.Char.{digit_char}
use Rattle.std.specs.List.{list_all}
use Rattle.std.specs.Str.{IsAscii}
use Rattle.std.proofs.lemmas.Bool.{ltb-false, false≢true, ne_eqb, and_parts, and_from}
use Rattle.std.proofs.lemmas.Fmt.{IsAscii-decimal}
use Rattle.std.proofs.lemmas.Str.{IsUtf8-append, IsUtf8-from_ascii}
use Rattle.json.specs.Lex.{tokens}
use Rattle.json.specs.Print.{quoted, escape, escape_byte, escape_letter, token_text}
use Rattle.json.specs.Json as json
use Rattle.json.specs.Token.{Token}
use Rattle.json.specs.Tree as tree
use Rattle.json.proofs.Printed.Decimals.{IsNumber-decimal}
use Rattle.json.proofs.Printed.Tokens.{tokens-print}
use Rattle.json.proofs.Printed.Trees.{ArePrintable-json_tokens, value-json_tokens}
use Rattle.json.proofs.Printed.Utf8.{IsUtf8-quoted, IsUtf8-boolean}
use Rattle.serde_json.specs.Data.{Num, unsigned, negative, float, Data, null, boolean, number, string, array, object, Members, no_members, member, depth, members_depth}
use Rattle.serde_json.specs.Read.{read, of_json, max_depth}
use Rattle.serde_json.specs.Written.{outline, members_outline, compact_text, members_text, comma_if}
use Rattle.serde_json.proofs.Texts.{print-outline}
use Rattle.nats_text.specs.Headers.{is_blank, trim_end}
use Rattle.nats_frames.specs.Lines.{is_feed, has_no_feed}
use Rattle.nats_frames.proofs.Decimals.{decimal_field}
use Rattle.nats_frames.proofs.Parts.{no_feed_append, no_feed_field, is_field_byte}
use Rattle.nats_frames.proofs.Trims.{trim_end_filled}

-- a whole number of 64 bits
abbrev pub PlainNumber : Num → Type 0
PlainNumber (unsigned n) = n < 2 ^ 64
PlainNumber (negative z) = ⊥
PlainNumber (float x) = ⊥

-- objects, texts, switches and whole numbers of 64 bits alone
abbrev mutual
  pub Plain : Data → Type 0
  Plain null = ⊥
  Plain (boolean b) = ⊤
  Plain (number n) = PlainNumber n
  Plain (string s) = IsUtf8 s
  Plain (array ds) = ⊥
  Plain (object ms) = PlainMembers ms

  pub PlainMembers : Members → Type 0
  PlainMembers no_members = ⊤
  PlainMembers (member k d ms) = IsUtf8 k × Plain d × PlainMembers ms

-- ---- the texts of numbers are numbers

mutual
  has_numbers : (d : Data) → Plain d → tree.HasNumbers (outline d)
  has_numbers null h = absurd h
  has_numbers (boolean b) h = tt
  has_numbers (number (unsigned n)) h = IsNumber-decimal n h
  has_numbers (number (negative z)) h = absurd h
  has_numbers (number (float x)) h = absurd h
  has_numbers (string s) h = tt
  has_numbers (array ds) h = absurd h
  has_numbers (object ms) h = members_have_numbers ms h

  members_have_numbers : (ms : Members) → PlainMembers ms → tree.MembersHaveNumbers (members_outline ms)
  members_have_numbers no_members h = tt
  members_have_numbers (member k d ms) h = (has_numbers d h.1, members_have_numbers ms h.2)

mutual
  same_depth : (d : Data) → Plain d → tree.depth (outline d) ≡ depth d
  same_depth null h = refl
  same_depth (boolean b) h = refl
  same_depth (number n) h = refl
  same_depth (string s) h = refl
  same_depth (array ds) h = absurd h
  same_depth (object ms) h = ap (λ n. suc n) (same_members_depth ms h)

  same_members_depth : (ms : Members) → PlainMembers ms → tree.members_depth (members_outline ms) ≡ members_depth ms
  same_members_depth no_members h = refl
  same_members_depth (member k d ms) h = ap₂ max (same_depth d h.1) (same_members_depth ms h.2)

-- what is written reads as the data
pub reads_again : (d : Data) → Plain d → of_json (outline d) ≡ Some d → depth d ≤ max_depth → read (compact_text d) ≡ Some d
reads_again d plain ordered shallow =
    let ts = tree.json_tokens (outline d) in
    let text : tokens (compact_text d) ≡ ts = ap tokens (sym (print-outline d)) ∙ tokens-print ts (ArePrintable-json_tokens (outline d) (has_numbers d plain)) in
    let low : tree.depth (outline d) ≤ max_depth = omega (arith, same_depth d plain, shallow) in
    ap (λ o. option_and_then of_json (option_and_then (λ p. json.if_last p.0 p.1) o)) (ap (json.value max_depth) (text ∙ sym (append-nil ts)) ∙ value-json_tokens (outline d) max_depth [] low) ∙ ordered

-- ---- what is written is UTF-8

one_byte : (b : ℕ) → b < 128 → IsAscii (b ∷ [])
one_byte b h zero = h
one_byte b h (suc i) = omega arith

byte_text : (b : ℕ) → b < 128 → IsUtf8 (b ∷ [])
byte_text b h = IsUtf8-from_ascii (b ∷ []) (one_byte b h)

no_bytes : IsAscii []
no_bytes i = omega arith

comma_text : (later : Bool) → IsUtf8 (comma_if later)
comma_text true = byte_text 44 (omega arith)
comma_text false = IsUtf8-from_ascii [] no_bytes

mutual
  pub text_utf8 : (d : Data) → Plain d → IsUtf8 (compact_text d)
  text_utf8 null h = absurd h
  text_utf8 (boolean b) h = IsUtf8-boolean b
  text_utf8 (number (unsigned n)) h = IsUtf8-from_ascii (decimal n) (IsAscii-decimal n h)
  text_utf8 (number (negative z)) h = absurd h
  text_utf8 (number (float x)) h = absurd h
  text_utf8 (string s) h = IsUtf8-quoted s h
  text_utf8 (array ds) h = absurd h
  text_utf8 (object ms) h = IsUtf8-append (123 ∷ []) (members_text false ms) (byte_text 123 (omega arith)) (members_utf8 false ms h)

  members_utf8 : (later : Bool) (ms : Members) → PlainMembers ms → IsUtf8 (members_text later ms)
  members_utf8 later no_members h = byte_text 125 (omega arith)
  members_utf8 later (member k d ms) h =
      IsUtf8-append (comma_if later) (quoted k ++ 58 ∷ (compact_text d ++ members_text true ms)) (comma_text later)
      (IsUtf8-append (quoted k) (58 ∷ (compact_text d ++ members_text true ms)) (IsUtf8-quoted k h.0)
      (IsUtf8-append (58 ∷ []) (compact_text d ++ members_text true ms) (byte_text 58 (omega arith)) (IsUtf8-append (compact_text d) (members_text true ms) (text_utf8 d h.1) (members_utf8 true ms h.2))))

-- ---- what is written has no LF

abbrev Free : List ℕ → Type 0
Free bs = has_no_feed bs ≡ true

one_free : (b : ℕ) → (b ≡ 10 → ⊥) → Free (b ∷ [])
one_free b h = and_from (not (is_feed b)) true (ap not (ne_eqb b 10 h)) refl

two_free : (a b : ℕ) → (a ≡ 10 → ⊥) → (b ≡ 10 → ⊥) → Free (a ∷ b ∷ [])
two_free a b g h = and_from (not (is_feed a)) (has_no_feed (b ∷ [])) (ap not (ne_eqb a 10 g)) (one_free b h)

-- a choice of two letters, of which neither is an LF
letter_of : (b : Bool) (x y : ℕ) → (b ≡ true → x ≡ 10 → ⊥) → (y ≡ 10 → ⊥) → cond b x y ≡ 10 → ⊥
letter_of true x y g h = g refl
letter_of false x y g h = h

same_or : (x : ℕ) → ((x == 34) || (x == 92)) ≡ true → x ≡ 10 → ⊥
same_or x h e = false≢true (ap (λ k. (k == 34) || (k == 92)) (sym e) ∙ h)

letter_free : (x : ℕ) → escape_letter x ≡ 10 → ⊥
letter_free x =
    letter_of ((x == 34) || (x == 92)) x (cond (x == 8) 98 (cond (x == 12) 102 (cond (x == 10) 110 (cond (x == 13) 114 (cond (x == 9) 116 0))))) (same_or x)
    (letter_of (x == 8) 98 (cond (x == 12) 102 (cond (x == 10) 110 (cond (x == 13) 114 (cond (x == 9) 116 0)))) (λ t e. omega (arith, e))
    (letter_of (x == 12) 102 (cond (x == 10) 110 (cond (x == 13) 114 (cond (x == 9) 116 0))) (λ t e. omega (arith, e))
    (letter_of (x == 10) 110 (cond (x == 13) 114 (cond (x == 9) 116 0)) (λ t e. omega (arith, e))
    (letter_of (x == 13) 114 (cond (x == 9) 116 0) (λ t e. omega (arith, e))
    (letter_of (x == 9) 116 0 (λ t e. omega (arith, e)) (λ e. omega (arith, e)))))))

digit_free : (d : ℕ) → digit_char d ≡ 10 → ⊥
digit_free d = letter_of (nat_lt d 10) (48 + d) (87 + d) (λ t e. omega (arith, e)) (λ e. omega (arith, e))

hex_free : (x : ℕ) → Free (92 ∷ 117 ∷ 48 ∷ 48 ∷ digit_char (x / 16) ∷ digit_char (x % 16) ∷ [])
hex_free x = two_free (digit_char (x / 16)) (digit_char (x % 16)) (digit_free (x / 16)) (digit_free (x % 16))

byte_free : (x : ℕ) → Free (escape_byte x)
unfolding escape_byte
byte_free x =
    let Q : Bool → Type 0 = λ t. nat_lt x 32 ≡ t → Free (cond t (92 ∷ 117 ∷ 48 ∷ 48 ∷ digit_char (x / 16) ∷ digit_char (x % 16) ∷ []) (x ∷ [])) in
    let inner : (t : Bool) → Q t = λ t. elim t as Q [
      | true ↦ (λ e. hex_free x)
      | false ↦ (λ e. let big : 32 ≤ x = ltb-false x 32 e in one_free x (λ is. omega (arith, is)))
    ] in
    let P : Bool → Type 0 = λ t. Free (cond t (92 ∷ escape_letter x ∷ []) (cond (nat_lt x 32) (92 ∷ 117 ∷ 48 ∷ 48 ∷ digit_char (x / 16) ∷ digit_char (x % 16) ∷ []) (x ∷ []))) in
    elim (nat_lt 0 (escape_letter x)) as P [ true ↦ two_free 92 (escape_letter x) (λ e. omega (arith, e)) (letter_free x) | false ↦ inner (nat_lt x 32) refl ]

escape_free : (s : List ℕ) → Free (escape s)
escape_free [] = refl
escape_free (b ∷ bs) = no_feed_append (escape_byte b) (escape bs) (byte_free b) (escape_free bs)

quoted_free : (s : List ℕ) → Free (quoted s)
quoted_free s = no_feed_append (escape s) (34 ∷ []) (escape_free s) refl

comma_free : (later : Bool) → Free (comma_if later)
comma_free true = refl
comma_free false = refl

boolean_free : (b : Bool) → Free (token_text (Token.boolean b))
boolean_free true = refl
boolean_free false = refl

decimal_free : (n : ℕ) → n < 2 ^ 64 → Free (decimal n)
decimal_free n h = no_feed_field (decimal n) (and_parts (nat_lt 0 (length (decimal n))) (list_all is_field_byte (decimal n)) (decimal_field n h)).1

mutual
  pub text_free : (d : Data) → Plain d → Free (compact_text d)
  text_free null h = absurd h
  text_free (boolean b) h = boolean_free b
  text_free (number (unsigned n)) h = decimal_free n h
  text_free (number (negative z)) h = absurd h
  text_free (number (float x)) h = absurd h
  text_free (string s) h = quoted_free s
  text_free (array ds) h = absurd h
  text_free (object ms) h = members_free false ms h

  members_free : (later : Bool) (ms : Members) → PlainMembers ms → Free (members_text later ms)
  members_free later no_members h = refl
  members_free later (member k d ms) h =
      no_feed_append (comma_if later) (quoted k ++ 58 ∷ (compact_text d ++ members_text true ms)) (comma_free later)
      (no_feed_append (quoted k) (58 ∷ (compact_text d ++ members_text true ms)) (quoted_free k)
      (no_feed_append (compact_text d) (members_text true ms) (text_free d h.1) (members_free true ms h.2)))

-- ---- what is written ends in no blank

-- bytes whose last one is no blank
pub record EndsFilled (bs : List ℕ) : Type 0 where
  pub front : List ℕ
  pub last : ℕ
  pub is : bs ≡ front ++ last ∷ []
  pub filled : is_blank last ≡ false

pub ends_behind : (a b : List ℕ) → EndsFilled b → EndsFilled (a ++ b)
ends_behind a b e = record { front = a ++ e.front; last = e.last; is = ap (λ x. a ++ x) e.is ∙ sym (append_assoc a e.front (e.last ∷ [])); filled = e.filled }

pub trim_filled : (bs : List ℕ) → EndsFilled bs → trim_end bs ≡ bs
trim_filled bs e = ap trim_end e.is ∙ (trim_end_filled e.front e.last e.filled ∙ sym e.is)

members_end : (later : Bool) (ms : Members) → EndsFilled (members_text later ms)
members_end later no_members = record { front = []; last = 125; is = refl; filled = refl }
members_end later (member k d ms) =
    ends_behind (comma_if later) (quoted k ++ 58 ∷ (compact_text d ++ members_text true ms))
    (ends_behind (quoted k) (58 ∷ (compact_text d ++ members_text true ms))
    (ends_behind (58 ∷ []) (compact_text d ++ members_text true ms)
    (ends_behind (compact_text d) (members_text true ms) (members_end true ms))))

object_end : (ms : Members) → trim_end (compact_text (object ms)) ≡ compact_text (object ms)
object_end ms = trim_filled (compact_text (object ms)) (ends_behind (123 ∷ []) (members_text false ms) (members_end false ms))

abbrev pub IsObject : Data → Type 0
IsObject null = ⊥
IsObject (boolean b) = ⊥
IsObject (number n) = ⊥
IsObject (string s) = ⊥
IsObject (array ds) = ⊥
IsObject (object ms) = ⊤

pub text_end : (d : Data) → IsObject d → trim_end (compact_text d) ≡ compact_text d
text_end null h = absurd h
text_end (boolean b) h = absurd h
text_end (number n) h = absurd h
text_end (string s) h = absurd h
text_end (array ds) h = absurd h
text_end (object ms) h = object_end ms
