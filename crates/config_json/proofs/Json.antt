-- The JSON of configurations that is written reads as the same data.
use Rattle.std.proofs.Common.{◌≡◌, ℕ, zero, suc, max, ◌^◌, ◌<◌, ◌≤◌, [], ◌∷◌, ◌++◌, Bool, true, false, Some, refl, sym, ap, ap₂, subst, ◌∙◌, arith, IsUtf8, append-nil}
use Rattle.std.specs.Prelude.{decimal, ⊤, negsuc, option_and_then}
use Rattle.std.specs.Str.{IsAscii}
use Rattle.std.proofs.lemmas.Fmt.{IsAscii-decimal}
use Rattle.std.proofs.lemmas.Str.{IsUtf8-append, IsUtf8-from_ascii, IsUtf8-nil}
use Rattle.json.specs.Lex.{tokens}
use Rattle.json.specs.Print.{quoted}
use Rattle.json.specs.Json as json
use Rattle.json.specs.Tree as tree
use Rattle.json.proofs.Printed.Decimals.{IsNumber-decimal, IsNumber-signed_decimal}
use Rattle.json.proofs.Printed.Tokens.{tokens-print}
use Rattle.json.proofs.Printed.Trees.{ArePrintable-json_tokens, value-json_tokens}
use Rattle.json.proofs.Printed.Utf8.{IsUtf8-quoted, IsUtf8-boolean}
use Rattle.serde_json.specs.Data.{Num, unsigned, negative, float, Data, null, boolean, number, string, array, object, Items, no_items, item, Members, no_members, member, depth, items_depth, members_depth}
use Rattle.serde_json.specs.Read.{read, of_json, max_depth}
use Rattle.serde_json.specs.Written.{outline, items_outline, members_outline, compact_text, items_text, members_text, comma_if}
use Rattle.serde_json.proofs.Texts.{print-outline}

-- a whole number of 64 bits, or -1
abbrev pub PlainNumber : Num → Type 0
PlainNumber (unsigned n) = n < 2 ^ 64
PlainNumber (negative z) = z ≡ negsuc 0
PlainNumber (float x) = ⊥

-- whole numbers and texts alone
abbrev mutual
  pub Plain : Data → Type 0
  Plain null = ⊥
  Plain (boolean b) = ⊤
  Plain (number n) = PlainNumber n
  Plain (string s) = IsUtf8 s
  Plain (array ds) = PlainItems ds
  Plain (object ms) = PlainMembers ms

  pub PlainItems : Items → Type 0
  PlainItems no_items = ⊤
  PlainItems (item d ds) = Plain d × PlainItems ds

  pub PlainMembers : Members → Type 0
  PlainMembers no_members = ⊤
  PlainMembers (member k d ms) = IsUtf8 k × Plain d × PlainMembers ms

-- ---- the texts of numbers are numbers

mutual
  has_numbers : (d : Data) → Plain d → tree.HasNumbers (outline d)
  has_numbers null h = absurd h
  has_numbers (boolean b) h = tt
  has_numbers (number (unsigned n)) h = IsNumber-decimal n h
  has_numbers (number (negative z)) h = subst (λ w. tree.HasNumbers (outline (number (negative w)))) (sym h) (IsNumber-signed_decimal (negsuc 0) (omega arith))
  has_numbers (number (float x)) h = absurd h
  has_numbers (string s) h = tt
  has_numbers (array ds) h = items_have_numbers ds h
  has_numbers (object ms) h = members_have_numbers ms h

  items_have_numbers : (ds : Items) → PlainItems ds → tree.ItemsHaveNumbers (items_outline ds)
  items_have_numbers no_items h = tt
  items_have_numbers (item d ds) h = (has_numbers d h.0, items_have_numbers ds h.1)

  members_have_numbers : (ms : Members) → PlainMembers ms → tree.MembersHaveNumbers (members_outline ms)
  members_have_numbers no_members h = tt
  members_have_numbers (member k d ms) h = (has_numbers d h.1, members_have_numbers ms h.2)

mutual
  same_depth : (d : Data) → tree.depth (outline d) ≡ depth d
  same_depth null = refl
  same_depth (boolean b) = refl
  same_depth (number n) = refl
  same_depth (string s) = refl
  same_depth (array ds) = ap (λ n. suc n) (same_items_depth ds)
  same_depth (object ms) = ap (λ n. suc n) (same_members_depth ms)

  same_items_depth : (ds : Items) → tree.items_depth (items_outline ds) ≡ items_depth ds
  same_items_depth no_items = refl
  same_items_depth (item d ds) = ap₂ max (same_depth d) (same_items_depth ds)

  same_members_depth : (ms : Members) → tree.members_depth (members_outline ms) ≡ members_depth ms
  same_members_depth no_members = refl
  same_members_depth (member k d ms) = ap₂ max (same_depth d) (same_members_depth ms)

-- what is written reads as the data
pub reads_again : (d : Data) → Plain d → of_json (outline d) ≡ Some d → depth d ≤ max_depth → read (compact_text d) ≡ Some d
reads_again d plain ordered shallow =
    let ts = tree.json_tokens (outline d) in
    let text : tokens (compact_text d) ≡ ts = ap tokens (sym (print-outline d)) ∙ tokens-print ts (ArePrintable-json_tokens (outline d) (has_numbers d plain)) in
    let low : tree.depth (outline d) ≤ max_depth = omega (arith, same_depth d, shallow) in
    ap (λ o. option_and_then of_json (option_and_then (λ p. json.if_last p.0 p.1) o)) (ap (json.value max_depth) (text ∙ sym (append-nil ts)) ∙ value-json_tokens (outline d) max_depth [] low) ∙ ordered

-- ---- what is written is UTF-8

one_byte : (b : ℕ) → b < 128 → IsAscii (b ∷ [])
one_byte b h zero = h
one_byte b h (suc i) = omega arith

byte_text : (b : ℕ) → b < 128 → IsUtf8 (b ∷ [])
byte_text b h = IsUtf8-from_ascii (b ∷ []) (one_byte b h)

comma_text : (later : Bool) → IsUtf8 (comma_if later)
comma_text true = byte_text 44 (omega arith)
comma_text false = IsUtf8-nil

mutual
  pub text_utf8 : (d : Data) → Plain d → IsUtf8 (compact_text d)
  text_utf8 null h = absurd h
  text_utf8 (boolean b) h = IsUtf8-boolean b
  text_utf8 (number (unsigned n)) h = IsUtf8-from_ascii (decimal n) (IsAscii-decimal n h)
  text_utf8 (number (negative z)) h = subst (λ w. IsUtf8 (compact_text (number (negative w)))) (sym h) (IsUtf8-append (45 ∷ []) (decimal 1) (byte_text 45 (omega arith)) (IsUtf8-from_ascii (decimal 1) (IsAscii-decimal 1 (omega arith))))
  text_utf8 (number (float x)) h = absurd h
  text_utf8 (string s) h = IsUtf8-quoted s h
  text_utf8 (array ds) h = IsUtf8-append (91 ∷ []) (items_text false ds) (byte_text 91 (omega arith)) (items_utf8 false ds h)
  text_utf8 (object ms) h = IsUtf8-append (123 ∷ []) (members_text false ms) (byte_text 123 (omega arith)) (members_utf8 false ms h)

  items_utf8 : (later : Bool) (ds : Items) → PlainItems ds → IsUtf8 (items_text later ds)
  items_utf8 later no_items h = byte_text 93 (omega arith)
  items_utf8 later (item d ds) h = IsUtf8-append (comma_if later) (compact_text d ++ items_text true ds) (comma_text later) (IsUtf8-append (compact_text d) (items_text true ds) (text_utf8 d h.0) (items_utf8 true ds h.1))

  members_utf8 : (later : Bool) (ms : Members) → PlainMembers ms → IsUtf8 (members_text later ms)
  members_utf8 later no_members h = byte_text 125 (omega arith)
  members_utf8 later (member k d ms) h =
      IsUtf8-append (comma_if later) (quoted k ++ 58 ∷ (compact_text d ++ members_text true ms)) (comma_text later)
      (IsUtf8-append (quoted k) (58 ∷ (compact_text d ++ members_text true ms)) (IsUtf8-quoted k h.0)
      (IsUtf8-append (58 ∷ []) (compact_text d ++ members_text true ms) (byte_text 58 (omega arith)) (IsUtf8-append (compact_text d) (members_text true ms) (text_utf8 d h.1) (members_utf8 true ms h.2))))
