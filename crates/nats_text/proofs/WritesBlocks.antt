-- A block is read, and what is written is a block.
use Rattle.std.proofs.Common.{◌≡◌, inl, inr, ℕ, ◌+◌, List, [], ◌∷◌, ◌++◌, length, take, drop, Bool, true, false, ◌&&◌, not, cond, eqb, ltb, ◌<◌, suc, Option, None, Some, Ok, refl, sym, ap, ◌∙◌, subst, append_assoc, arith}
use Rattle.std.specs.Prelude.{is_none}
use Rattle.std.specs.List.{list_all, position_from, flat_map}
use Rattle.std.specs.Option.{option_map, option_map_or, option_and_then}
use Rattle.std.specs.Str.{bytes_eq}
use Rattle.std.specs.Cmp.Lexicographic.{bytes_decides}
use Rattle.std.proofs.lemmas.Bool.{and_parts, and_from, eqb-true, ltb-true, ne_eqb, not-true, not_from_false, or_cases, false≢true, cond-true, cond-false}
use Rattle.std.proofs.lemmas.List.{append-nil}
use Rattle.std.proofs.Math.Seq.{take-append_seam}
use Rattle.std.proofs.lemmas.List.Folds.{list_all-append}
use Rattle.nats_text.specs.declared.headers.Pair.{Pair}
use Rattle.nats_text.specs.Pieces.{pieces}
use Rattle.nats_text.specs.Headers.{HeaderBlock, no_headers, is_header_byte, is_header_name, is_line_byte, is_line_text, is_blank, trimmed, is_header_value, is_legal_pair, is_header_block, crlf, first_text, IsPairText, ArePairLines, AreBlockLines, IsBlock, pair_line, block_lines, has_none, written, before_cr, line_text, status_of, pair_from, pair_of, entry_of, with_front, read_entry, read_pairs, with_status, read_lines, read_block}
use Rattle.nats_text.proofs.Tokens.{pieces_first}
use Rattle.nats_text.proofs.Lines.{is_free, pieces-append}
use Rattle.nats_text.proofs.Trims.{are_blank, trimmed-between}
use Rattle.nats_text.proofs.Reading.{read_pairs-more, read_lines-more}

-- ---- tests

list_all-weaker : {X : Type 0} (p q : X → Bool) → ((x : X) → p x ≡ true → q x ≡ true) → (xs : List X) → list_all p xs ≡ true → list_all q xs ≡ true
list_all-weaker p q f [] h = refl
list_all-weaker p q f (x ∷ xs) h =
    let parts = and_parts (p x) (list_all p xs) h in
    and_from (q x) (list_all q xs) (f x parts.0) (list_all-weaker p q f xs parts.1)

all_joined : {X : Type 0} (p : X → Bool) (xs ys : List X) → list_all p xs ≡ true → list_all p ys ≡ true → list_all p (xs ++ ys) ≡ true
all_joined p xs ys g h = list_all-append p xs ys ∙ and_from (list_all p xs) (list_all p ys) g h

free_of_cr : (text : List ℕ) → is_line_text text ≡ true → is_free 13 text ≡ true
free_of_cr text h = list_all-weaker is_line_byte (λ b. not (eqb b 13)) (λ b g. (and_parts (not (eqb b 13)) (not (eqb b 10)) g).0) text h

free_of_lf : (text : List ℕ) → is_line_text text ≡ true → is_free 10 text ≡ true
free_of_lf text h = list_all-weaker is_line_byte (λ b. not (eqb b 10)) (λ b g. (and_parts (not (eqb b 13)) (not (eqb b 10)) g).1) text h

other_byte : (b c : ℕ) → (b ≡ c → ⊥) → not (eqb b c) ≡ true
other_byte b c h = not_from_false (eqb b c) (ne_eqb b c h)

blank_within : (b : ℕ) → is_blank b ≡ true → is_line_byte b ≡ true
blank_within b h =
    let P : ℕ → Type 0 = λ x. is_line_byte x ≡ true in
    elim (or_cases (eqb b 32) (eqb b 9) h) [ inl e ↦ subst P (sym (eqb-true b 32 e)) refl | inr e ↦ subst P (sym (eqb-true b 9 e)) refl ]

name_within : (b : ℕ) → is_header_byte b ≡ true → is_line_byte b ≡ true
name_within b h =
    let parts = and_parts (ltb 32 b && ltb b 127) (not (eqb b 58)) h in
    let above : 32 < b = ltb-true 32 b (and_parts (ltb 32 b) (ltb b 127) parts.0).0 in
    and_from (not (eqb b 13)) (not (eqb b 10)) (other_byte b 13 (λ e. omega arith)) (other_byte b 10 (λ e. omega arith))

-- ---- a line

-- a text, CR LF and a rest are cut after the text and its CR
pub line_cut : (text rest : List ℕ) → is_line_text text ≡ true → pieces 10 (text ++ crlf ++ rest) ≡ (text ++ 13 ∷ []) ∷ pieces 10 rest
line_cut text rest h =
    let free : is_free 10 (text ++ 13 ∷ []) ≡ true = all_joined (λ b. not (eqb b 10)) text (13 ∷ []) (free_of_lf text h) refl in
    ap (pieces 10) (append_assoc text crlf rest ∙ sym (append_assoc text (13 ∷ []) (10 ∷ rest))) ∙ pieces-append 10 (text ++ 13 ∷ []) rest free

pub line_text-line : (text : List ℕ) → is_line_text text ≡ true → line_text (text ++ 13 ∷ []) ≡ Some text
line_text-line text h = ap before_cr (pieces-append 13 text [] (free_of_cr text h))

-- ---- the first line

status_of-first_text : (status : Option (List ℕ)) → status_of (first_text status) ≡ Some status
status_of-first_text None = refl
status_of-first_text (Some status) = refl

first_within : (status : Option (List ℕ)) → option_map_or is_line_text status true ≡ true → is_line_text (first_text status) ≡ true
first_within None h = refl
first_within (Some status) h = h

-- ---- a pair's line

colon_behind : (n : ℕ) (name rest : List ℕ) → list_all is_header_byte name ≡ true → position_from (λ b. eqb b 58) n (name ++ 58 ∷ rest) ≡ Some (n + length name)
colon_behind n [] rest h = ap (λ k. Some k) (omega arith)
colon_behind n (b ∷ name) rest h =
    let parts = and_parts (is_header_byte b) (list_all is_header_byte name) h in
    let other = not-true (eqb b 58) (and_parts (ltb 32 b && ltb b 127) (not (eqb b 58)) parts.0).1 in
    cond-false (eqb b 58) (Some n) (position_from (λ x. eqb x 58) (n + 1) (name ++ 58 ∷ rest)) other
    ∙ (colon_behind (n + 1) name rest parts.1 ∙ ap (λ k. Some k) (omega arith))

pub pair_text_within : (pair : Pair) (text : List ℕ) → IsPairText pair text → is_legal_pair pair ≡ true → is_line_text text ≡ true
pair_text_within pair text h l =
    let parts = and_parts (is_header_name pair.name) (is_header_value pair.value) l in
    let name = list_all-weaker is_header_byte is_line_byte name_within pair.name (and_parts (ltb 0 (length pair.name)) (list_all is_header_byte pair.name) parts.0).1 in
    let value = (and_parts (is_line_text pair.value) (bytes_eq (trimmed pair.value) pair.value) parts.1).0 in
    let blanks = and_parts (are_blank h.before) (are_blank h.after) h.blanks in
    let before = list_all-weaker is_blank is_line_byte blank_within h.before blanks.0 in
    let after = list_all-weaker is_blank is_line_byte blank_within h.after blanks.1 in
    ap is_line_text h.spelled
    ∙ all_joined is_line_byte pair.name (58 ∷ (h.before ++ pair.value ++ h.after)) name
    (all_joined is_line_byte (h.before ++ pair.value) h.after (all_joined is_line_byte h.before pair.value before value) after)

take_name : (name behind : List ℕ) → take (0 + length name) (name ++ 58 ∷ behind) ≡ name
take_name name behind = ap (λ k. take k (name ++ 58 ∷ behind)) (omega arith) ∙ take-append_seam name (58 ∷ behind)

drop_name : (name behind : List ℕ) → drop (0 + length name + 1) (name ++ 58 ∷ behind) ≡ behind
drop_name [] behind = refl
drop_name (b ∷ name) behind =
    let e : 0 + length (b ∷ name) + 1 ≡ suc (0 + length name + 1) = omega arith in
    ap (λ k. drop k (b ∷ (name ++ 58 ∷ behind))) e ∙ drop_name name behind

entry_of-name : (name behind : List ℕ) → is_header_name name ≡ true → entry_of (name ++ 58 ∷ behind) ≡ Some (Some (record { name = name; value = trimmed behind }))
entry_of-name [] behind h = absurd (false≢true h)
entry_of-name (b ∷ bs) behind h =
    let name = b ∷ bs in
    let text = name ++ 58 ∷ behind in
    let place = colon_behind 0 name behind (and_parts (ltb 0 (length name)) (list_all is_header_byte name) h).1 in
    let found : pair_of text ≡ pair_from (take (0 + length name) text) (drop (0 + length name + 1) text) = ap (option_and_then (λ at. pair_from (take at text) (drop (at + 1) text))) place in
    let made : Pair = record { name = name; value = trimmed behind } in
    let read : pair_of text ≡ Some made =
    found ∙ (ap (λ xs. pair_from xs (drop (0 + length name + 1) text)) (take_name name behind)
    ∙ (ap (λ xs. pair_from name xs) (drop_name name behind) ∙ cond-true (is_header_name name) (Some made) None h)) in
    ap (option_map (λ pair. Some pair)) read

pub entry_of-pair : (pair : Pair) (text : List ℕ) → IsPairText pair text → is_legal_pair pair ≡ true → entry_of text ≡ Some (Some pair)
entry_of-pair pair text h l =
    let parts = and_parts (is_header_name pair.name) (is_header_value pair.value) l in
    let kept = (bytes_decides (trimmed pair.value) pair.value).0 (and_parts (is_line_text pair.value) (bytes_eq (trimmed pair.value) pair.value) parts.1).1 in
    let blanks = and_parts (are_blank h.before) (are_blank h.after) h.blanks in
    let value : trimmed (h.before ++ pair.value ++ h.after) ≡ pair.value = trimmed-between h.before pair.value h.after blanks.0 blanks.1 kept in
    ap entry_of h.spelled ∙ (entry_of-name pair.name (h.before ++ pair.value ++ h.after) parts.0 ∙ ap (λ v. Some (Some (record { name = pair.name; value = v }))) value)

pub read_pairs-lines : (place : ℕ) (pairs : List Pair) (bytes : List ℕ) → list_all is_legal_pair pairs ≡ true → ArePairLines pairs bytes → read_pairs place (pieces 10 bytes) ≡ Ok pairs
read_pairs-lines place [] bytes l h = ap (λ bs. read_pairs place (pieces 10 bs)) h
read_pairs-lines place (pair ∷ pairs) bytes l h =
    let text = h.0 in
    let rest = h.1 in
    let parts = and_parts (is_legal_pair pair) (list_all is_legal_pair pairs) l in
    let within = pair_text_within pair text h.3 parts.0 in
    let line = text ++ 13 ∷ [] in
    let next = place + length line + 1 in
    let entry : option_and_then entry_of (line_text line) ≡ Some (Some pair) = ap (option_and_then entry_of) (line_text-line text within) ∙ entry_of-pair pair text h.3 parts.0 in
    ap (λ bs. read_pairs place (pieces 10 bs)) h.2
    ∙ (ap (read_pairs place) (line_cut text rest within)
    ∙ (read_pairs-more place next line (pieces 10 rest) (pieces_first 10 rest) refl
    ∙ (ap (λ e. read_entry place next e (pieces 10 rest) (read_pairs next (pieces 10 rest))) entry
    ∙ ap (with_front (pair ∷ [])) (read_pairs-lines next pairs rest parts.1 h.4))))

read_block-filled : (status : Option (List ℕ)) (rest : List ℕ) → read_block (first_text status ++ crlf ++ rest) ≡ read_lines (pieces 10 (first_text status ++ crlf ++ rest))
read_block-filled None rest = refl
read_block-filled (Some status) rest = refl

read_block-lines : (block : HeaderBlock) (rest : List ℕ) → is_header_block block ≡ true → ArePairLines block.pairs rest → read_block (first_text block.status ++ crlf ++ rest) ≡ Ok block
read_block-lines block rest l h =
    let parts = and_parts (option_map_or is_line_text block.status true) (list_all is_legal_pair block.pairs) l in
    let within = first_within block.status parts.0 in
    let line = first_text block.status ++ 13 ∷ [] in
    let read = read_pairs (length line + 1) (pieces 10 rest) in
    let entry : option_and_then status_of (line_text line) ≡ Some block.status = ap (option_and_then status_of) (line_text-line (first_text block.status) within) ∙ status_of-first_text block.status in
    read_block-filled block.status rest
    ∙ (ap read_lines (line_cut (first_text block.status) rest within)
    ∙ (read_lines-more line (pieces 10 rest) (pieces_first 10 rest)
    ∙ (ap (λ e. with_status e read) entry
    ∙ ap (with_status (Some block.status)) (read_pairs-lines (length line + 1) block.pairs rest parts.1 h))))

pub read_block-block : (bytes : List ℕ) (block : HeaderBlock) → IsBlock bytes block → read_block bytes ≡ Ok block
read_block-block bytes block h =
    elim h.1 [ inl none ↦ ap read_block none.0 ∙ ap (λ b. Ok b) (sym none.1) | inr lines ↦ ap read_block lines.first ∙ read_block-lines block lines.rest h.0 lines.pairs ]

-- ---- what is written

written_pairs : (pairs : List Pair) → ArePairLines pairs (flat_map pair_line pairs ++ crlf)
written_pairs [] = refl
written_pairs (pair ∷ pairs) =
    let text = pair.name ++ 58 ∷ 32 ∷ pair.value in (
      text,
      flat_map pair_line pairs ++ crlf,
      append_assoc (pair_line pair) (flat_map pair_line pairs) crlf,
      record { before = 32 ∷ []; after = []; blanks = refl; spelled = ap (λ xs. pair.name ++ 58 ∷ xs) (sym (append-nil (32 ∷ pair.value))) },
      written_pairs pairs,
    )

lines_are : (block : HeaderBlock) → AreBlockLines (block_lines block) block
lines_are block = record {
  rest = flat_map pair_line block.pairs ++ crlf;
  first = append_assoc (first_text block.status ++ crlf) (flat_map pair_line block.pairs) crlf;
  pairs = written_pairs block.pairs;
}

no_status : (status : Option (List ℕ)) → is_none status ≡ true → status ≡ None
no_status None h = refl
no_status (Some status) h = cc

no_pairs : (pairs : List Pair) → eqb (length pairs) 0 ≡ true → pairs ≡ []
no_pairs [] h = refl
no_pairs (pair ∷ pairs) h = let e : suc (length pairs) ≡ 0 = eqb-true (suc (length pairs)) 0 h in absurd (omega arith)

none_is : (block : HeaderBlock) → has_none block ≡ true → block ≡ no_headers
none_is block h =
    let parts = and_parts (is_none block.status) (eqb (length block.pairs) 0) h in
    let made : Option (List ℕ) → List Pair → HeaderBlock = λ status pairs. record { status = status; pairs = pairs } in
    ap (λ s. made s block.pairs) (no_status block.status parts.0) ∙ ap (λ ps. made None ps) (no_pairs block.pairs parts.1)

pub written_is : (block : HeaderBlock) → is_header_block block ≡ true → IsBlock (written block) block
written_is block h =
    let P : Bool → Type 0 = λ t. has_none block ≡ t → IsBlock (cond t [] (block_lines block)) block in
    let go : (t : Bool) → P t = λ t. elim t as P [ true ↦ (λ e. (h, inl (refl, none_is block e))) | false ↦ (λ e. (h, inr (lines_are block))) ] in
    go (has_none block) refl

-- what is written is read again
pub reads_written : (block : HeaderBlock) → is_header_block block ≡ true → read_block (written block) ≡ Ok block
reads_written block h = read_block-block (written block) block (written_is block h)
