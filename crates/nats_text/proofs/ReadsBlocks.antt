-- What is read is a block.
use Rattle.std.proofs.Common.{◌≡◌, ◌⊎◌, inl, inr, ℕ, ◌+◌, ◌<◌, List, [], ◌∷◌, ◌++◌, length, take, drop, Bool, true, false, ◌&&◌, not, cond, eqb, Option, None, Some, Result, Ok, Err, refl, sym, ap, ◌∙◌, subst, append_assoc}
use Rattle.std.specs.Prelude.{MatchOption}
use Rattle.std.specs.List.{list_all, position_from}
use Rattle.std.specs.Option.{option_map, option_map_or, option_and_then}
use Rattle.std.specs.Str.{bytes_eq}
use Rattle.std.specs.Cmp.Lexicographic.{bytes_decides}
use Rattle.std.proofs.lemmas.Bool.{and_parts, and_from, eqb-true}
use Rattle.std.proofs.lemmas.Option.{cond_some, same_Some, option_and_then_some}
use Rattle.std.proofs.lemmas.List.{take-append-drop}
use Rattle.std.proofs.lemmas.List.Folds.{list_all-append}
use Rattle.nats_text.specs.declared.headers.Pair.{Pair}
use Rattle.nats_text.specs.Pieces.{pieces}
use Rattle.nats_text.specs.Headers.{HeaderBlock, no_headers, is_header_name, is_line_byte, is_line_text, trimmed, trim_start, is_header_value, is_legal_pair, is_header_block, crlf, version, first_text, IsPairText, ArePairLines, AreBlockLines, IsBlock, before_cr, line_text, status_behind, status_of, pair_from, pair_of, entry_of, is_end, with_front, read_entry, read_pairs, with_status, read_lines, read_block}
use Rattle.nats_text.proofs.Cuts.{at_place}
use Rattle.nats_text.proofs.Lines.{is_free, joined, joined-pieces, pieces_free, cut_is}
use Rattle.nats_text.proofs.Trims.{are_blank, trim_start_is, trim_end_is, trimmed-trimmed}

-- ---- tests

ok_chosen : {A B : Type 0} (t : Bool) (x y : A) (e : B) → cond t (Ok x) (Err e) ≡ Ok y → (t ≡ true) × (x ≡ y)
ok_chosen true x y e h = (refl, cc)
ok_chosen false x y e h = cc

list_all-both : {X : Type 0} (p q : X → Bool) (xs : List X) → list_all p xs ≡ true → list_all q xs ≡ true → list_all (λ x. p x && q x) xs ≡ true
list_all-both p q [] g h = refl
list_all-both p q (x ∷ xs) g h =
    let f = and_parts (p x) (list_all p xs) g in
    let s = and_parts (q x) (list_all q xs) h in
    and_from (p x && q x) (list_all (λ y. p y && q y) xs) (and_from (p x) (q x) f.0 s.0) (list_all-both p q xs f.1 s.1)

all_front : {X : Type 0} (p : X → Bool) (xs ys : List X) → list_all p (xs ++ ys) ≡ true → list_all p xs ≡ true
all_front p xs ys h = (and_parts (list_all p xs) (list_all p ys) (sym (list_all-append p xs ys) ∙ h)).0

pub all_back : {X : Type 0} (p : X → Bool) (xs ys : List X) → list_all p (xs ++ ys) ≡ true → list_all p ys ≡ true
all_back p xs ys h = (and_parts (list_all p xs) (list_all p ys) (sym (list_all-append p xs ys) ∙ h)).1

-- ---- a line's text

-- the line is the text and a CR, and the text has neither CR nor LF
pub record IsLine (line text : List ℕ) : Type 0 where
  pub is : line ≡ text ++ 13 ∷ []
  pub within : is_line_text text ≡ true

before_cr-some : (parts : List (List ℕ)) (text : List ℕ) → before_cr parts ≡ Some text → parts ≡ text ∷ [] ∷ []
before_cr-some [] text h = cc
before_cr-some (part ∷ []) text h = cc
before_cr-some (part ∷ [] ∷ []) text h = ap (λ t. t ∷ [] ∷ []) (same_Some part text h)
before_cr-some (part ∷ [] ∷ more ∷ others) text h = cc
before_cr-some (part ∷ (b ∷ bs) ∷ others) text h = cc

pub line_text-some : (line text : List ℕ) → line_text line ≡ Some text → is_free 10 line ≡ true → IsLine line text
line_text-some line text h free =
    let parts = before_cr-some (pieces 13 line) text h in
    let is : line ≡ text ++ 13 ∷ [] = sym (joined-pieces 13 line) ∙ ap (joined 13) parts in
    let no_cr = (and_parts (is_free 13 text) true (ap (list_all (is_free 13)) (sym parts) ∙ pieces_free 13 line)).0 in
    let no_lf = all_front (λ b. not (eqb b 10)) text (13 ∷ []) (ap (is_free 10) (sym is) ∙ free) in
    record { is = is; within = list_all-both (λ b. not (eqb b 13)) (λ b. not (eqb b 10)) text no_cr no_lf }

-- ---- the first line

status_behind-some : (behind : List ℕ) (status : Option (List ℕ)) → status_behind behind ≡ Some status → version ++ behind ≡ first_text status
status_behind-some [] status h = ap first_text (same_Some None status h)
status_behind-some (b ∷ bs) status h =
    let found = cond_some (eqb b 32) (Some bs) status h in
    ap (λ c. version ++ c ∷ bs) (eqb-true b 32 found.0) ∙ ap first_text found.1

pub status_of-some : (text : List ℕ) (status : Option (List ℕ)) → status_of text ≡ Some status → text ≡ first_text status
status_of-some text status h =
    let t = bytes_eq (take 8 text) version in
    let P : Bool → Type 0 = λ b. t ≡ b → cond b (status_behind (drop 8 text)) None ≡ Some status → text ≡ first_text status in
    let go : (b : Bool) → P b = λ b. elim b as P [
      | true ↦ (λ e g. sym (take-append-drop 8 text) ∙ (ap (λ xs. xs ++ drop 8 text) ((bytes_decides (take 8 text) version).0 e) ∙ status_behind-some (drop 8 text) status g))
      | false ↦ (λ e g. cc)
    ] in
    go t refl h

-- ---- a pair's line

trimmed_is : (bs : List ℕ) → (before : List ℕ) × (after : List ℕ) × (are_blank before ≡ true) × (are_blank after ≡ true) × (bs ≡ before ++ trimmed bs ++ after)
trimmed_is bs =
    let start = trim_start_is bs in
    let end = trim_end_is (trim_start bs) in
    (start.blanks, end.blanks, start.blank, end.blank, start.is ∙ (ap (λ xs. start.blanks ++ xs) end.is ∙ sym (append_assoc start.blanks (trimmed bs) end.blanks)))

-- what a line's text gives
pub record GivesPair (text : List ℕ) (pair : Pair) : Type 0 where
  pub legal : is_legal_pair pair ≡ true
  pub spelled : IsPairText pair text

pair_from-some : (text name behind : List ℕ) (pair : Pair) → pair_from name behind ≡ Some pair → text ≡ name ++ 58 ∷ behind → is_line_text text ≡ true → GivesPair text pair
pair_from-some text name behind pair h is within =
    let made : Pair = record { name = name; value = trimmed behind } in
    let found = cond_some (is_header_name name) made pair h in
    let parts = trimmed_is behind in
    let behind_within : is_line_text behind ≡ true = all_back is_line_byte (58 ∷ []) behind (all_back is_line_byte name (58 ∷ behind) (ap is_line_text (sym is) ∙ within)) in
    let value_within : is_line_text (trimmed behind) ≡ true = all_back is_line_byte parts.0 (trimmed behind) (all_front is_line_byte (parts.0 ++ trimmed behind) parts.1 (ap is_line_text (sym parts.4) ∙ behind_within)) in
    let kept = (bytes_decides (trimmed (trimmed behind)) (trimmed behind)).1 (trimmed-trimmed behind) in
    let gives : GivesPair text made = record {
      legal = and_from (is_header_name name) (is_header_value (trimmed behind)) found.0 (and_from (is_line_text (trimmed behind)) (bytes_eq (trimmed (trimmed behind)) (trimmed behind)) value_within kept);
      spelled = record { before = parts.0; after = parts.1; blanks = and_from (are_blank parts.0) (are_blank parts.1) parts.2 parts.3; spelled = is ∙ ap (λ xs. name ++ 58 ∷ xs) parts.4 };
    } in
    subst (GivesPair text) found.1 gives

colon_at : (text : List ℕ) (at : ℕ) → position_from (λ b. eqb b 58) 0 text ≡ Some at → text ≡ take at text ++ 58 ∷ drop (at + 1) text
colon_at text at h =
    let P : Option ℕ → Type 0 = λ place. MatchOption place (pieces 58 text ≡ text ∷ []) (λ k. (k < length text) × (pieces 58 text ≡ take k text ∷ pieces 58 (drop (k + 1) text))) in
    let cut : (at < length text) × (pieces 58 text ≡ take at text ∷ pieces 58 (drop (at + 1) text)) = at_place 58 text (Some at) (sym h) in
    cut_is 58 text (take at text) (drop (at + 1) text) cut.1

pub pair_of-some : (text : List ℕ) (pair : Pair) → pair_of text ≡ Some pair → is_line_text text ≡ true → GivesPair text pair
pair_of-some text pair h within =
    option_and_then_some (λ at. pair_from (take at text) (drop (at + 1) text)) (position_from (λ b. eqb b 58) 0 text) pair h
    (λ at place found. pair_from-some text (take at text) (drop (at + 1) text) pair found (colon_at text at place) within)

-- ---- the lines of the pairs

some_some : (o : Option Pair) (entry : Option Pair) → option_map (λ pair. Some pair) o ≡ Some entry → (pair : Pair) × (o ≡ Some pair) × (entry ≡ Some pair)
some_some None entry h = cc
some_some (Some pair) entry h = (pair, refl, sym (same_Some (Some pair) entry h))

entry_of-none : (text : List ℕ) → entry_of text ≡ Some None → text ≡ []
entry_of-none [] h = refl
entry_of-none (b ∷ bs) h = let found = some_some (pair_of (b ∷ bs)) None h in absurd (none_some found.2)
  where
    none_some : {x : Pair} → None ≡ Some x → ⊥
    none_some e = cc

pub entry_of-some : (text : List ℕ) (pair : Pair) → entry_of text ≡ Some (Some pair) → pair_of text ≡ Some pair
entry_of-some [] pair h = absurd (none_some (same_Some None (Some pair) h))
  where
    none_some : {x : Pair} → None ≡ Some x → ⊥
    none_some e = cc
entry_of-some (b ∷ bs) pair h = let found = some_some (pair_of (b ∷ bs)) (Some pair) h in found.1 ∙ sym found.2

is_end-true : (lines : List (List ℕ)) → is_end lines ≡ true → lines ≡ [] ∷ []
is_end-true [] h = cc
is_end-true ([] ∷ []) h = refl
is_end-true ([] ∷ line ∷ lines) h = cc
is_end-true ((b ∷ bs) ∷ lines) h = cc

-- pairs are read from lines
pub record GivesPairs (bytes : List ℕ) (pairs : List Pair) : Type 0 where
  pub legal : list_all is_legal_pair pairs ≡ true
  pub lines : ArePairLines pairs bytes

-- an entry that is read, before what follows
pub record GivesMore (entry : Option (Option Pair)) (read : Result (List Pair) ℕ) (pairs : List Pair) : Type 0 where
  pub pair : Pair
  pub others : List Pair
  pub entry_is : entry ≡ Some (Some pair)
  pub read_is : read ≡ Ok others
  pub pairs_are : pair ∷ others ≡ pairs

-- the empty line, with nothing behind it
pub record GivesEnd (entry : Option (Option Pair)) (lines : List (List ℕ)) (pairs : List Pair) : Type 0 where
  pub entry_is : entry ≡ Some None
  pub last : lines ≡ [] ∷ []
  pub pairs_are : [] ≡ pairs

pub with_front-ok : (pair : Pair) (read : Result (List Pair) ℕ) (pairs : List Pair) → with_front (pair ∷ []) read ≡ Ok pairs → (others : List Pair) × (read ≡ Ok others) × (pair ∷ others ≡ pairs)
with_front-ok pair (Ok others) pairs h = (others, refl, cc)
with_front-ok pair (Err place) pairs h = cc

read_entry-ok : (place next : ℕ) (entry : Option (Option Pair)) (lines : List (List ℕ)) (read : Result (List Pair) ℕ) (pairs : List Pair) → read_entry place next entry lines read ≡ Ok pairs → GivesEnd entry lines pairs ⊎ GivesMore entry read pairs
read_entry-ok place next None lines read pairs h = cc
read_entry-ok place next (Some None) lines read pairs h =
    let found = ok_chosen (is_end lines) [] pairs next h in
    inl (record { entry_is = refl; last = is_end-true lines found.0; pairs_are = found.1 })
read_entry-ok place next (Some (Some pair)) lines read pairs h =
    let found = with_front-ok pair read pairs h in
    inr (record { pair = pair; others = found.0; entry_is = refl; read_is = found.1; pairs_are = found.2 })

-- what a line's text is, from its entry
pub record HasText {E : Type 0} (of_text : List ℕ → Option E) (line : List ℕ) (entry : E) : Type 0 where
  pub text : List ℕ
  pub line_is : IsLine line text
  pub entry_is : of_text text ≡ Some entry

pub has_text : {E : Type 0} (of_text : List ℕ → Option E) (line : List ℕ) (entry : E) → option_and_then of_text (line_text line) ≡ Some entry → is_free 10 line ≡ true → HasText of_text line entry
has_text of_text line entry h free =
    option_and_then_some of_text (line_text line) entry h
    (λ text is found. record { text = text; line_is = line_text-some line text is free; entry_is = found })

-- a line with its LF, and what follows
line_bytes : (line text rest : List ℕ) → line ≡ text ++ 13 ∷ [] → line ++ 10 ∷ rest ≡ text ++ crlf ++ rest
line_bytes line text rest e =
    ap (λ xs. xs ++ 10 ∷ rest) e ∙ (append_assoc text (13 ∷ []) (10 ∷ rest) ∙ sym (append_assoc text crlf rest))

pub end_line : (line : List ℕ) → HasText entry_of line None → line ++ 10 ∷ [] ≡ crlf
end_line line h =
    ap (λ xs. xs ++ 10 ∷ []) (h.line_is.is ∙ ap (λ xs. xs ++ 13 ∷ []) (entry_of-none h.text h.entry_is))

pub read_pairs-ok : (place : ℕ) (lines : List (List ℕ)) (pairs : List Pair) → read_pairs place lines ≡ Ok pairs → list_all (is_free 10) lines ≡ true → GivesPairs (joined 10 lines) pairs
read_pairs-ok place [] pairs h free = cc
read_pairs-ok place (line ∷ []) pairs h free = cc
read_pairs-ok place (line ∷ other ∷ lines) pairs h free =
    let next = place + length line + 1 in
    let read = read_pairs next (other ∷ lines) in
    let entry = option_and_then entry_of (line_text line) in
    let parts = and_parts (is_free 10 line) (list_all (is_free 10) (other ∷ lines)) free in
    let at_end : GivesEnd entry (other ∷ lines) pairs → GivesPairs (joined 10 (line ∷ other ∷ lines)) pairs = λ found.
    let text = has_text entry_of line None found.entry_is parts.0 in
    let bytes : joined 10 (line ∷ other ∷ lines) ≡ crlf = ap (λ ls. line ++ 10 ∷ joined 10 ls) found.last ∙ end_line line text in
    subst (GivesPairs (joined 10 (line ∷ other ∷ lines))) found.pairs_are (record { legal = refl; lines = bytes }) in
    let before : GivesMore entry read pairs → GivesPairs (joined 10 (line ∷ other ∷ lines)) pairs = λ found.
    let text = has_text entry_of line (Some found.pair) found.entry_is parts.0 in
    let pair = pair_of-some text.text found.pair (entry_of-some text.text found.pair text.entry_is) text.line_is.within in
    let rest = read_pairs-ok next (other ∷ lines) found.others found.read_is parts.1 in
    subst (GivesPairs (joined 10 (line ∷ other ∷ lines))) found.pairs_are (record {
      legal = and_from (is_legal_pair found.pair) (list_all is_legal_pair found.others) pair.legal rest.legal;
      lines = (text.text, joined 10 (other ∷ lines), line_bytes line text.text (joined 10 (other ∷ lines)) text.line_is.is, pair.spelled, rest.lines);
    }) in
    elim (read_entry-ok place next entry (other ∷ lines) read pairs h) [ inl found ↦ at_end found | inr found ↦ before found ]

-- ---- the block

with_status-ok : (entry : Option (Option (List ℕ))) (read : Result (List Pair) ℕ) (block : HeaderBlock) → with_status entry read ≡ Ok block → (status : Option (List ℕ)) × (pairs : List Pair) × (entry ≡ Some status) × (read ≡ Ok pairs) × (record { status = status; pairs = pairs } ≡ block)
with_status-ok None read block h = cc
with_status-ok (Some status) (Ok pairs) block h = (status, pairs, refl, refl, cc)
with_status-ok (Some status) (Err place) block h = cc

status_within : (status : Option (List ℕ)) → is_line_text (first_text status) ≡ true → option_map_or is_line_text status true ≡ true
status_within None h = refl
status_within (Some status) h = all_back is_line_byte (32 ∷ []) status (all_back is_line_byte version (32 ∷ status) h)

read_lines-ok : (lines : List (List ℕ)) (block : HeaderBlock) → read_lines lines ≡ Ok block → list_all (is_free 10) lines ≡ true → (is_header_block block ≡ true) × AreBlockLines (joined 10 lines) block
read_lines-ok [] block h free = cc
read_lines-ok (line ∷ []) block h free = cc
read_lines-ok (line ∷ other ∷ lines) block h free =
    let found = with_status-ok (option_and_then status_of (line_text line)) (read_pairs (length line + 1) (other ∷ lines)) block h in
    let status = found.0 in
    let pairs = found.1 in
    let parts = and_parts (is_free 10 line) (list_all (is_free 10) (other ∷ lines)) free in
    let text = has_text status_of line status found.2 parts.0 in
    let is = status_of-some text.text status text.entry_is in
    let gives = read_pairs-ok (length line + 1) (other ∷ lines) pairs found.3 parts.1 in
    let P : HeaderBlock → Type 0 = λ b. (is_header_block b ≡ true) × AreBlockLines (joined 10 (line ∷ other ∷ lines)) b in
    subst P found.4 (
      and_from (option_map_or is_line_text status true) (list_all is_legal_pair pairs) (status_within status (ap is_line_text (sym is) ∙ text.line_is.within)) gives.legal,
      record {
        rest = joined 10 (other ∷ lines);
        first = line_bytes line text.text (joined 10 (other ∷ lines)) text.line_is.is ∙ ap (λ xs. xs ++ crlf ++ joined 10 (other ∷ lines)) is;
        pairs = gives.lines;
      },
    )

pub read_block-ok : (bytes : List ℕ) (block : HeaderBlock) → read_block bytes ≡ Ok block → IsBlock bytes block
read_block-ok [] block h =
    let P : HeaderBlock → Type 0 = λ b. (is_header_block b ≡ true) × (no_headers ≡ b) in
    let e : no_headers ≡ block = cc in
    let found = subst P e (refl, refl) in
    (found.0, inl (refl, sym e))
read_block-ok (b ∷ bs) block h =
    let found = read_lines-ok (pieces 10 (b ∷ bs)) block h (pieces_free 10 (b ∷ bs)) in
    let P : List ℕ → Type 0 = λ xs. AreBlockLines xs block in
    (found.0, inr (subst P (joined-pieces 10 (b ∷ bs)) found.1))
