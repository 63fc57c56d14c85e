-- Blocks that are as the writer makes them, told line by line.
use Rattle.std.proofs.Common.{◌≡◌, ℕ, ◌+◌, ◌-◌, List, [], ◌∷◌, ◌++◌, length, take, drop, Bool, true, false, eqb, Option, None, Some, Result, Ok, Err, refl, sym, ap, ◌∙◌, append_assoc, arith}
use Rattle.std.specs.Prelude.{IsTrue, ◌↔◌}
use Rattle.std.specs.List.{list_all, flat_map}
use Rattle.std.specs.Option.{option_map, option_copied, option_and_then, is_some}
use Rattle.std.specs.Borrow.{Bor}
use Rattle.std.specs.Str.{bytes_eq}
use Rattle.std.specs.Cmp.Lexicographic.{bytes_decides}
use Rattle.std.proofs.lemmas.Bool.{and_parts, false_from_ne_true, ne_eqb, true≢false, false≢true}
use Rattle.std.proofs.lemmas.Bool.Decides.{same_from_decides}
use Rattle.std.proofs.lemmas.List.{append-nil, append_cancel_left, take-append-drop}
use Rattle.std.proofs.Math.Seq.{take-append_seam}
use Rattle.nats_text.specs.declared.headers.Pair.{Pair}
use Rattle.nats_text.specs.Pieces.{pieces}
use Rattle.nats_text.specs.Headers.{crlf, first_text, pair_line, written, IsPairText, line_text, status_of, entry_of, with_front, read_entry, read_pairs, with_status, read_block, is_written_as, are_written_as}
use Rattle.nats_text.proofs.Lines.{is_free, pieces_free, cut_is}
use Rattle.nats_text.proofs.Reading.{read_pairs-cut, read_block-cut, is_end-more}
use Rattle.nats_text.proofs.ReadsBlocks.{has_text, entry_of-some, pair_of-some, end_line, status_of-some}
use Rattle.nats_text.proofs.WritesBlocks.{pair_text_within, line_cut}

-- ---- tests of bytes

bytes_are : (a b : List ℕ) → a ≡ b → bytes_eq a b ≡ true
bytes_are a b e = (bytes_decides a b).1 e

bytes_differ : (a b : List ℕ) → (a ≡ b → ⊥) → bytes_eq a b ≡ false
bytes_differ a b f = false_from_ne_true (bytes_eq a b) (λ h. f ((bytes_decides a b).0 h))

behind_front : (front a b : List ℕ) → bytes_eq (front ++ a) (front ++ b) ≡ bytes_eq a b
behind_front front a b =
    same_from_decides (bytes_eq (front ++ a) (front ++ b)) (bytes_eq a b)
    (λ h. append_cancel_left front a b ((bytes_decides (front ++ a) (front ++ b)).0 h), λ e. bytes_are (front ++ a) (front ++ b) (ap (λ t. front ++ t) e))
    (bytes_decides a b)

-- ---- a line

-- what stands behind bytes at the front
stripped : (bytes front rest : List ℕ) → bytes_eq (take (length front) bytes) front ≡ true → rest ≡ drop (length front) bytes → bytes ≡ front ++ rest
stripped bytes front rest same is =
    sym (take-append-drop (length front) bytes) ∙ (ap (λ t. t ++ drop (length front) bytes) ((bytes_decides (take (length front) bytes) front).0 same) ∙ ap (λ t. front ++ t) (sym is))

not_stripped : (bytes front rest : List ℕ) → bytes_eq (take (length front) bytes) front ≡ false → bytes ≡ front ++ rest → ⊥
not_stripped bytes front rest other is =
    let same : take (length front) bytes ≡ front = ap (take (length front)) is ∙ take-append_seam front rest in
    true≢false (sym (bytes_are (take (length front) bytes) front same) ∙ other)

-- the line of a pair, whose LF is taken off
abbrev pub line_of : List ℕ → List ℕ → List ℕ
line_of name value = name ++ 58 ∷ 32 ∷ value ++ 13 ∷ []

abbrev pub IsLineOf : Bool → List ℕ → List ℕ → List ℕ → Type 0
IsLineOf same line name value = IsTrue same ↔ (line ≡ line_of name value)

no_line_of : (line name value : List ℕ) → (line ≡ line_of name value → ⊥) → IsLineOf false line name value
no_line_of line name value f = (λ h. absurd (false≢true h), λ e. absurd (f e))

pub other_name : (line name value : List ℕ) → bytes_eq (take (length name) line) name ≡ false → IsLineOf false line name value
other_name line name value other =
    no_line_of line name value (λ e. not_stripped line name (58 ∷ 32 ∷ value ++ 13 ∷ []) other (e ∙ append_assoc name (58 ∷ 32 ∷ value) (13 ∷ [])))

-- the name, and what stands behind the colon and its space
behind_space : (line name colon behind : List ℕ) → bytes_eq (take (length name) line) name ≡ true → colon ≡ drop (length name) line → bytes_eq (take 2 colon) (58 ∷ 32 ∷ []) ≡ true → behind ≡ drop 2 colon → line ≡ name ++ (58 ∷ 32 ∷ behind)
behind_space line name colon behind same is spaced rest =
    stripped line name colon same is ∙ ap (λ t. name ++ t) (stripped colon (58 ∷ 32 ∷ []) behind spaced rest)

-- a line of the pair has the value and CR there
space_of : (line name value behind : List ℕ) → line ≡ name ++ (58 ∷ 32 ∷ behind) → line ≡ line_of name value → behind ≡ value ++ 13 ∷ []
space_of line name value behind is e =
    let same : name ++ (58 ∷ 32 ∷ []) ++ behind ≡ name ++ (58 ∷ 32 ∷ []) ++ (value ++ 13 ∷ []) = append_assoc name (58 ∷ 32 ∷ []) behind ∙ (sym is ∙ (e ∙ (append_assoc name (58 ∷ 32 ∷ value) (13 ∷ []) ∙ sym (append_assoc name (58 ∷ 32 ∷ []) (value ++ 13 ∷ []))))) in
    append_cancel_left (name ++ (58 ∷ 32 ∷ [])) behind (value ++ 13 ∷ []) same

pub other_value : (line name value colon behind : List ℕ) → bytes_eq (take (length name) line) name ≡ true → colon ≡ drop (length name) line → bytes_eq (take 2 colon) (58 ∷ 32 ∷ []) ≡ true → behind ≡ drop 2 colon
    → bytes_eq (take (length value) behind) value ≡ false → IsLineOf false line name value
other_value line name value colon behind same is spaced rest other =
    no_line_of line name value (λ e. not_stripped behind value (13 ∷ []) other (space_of line name value behind (behind_space line name colon behind same is spaced rest) e))

pub same_end : (line name value colon behind end : List ℕ) → bytes_eq (take (length name) line) name ≡ true → colon ≡ drop (length name) line → bytes_eq (take 2 colon) (58 ∷ 32 ∷ []) ≡ true → behind ≡ drop 2 colon
    → bytes_eq (take (length value) behind) value ≡ true → end ≡ drop (length value) behind → IsLineOf (bytes_eq end (13 ∷ [])) line name value
same_end line name value colon behind end same is spaced rest valued last =
    let whole : line ≡ name ++ (58 ∷ 32 ∷ behind) = behind_space line name colon behind same is spaced rest in
    let value_is : behind ≡ value ++ end = stripped behind value end valued last in (
      λ h.
          let cr : end ≡ 13 ∷ [] = (bytes_decides end (13 ∷ [])).0 h in
          whole ∙ (ap (λ t. name ++ (58 ∷ 32 ∷ t)) (value_is ∙ ap (λ t. value ++ t) cr) ∙ sym (append_assoc name (58 ∷ 32 ∷ value) (13 ∷ []))),
      λ e. bytes_are end (13 ∷ []) (append_cancel_left value end (13 ∷ []) (sym value_is ∙ space_of line name value behind whole e)),
    )

-- ---- the lines of the pairs

-- the text of a pair's line, as the writer makes it
abbrev pub pair_text : Pair → List ℕ
pair_text pair = pair.name ++ 58 ∷ 32 ∷ pair.value

-- the lines that are written of one pair more
lines_with : (pair : Pair) (pairs : List Pair) → flat_map pair_line (pair ∷ pairs) ++ crlf ≡ pair_line pair ++ (flat_map pair_line pairs ++ crlf)
lines_with pair pairs = append_assoc (pair_line pair) (flat_map pair_line pairs) crlf

-- behind the line that is written of the first pair
written_on : (pair : Pair) (read : Result (List Pair) ℕ) (behind : List ℕ) → are_written_as (pair_line pair ++ behind) (with_front (pair ∷ []) read) ≡ are_written_as behind read
written_on pair (Ok pairs) behind =
    ap (λ t. bytes_eq t (pair_line pair ++ behind)) (lines_with pair pairs) ∙ behind_front (pair_line pair) (flat_map pair_line pairs ++ crlf) behind
written_on pair (Err place) behind = refl

-- behind another line than the one that is written of the first pair
not_on : (pair : Pair) (read : Result (List Pair) ℕ) (bytes : List ℕ) → ((more : List ℕ) → bytes ≡ pair_line pair ++ more → ⊥) → are_written_as bytes (with_front (pair ∷ []) read) ≡ false
not_on pair (Ok pairs) bytes f =
    bytes_differ (flat_map pair_line (pair ∷ pairs) ++ crlf) bytes (λ e. f (flat_map pair_line pairs ++ crlf) (sym e ∙ lines_with pair pairs))
not_on pair (Err place) bytes f = refl

same_first : (line other : List ℕ) (ls ms : List (List ℕ)) → line ∷ ls ≡ other ∷ ms → line ≡ other
same_first line other ls ms e = cc

-- a first line that is cut has no LF
line_free : (rest line behind : List ℕ) → pieces 10 rest ≡ line ∷ pieces 10 behind → is_free 10 line ≡ true
line_free rest line behind cut = (and_parts (is_free 10 line) (list_all (is_free 10) (pieces 10 behind)) (ap (list_all (is_free 10)) (sym cut) ∙ pieces_free 10 rest)).0

-- lines that begin with what is written of a pair begin with its line
written_line : (rest line behind more : List ℕ) (pair : Pair) → pieces 10 rest ≡ line ∷ pieces 10 behind → option_and_then entry_of (line_text line) ≡ Some (Some pair) → rest ≡ pair_line pair ++ more → line ≡ pair_text pair ++ 13 ∷ []
written_line rest line behind more pair cut entry is =
    let text = has_text entry_of line (Some pair) entry (line_free rest line behind cut) in
    let legal = (pair_of-some text.text pair (entry_of-some text.text pair text.entry_is) text.line_is.within).legal in
    let spelled : IsPairText pair (pair_text pair) = record { before = 32 ∷ []; after = []; blanks = refl; spelled = ap (λ xs. pair.name ++ 58 ∷ xs) (sym (append-nil (32 ∷ pair.value))) } in
    let within = pair_text_within pair (pair_text pair) spelled legal in
    same_first line (pair_text pair ++ 13 ∷ []) (pieces 10 behind) (pieces 10 more) (sym cut ∙ (ap (pieces 10) is ∙ line_cut (pair_text pair) more within))

-- lines whose first is written of a pair begin with what is written of it
written_front : (rest line behind : List ℕ) (pair : Pair) → pieces 10 rest ≡ line ∷ pieces 10 behind → line ≡ pair_text pair ++ 13 ∷ [] → rest ≡ pair_line pair ++ behind
written_front rest line behind pair cut is =
    cut_is 10 rest line behind cut
    ∙ (ap (λ l. l ++ 10 ∷ behind) is ∙ (append_assoc (pair_text pair) (13 ∷ []) (10 ∷ behind) ∙ sym (append_assoc (pair_text pair) crlf behind)))

-- what the lines of the pairs give from a place on
abbrev pub written_from : ℕ → List ℕ → Bool
written_from place lines = are_written_as lines (read_pairs place (pieces 10 lines))

-- where the lines behind the first are read
abbrev pub next_place : ℕ → List ℕ → List ℕ → ℕ
next_place place rest behind = place + (length rest - length behind)

-- a line that is written of its pair leaves it to the lines behind it
pub written_behind : (place : ℕ) (rest line behind : List ℕ) (pair : Pair) → pieces 10 rest ≡ line ∷ pieces 10 behind → option_and_then entry_of (line_text line) ≡ Some (Some pair) → line ≡ pair_text pair ++ 13 ∷ []
    → written_from (next_place place rest behind) behind ≡ written_from place rest
written_behind place rest line behind pair cut entry is =
    let next = next_place place rest behind in
    let read = read_pairs next (pieces 10 behind) in
    let reads : read_pairs place (pieces 10 rest) ≡ with_front (pair ∷ []) read = read_pairs-cut place rest line behind cut ∙ ap (λ e. read_entry place next e (pieces 10 behind) read) entry in
    sym (ap (are_written_as rest) reads ∙ (ap (λ bytes. are_written_as bytes (with_front (pair ∷ []) read)) (written_front rest line behind pair cut is) ∙ written_on pair read behind))

-- a line that isn't written of its pair is in no written block
pub other_line : (place : ℕ) (rest line behind : List ℕ) (pair : Pair) → pieces 10 rest ≡ line ∷ pieces 10 behind → option_and_then entry_of (line_text line) ≡ Some (Some pair) → (line ≡ pair_text pair ++ 13 ∷ [] → ⊥)
    → written_from place rest ≡ false
other_line place rest line behind pair cut entry other =
    let next = next_place place rest behind in
    let read = read_pairs next (pieces 10 behind) in
    let reads : read_pairs place (pieces 10 rest) ≡ with_front (pair ∷ []) read = read_pairs-cut place rest line behind cut ∙ ap (λ e. read_entry place next e (pieces 10 behind) read) entry in
    ap (are_written_as rest) reads ∙ not_on pair read rest (λ more is. other (written_line rest line behind more pair cut entry is))

at_end : (place next : ℕ) (rest behind : List ℕ) (read : Result (List Pair) ℕ) → rest ≡ crlf ++ behind → are_written_as rest (read_entry place next (Some None) (pieces 10 behind) read) ≡ eqb (length behind) 0
at_end place next rest [] read is = bytes_are crlf rest (sym is)
at_end place next rest (b ∷ bs) read is =
    let more = ne_eqb (length (b ∷ bs)) 0 (λ e. omega arith) in
    rw (is_end-more (b ∷ bs) more) (sym more)

-- the empty line ends the block exactly where nothing stands behind it
pub empty_line : (place : ℕ) (rest line behind : List ℕ) → pieces 10 rest ≡ line ∷ pieces 10 behind → option_and_then entry_of (line_text line) ≡ Some None → written_from place rest ≡ eqb (length behind) 0
empty_line place rest line behind cut entry =
    let next = next_place place rest behind in
    let read = read_pairs next (pieces 10 behind) in
    let text = has_text entry_of line None entry (line_free rest line behind cut) in
    let is : rest ≡ crlf ++ behind = cut_is 10 rest line behind cut ∙ (sym (append_assoc line (10 ∷ []) behind) ∙ ap (λ l. l ++ behind) (end_line line text)) in
    ap (are_written_as rest) (read_pairs-cut place rest line behind cut ∙ ap (λ e. read_entry place next e (pieces 10 behind) read) entry) ∙ at_end place next rest behind read is

-- a bad line is in no block
pub bad_entry : (place : ℕ) (rest line behind : List ℕ) → pieces 10 rest ≡ line ∷ pieces 10 behind → option_and_then entry_of (line_text line) ≡ None → written_from place rest ≡ false
bad_entry place rest line behind cut entry =
    let next = next_place place rest behind in
    let read = read_pairs next (pieces 10 behind) in
    ap (are_written_as rest) (read_pairs-cut place rest line behind cut ∙ ap (λ e. read_entry place next e (pieces 10 behind) read) entry)

-- nor are lines without an empty one
pub no_line : (place : ℕ) (rest : List ℕ) → pieces 10 rest ≡ rest ∷ [] → written_from place rest ≡ false
no_line place rest cut = ap (λ ls. are_written_as rest (read_pairs place ls)) cut

-- ---- the block

-- a block without status and pairs, as the bytes would spell it
abbrev pub bare : List ℕ
bare = first_text None ++ crlf ++ crlf

first_line : (line lines : List ℕ) (status : Option (List ℕ)) → line ≡ first_text status ++ 13 ∷ [] → line ++ 10 ∷ lines ≡ first_text status ++ crlf ++ lines
first_line line lines status is =
    ap (λ l. l ++ 10 ∷ lines) is ∙ (append_assoc (first_text status) (13 ∷ []) (10 ∷ lines) ∙ sym (append_assoc (first_text status) crlf lines))

-- the lines behind the first decide, but where they would be those of no headers
decides : (status : Option (List ℕ)) (read : Result (List Pair) ℕ) (lines : List ℕ) → (first_text status ++ crlf ++ lines ≡ bare → ⊥) → is_written_as (first_text status ++ crlf ++ lines) (with_status (Some status) read) ≡ are_written_as lines read
decides status (Err place) lines other = refl
decides None (Ok []) lines other = sym (bytes_differ crlf lines (λ e. other (ap (λ ls. first_text None ++ crlf ++ ls) (sym e))))
decides None (Ok (pair ∷ pairs)) lines other =
    let all = flat_map pair_line (pair ∷ pairs) ++ crlf in
    let some : eqb (length (pair ∷ pairs)) 0 ≡ false = ne_eqb (length (pair ∷ pairs)) 0 (λ e. omega arith) in
    let whole : written (record { status = None; pairs = pair ∷ pairs }) ≡ (first_text None ++ crlf) ++ all = rw some (append_assoc (first_text None ++ crlf) (flat_map pair_line (pair ∷ pairs)) crlf) in
    ap (λ t. bytes_eq t (first_text None ++ crlf ++ lines)) whole ∙ behind_front (first_text None ++ crlf) all lines
decides (Some status) (Ok pairs) lines other =
    let all = flat_map pair_line pairs ++ crlf in
    let first = first_text (Some status) ++ crlf in
    let whole : written (record { status = Some status; pairs = pairs }) ≡ first ++ all = append_assoc first (flat_map pair_line pairs) crlf in
    ap (λ t. bytes_eq t (first ++ lines)) whole ∙ behind_front first all lines

-- a block whose first line is one
block_with : (bytes line lines : List ℕ) (status : Option (List ℕ)) → eqb (length bytes) 0 ≡ false → (bytes ≡ bare → ⊥) → pieces 10 bytes ≡ line ∷ pieces 10 lines → option_and_then status_of (line_text line) ≡ Some status
    → is_written_as bytes (read_block bytes) ≡ written_from (length bytes - length lines) lines
block_with bytes line lines status filled other cut entry =
    let text = has_text status_of line status entry (line_free bytes line lines cut) in
    let is : line ≡ first_text status ++ 13 ∷ [] = text.line_is.is ∙ ap (λ t. t ++ 13 ∷ []) (status_of-some text.text status text.entry_is) in
    let whole : bytes ≡ first_text status ++ crlf ++ lines = cut_is 10 bytes line lines cut ∙ first_line line lines status is in
    let read = read_pairs (length bytes - length lines) (pieces 10 lines) in
    ap (is_written_as bytes) (read_block-cut bytes line lines filled cut ∙ ap (λ e. with_status e read) entry)
    ∙ (ap (λ bs. is_written_as bs (with_status (Some status) read)) whole ∙ decides status read lines (λ e. other (whole ∙ e)))

-- the same, where a function found a status text or none
pub block_written : (bytes line lines : List ℕ) (found : Option (Option (Bor (List ℕ)))) → eqb (length bytes) 0 ≡ false → bytes_eq bytes bare ≡ false → pieces 10 bytes ≡ line ∷ pieces 10 lines → option_map option_copied found ≡ option_and_then status_of (line_text line) → is_some found ≡ true
    → is_written_as bytes (read_block bytes) ≡ written_from (length bytes - length lines) lines
block_written bytes line lines None filled other cut entry is = absurd (true≢false (sym is))
block_written bytes line lines (Some status) filled other cut entry is =
    block_with bytes line lines (option_copied status) filled (λ e. true≢false (sym (bytes_are bytes bare e) ∙ other)) cut (sym entry)
