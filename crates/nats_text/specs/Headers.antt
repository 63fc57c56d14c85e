-- What headers are, the bytes of a header block, and how these are read and written (ADR-4 of NATS).
use Rattle.std.specs.Prelude.{◌≡◌, ◌⊎◌, ℕ, ◌+◌, ◌≤◌, List, [], ◌∷◌, ◌++◌, length, take, drop, nat_lt, ◌==◌, Bool, true, false, ◌&&◌, ◌||◌, not, if◌then◌else◌, IsTrue, Option, None, Some, is_none, Result, Ok, Err, filter, find, codes}
use Rattle.std.specs.Borrow.{Bor}
use Rattle.std.specs.List.{list_all, list_any, flat_map, position_from}
use Rattle.std.specs.Option.{option_map, option_map_or, option_and_then}
use Rattle.std.specs.Str.{bytes_eq}
use Rattle.nats_text.specs.declared.headers.Pair.{Pair}
use Rattle.nats_text.specs.declared.fault.TextFault.{TextFault}
use Rattle.nats_text.specs.declared.fault.TextFault.TheVariants.{Bad, NoMemory}
use Rattle.nats_text.specs.Pieces.{pieces}

-- a status text, and pairs of a name and a value
pub record HeaderBlock : Type 0 where
  pub status : Option (List ℕ)
  pub pairs : List Pair

-- neither a status nor a pair
abbrev pub no_headers : HeaderBlock
no_headers = record { status = None; pairs = [] }

-- a byte of a name: from 33 to 126, and no colon
abbrev pub is_header_byte : ℕ → Bool
is_header_byte b = nat_lt 32 b && nat_lt b 127 && not (b == 58)

-- a name: one such byte or more
abbrev pub is_header_name : List ℕ → Bool
is_header_name bs = nat_lt 0 (length bs) && list_all is_header_byte bs

-- a byte that breaks no line: neither CR nor LF
abbrev pub is_line_byte : ℕ → Bool
is_line_byte b = not (b == 13) && not (b == 10)

-- a text within a line
abbrev pub is_line_text : List ℕ → Bool
is_line_text bs = list_all is_line_byte bs

-- a space or a tab
abbrev pub is_blank : ℕ → Bool
is_blank b = b == 32 || b == 9

-- without the blanks at the front
abbrev pub trim_start : List ℕ → List ℕ
trim_start [] = []
trim_start (b ∷ bs) = if is_blank b then trim_start bs else b ∷ bs

-- a byte before a text that has no blanks at its end
abbrev pub before_trimmed : ℕ → List ℕ → List ℕ
before_trimmed b [] = if is_blank b then [] else b ∷ []
before_trimmed b (c ∷ cs) = b ∷ c ∷ cs

-- without the blanks at the end
abbrev pub trim_end : List ℕ → List ℕ
trim_end [] = []
trim_end (b ∷ bs) = before_trimmed b (trim_end bs)

-- without the blanks at both ends
abbrev pub trimmed : List ℕ → List ℕ
trimmed bs = trim_end (trim_start bs)

-- a value: within a line, and no blank at either end
abbrev pub is_header_value : List ℕ → Bool
is_header_value bs = is_line_text bs && bytes_eq (trimmed bs) bs

-- a name and a value that headers may have
abbrev pub legal : List ℕ → List ℕ → Bool
legal name value = is_header_name name && is_header_value value

-- a pair that headers may have
abbrev pub is_legal_pair : Pair → Bool
is_legal_pair pair = legal pair.name pair.value

-- what headers may be: a status text within a line, and legal pairs
abbrev pub is_header_block : HeaderBlock → Bool
is_header_block block = option_map_or is_line_text block.status true && list_all is_legal_pair block.pairs

-- ---- look-ups and changes

-- the pair has this name
abbrev pub is_named : List ℕ → Pair → Bool
is_named name pair = bytes_eq pair.name name

-- the first value of a name
abbrev pub first_value : List ℕ → HeaderBlock → Option (List ℕ)
first_value name block = option_map (λ pair. pair.value) (find (is_named name) block.pairs)

-- some pair has this name
abbrev pub has_name : List ℕ → HeaderBlock → Bool
has_name name block = list_any (is_named name) block.pairs

-- the pairs of all other names
abbrev pub other_pairs : List ℕ → List Pair → List Pair
other_pairs name pairs = filter (λ pair. not (is_named name pair)) pairs

-- no pair has this name any more
abbrev pub without : List ℕ → HeaderBlock → HeaderBlock
without name block = record block { pairs = other_pairs name block.pairs }

-- one pair has this name, and it stands last
abbrev pub with_value : List ℕ → List ℕ → HeaderBlock → HeaderBlock
with_value name value block =
    record block { pairs = other_pairs name block.pairs ++ record { name = name; value = value } ∷ [] }

-- one pair more, behind the others
abbrev pub with_pair : List ℕ → List ℕ → HeaderBlock → HeaderBlock
with_pair name value block = record block { pairs = block.pairs ++ record { name = name; value = value } ∷ [] }

-- ---- the bytes of a block

-- the end of a line, CR LF
abbrev pub crlf : List ℕ
crlf = 13 ∷ 10 ∷ []

-- what each block begins with, `NATS/1.0`
abbrev pub version : List ℕ
version = codes "NATS/1.0"

-- the text of the first line: the version, and behind a space the status text
abbrev pub first_text : Option (List ℕ) → List ℕ
first_text None = version
first_text (Some status) = version ++ 32 ∷ status

-- the text of a pair's line: the name, a colon, and the value, which may stand between blanks
pub record IsPairText (pair : Pair) (text : List ℕ) : Type 0 where
  pub before : List ℕ
  pub after : List ℕ
  pub blanks : IsTrue (list_all is_blank before && list_all is_blank after)
  pub spelled : text ≡ pair.name ++ 58 ∷ (before ++ pair.value ++ after)

-- a line for each pair in turn, an empty line, and nothing behind it
abbrev pub ArePairLines : List Pair → List ℕ → Type 0
ArePairLines [] bytes = bytes ≡ crlf
ArePairLines (pair ∷ pairs) bytes =
    (text : List ℕ) × (rest : List ℕ) × (bytes ≡ text ++ crlf ++ rest) × IsPairText pair text × ArePairLines pairs rest

-- the first line, and the lines of the pairs
pub record AreBlockLines (bytes : List ℕ) (block : HeaderBlock) : Type 0 where
  pub rest : List ℕ
  pub first : bytes ≡ first_text block.status ++ crlf ++ rest
  pub pairs : ArePairLines block.pairs rest

-- the bytes are a block of these headers, or no bytes at all, which stand for none
abbrev pub IsBlock : List ℕ → HeaderBlock → Type 0
IsBlock bytes block =
    IsTrue (is_header_block block) × (((bytes ≡ []) × (block ≡ no_headers)) ⊎ AreBlockLines bytes block)

-- some block begins with these bytes
abbrev pub BeginsBlock : List ℕ → Type 0
BeginsBlock front = (more : List ℕ) × (block : HeaderBlock) × IsBlock (front ++ more) block

-- A line begins at the place, and some block begins with the lines before it. Where an LF ends this
-- line, no block begins with the bytes up to that LF; else the bytes end early.
pub record IsFirstBadLine (bytes : List ℕ) (place : ℕ) : Type 0 where
  pub within : place ≤ length bytes
  pub starts : (place ≡ 0) ⊎ ((front : List ℕ) × (take place bytes ≡ front ++ 10 ∷ []))
  pub before : BeginsBlock (take place bytes)
  pub never : (line rest : List ℕ) → IsTrue (list_all (λ b. not (b == 10)) line) → drop place bytes ≡ line ++ 10 ∷ rest → BeginsBlock (take place bytes ++ line ++ 10 ∷ []) → ⊥

-- ---- writing

-- one space stands behind the colon
abbrev pub pair_line : Pair → List ℕ
pair_line pair = pair.name ++ 58 ∷ 32 ∷ pair.value ++ crlf

-- the lines of a status, of pairs and of the end
abbrev pub lines_of : Option (List ℕ) → List Pair → List ℕ
lines_of status pairs = first_text status ++ crlf ++ flat_map pair_line pairs ++ crlf

-- the lines of these headers
abbrev pub block_lines : HeaderBlock → List ℕ
block_lines block = lines_of block.status block.pairs

-- neither a status nor a pair
abbrev pub has_none : HeaderBlock → Bool
has_none block = is_none block.status && length block.pairs == 0

-- headers with neither are written as no bytes
abbrev pub written : HeaderBlock → List ℕ
written block = if has_none block then [] else block_lines block

-- a text with more behind it
abbrev pub Extends : List ℕ → List ℕ → Type 0
Extends old new = (more : List ℕ) × (new ≡ old ++ more)

-- ---- reading

-- what stands before the one CR of a line, where that is its last byte
abbrev pub before_cr : List (List ℕ) → Option (List ℕ)
before_cr [] = None
before_cr (text ∷ []) = None
before_cr (text ∷ [] ∷ []) = Some text
before_cr (text ∷ [] ∷ more ∷ others) = None
before_cr (text ∷ (b ∷ bs) ∷ others) = None

-- the text of a line, whose LF is taken off
abbrev pub line_text : List ℕ → Option (List ℕ)
line_text line = before_cr (pieces 13 line)

-- what stands behind the version: nothing, or a space and a status text
abbrev pub status_behind : List ℕ → Option (Option (List ℕ))
status_behind [] = Some None
status_behind (b ∷ bs) = if b == 32 then Some (Some bs) else None

-- the status text of a first line's text, if any
abbrev pub status_of : List ℕ → Option (Option (List ℕ))
status_of text = if bytes_eq (take 8 text) version then status_behind (drop 8 text) else None

-- the pair of a name and of what stands behind the colon
abbrev pub pair_from : List ℕ → List ℕ → Option Pair
pair_from name behind = if is_header_name name then Some (record { name = name; value = trimmed behind }) else None

-- the pair of a line's text, which the first colon parts
abbrev pub pair_of : List ℕ → Option Pair
pair_of text = option_and_then (λ at. pair_from (take at text) (drop (at + 1) text)) (position_from (λ b. b == 58) 0 text)

-- the pair of a line's text, if it isn't empty
abbrev pub entry_of : List ℕ → Option (Option Pair)
entry_of [] = Some None
entry_of (b ∷ bs) = option_map (λ pair. Some pair) (pair_of (b ∷ bs))

-- nothing stands behind a line
abbrev pub is_end : List (List ℕ) → Bool
is_end [] = false
is_end ([] ∷ []) = true
is_end ([] ∷ line ∷ lines) = false
is_end ((b ∷ bs) ∷ lines) = false

-- pairs before those that were read
abbrev pub with_front : List Pair → Result (List Pair) ℕ → Result (List Pair) ℕ
with_front front (Ok pairs) = Ok (front ++ pairs)
with_front front (Err place) = Err place

-- what a line at a place gives, before the lines at a next place and what these give: a bad line
-- gives its place, an empty one ends the block, and that of a pair stands before what follows
abbrev pub read_entry : ℕ → ℕ → Option (Option Pair) → List (List ℕ) → Result (List Pair) ℕ → Result (List Pair) ℕ
read_entry place next None lines read = Err place
read_entry place next (Some None) lines read = if is_end lines then Ok [] else Err next
read_entry place next (Some (Some pair)) lines read = with_front (pair ∷ []) read

-- the pairs of the lines from a place on, or the place of the first bad line
abbrev pub read_pairs : ℕ → List (List ℕ) → Result (List Pair) ℕ
read_pairs place [] = Err place
read_pairs place (line ∷ []) = Err place
read_pairs place (line ∷ other ∷ lines) =
    let next = place + length line + 1 in
    read_entry place next (option_and_then entry_of (line_text line)) (other ∷ lines) (read_pairs next (other ∷ lines))

-- the headers of a status and of what the lines behind it give
abbrev pub with_status : Option (Option (List ℕ)) → Result (List Pair) ℕ → Result HeaderBlock ℕ
with_status None read = Err 0
with_status (Some status) (Ok pairs) = Ok (record { status = status; pairs = pairs })
with_status (Some status) (Err place) = Err place

-- the headers of the lines of a block, the last of which is what stands behind the last LF, or the place of the first bad line
abbrev pub read_lines : List (List ℕ) → Result HeaderBlock ℕ
read_lines [] = Err 0
read_lines (line ∷ []) = Err 0
read_lines (line ∷ other ∷ lines) =
    with_status (option_and_then status_of (line_text line)) (read_pairs (length line + 1) (other ∷ lines))

-- the headers of a block, or the place of the first bad line
abbrev pub read_block : List ℕ → Result HeaderBlock ℕ
read_block [] = Ok no_headers
read_block (b ∷ bs) = read_lines (pieces 10 (b ∷ bs))

-- the headers that were read are written as these bytes
abbrev pub is_written_as : List ℕ → Result HeaderBlock ℕ → Bool
is_written_as bytes (Ok block) = bytes_eq (written block) bytes
is_written_as bytes (Err place) = false

-- the bytes are a block, and the writer makes them of its headers
abbrev pub is_written : List ℕ → Bool
is_written bytes = is_written_as bytes (read_block bytes)

-- the pairs that were read are written as these lines, of which the last is empty
abbrev pub are_written_as : List ℕ → Result (List Pair) ℕ → Bool
are_written_as bytes (Ok pairs) = bytes_eq (flat_map pair_line pairs ++ crlf) bytes
are_written_as bytes (Err place) = false

-- ---- what the functions give

-- a name and a value that references point to
abbrev pub pair_view : Bor (List ℕ) × Bor (List ℕ) → Pair
pair_view p = record { name = p.0.now; value = p.1.now }

-- bytes are bad where they should be, unless there was no memory
abbrev pub IsFaultOf : {V : Type 0} → TextFault → Result V ℕ → Type 0
IsFaultOf (Bad place) read = read ≡ Err place
IsFaultOf NoMemory read = Unit {0}

-- a reading gave what it should, seen by view, unless there was no memory
abbrev pub Reads : {T V : Type 0} → (T → V) → Result T TextFault → Result V ℕ → Type 0
Reads view (Ok x) read = read ≡ Ok (view x)
Reads view (Err (Bad place)) read = read ≡ Err place
Reads view (Err NoMemory) read = Unit {0}
