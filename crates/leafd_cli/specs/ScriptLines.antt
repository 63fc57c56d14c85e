-- The lines of a script's text, and what each says.
use Rattle.std.specs.Prelude.{ℕ, ◌-◌, List, [], ◌∷◌, length, take, slice_index, Bool, true, false, ◌&&◌, ◌==◌, nat_lt, if◌then◌else◌, Option, Result}
use Rattle.nats_text.specs.Pieces.{pieces}
use Rattle.leafd_script.specs.declared.line.Line.{Line}
use Rattle.leafd_script.specs.declared.fault.ScriptKind.{ScriptKind}
use Rattle.leafd_script.specs.Lines.{line_of}

-- a line, and whether a line feed ended it
pub record ScriptLine : Type 0 where
  pub bytes : List ℕ
  pub ended : Bool

-- what stands behind the last line feed is a line where it isn't empty
abbrev pub tail_line : List ℕ → List ScriptLine
tail_line [] = []
tail_line (b ∷ bs) = record { bytes = b ∷ bs; ended = false } ∷ []

-- the lines of the parts between line feeds, the first of which is this one
abbrev pub lines_on : List ℕ → List (List ℕ) → List ScriptLine
lines_on part [] = tail_line part
lines_on part (next ∷ parts) = record { bytes = part; ended = true } ∷ lines_on next parts

-- the lines of the parts between line feeds
abbrev pub lines_from : List (List ℕ) → List ScriptLine
lines_from [] = []
lines_from (part ∷ parts) = lines_on part parts

-- the lines of a text
abbrev pub lines_of : List ℕ → List ScriptLine
lines_of text = lines_from (pieces 10 text)

-- the last byte is a carriage return
abbrev pub ends_in_return : List ℕ → Bool
ends_in_return bytes = nat_lt 0 (length bytes) && slice_index bytes (length bytes - 1) == 13

-- one carriage return before a line feed doesn't count
abbrev pub line_text : ScriptLine → List ℕ
line_text row = if row.ended && ends_in_return row.bytes then take (length row.bytes - 1) row.bytes else row.bytes

-- what a line says, which is nothing where it is empty or a comment
abbrev pub said_by : ScriptLine → Result (Option Line) ScriptKind
said_by row = line_of (line_text row)
