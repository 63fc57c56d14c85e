-- How the first line of a stream ends.
use Rattle.std.specs.Prelude.{ℕ, ◌+◌, ◌-◌, ◌≤◌, ◌==◌, List, length, slice_index, Bool, ◌&&◌, not, nat_lt, if◌then◌else◌, Option, None, Some}
use Rattle.std.specs.List.{list_all, position_from}
use Rattle.nats_frames.specs.declared.fault.FrameText.TheVariants.{ParserError, ControlLine}
use Rattle.nats_frames.specs.declared.line.LineEnd.{LineEnd}
use Rattle.nats_frames.specs.declared.line.LineEnd.TheVariants.{Missing, At, Bad}

-- the byte that ends a line, LF
abbrev pub is_feed : ℕ → Bool
is_feed b = b == 10

-- no line ends within these bytes
abbrev pub has_no_feed : List ℕ → Bool
has_no_feed bytes = list_all (λ b. not (is_feed b)) bytes

-- the end of a line whose LF stands at a place: not too far, and behind a CR
abbrev pub ending : ℕ → List ℕ → ℕ → LineEnd
ending most bytes at =
    if nat_lt (most + 1) at then Bad ControlLine
    else (if nat_lt 0 at && slice_index bytes (at - 1) == 13 then At (at - 1) else Bad ParserError)

-- the end of a line whose LF may be missing
abbrev pub ending_at : ℕ → List ℕ → Option ℕ → LineEnd
ending_at most bytes None = if nat_lt (most + 1) (length bytes) then Bad ControlLine else Missing
ending_at most bytes (Some at) = ending most bytes at

-- how the first line ends, where a line has at most so many bytes before its CR LF
abbrev pub line_end : ℕ → List ℕ → LineEnd
line_end most bytes = ending_at most bytes (position_from is_feed 0 bytes)

-- the CR LF of the end is within the bytes, and the line within its bound
abbrev pub IsEndWithin : ℕ → ℕ → LineEnd → Type 0
IsEndWithin most len Missing = len ≤ most + 1
IsEndWithin most len (At at) = (at + 2 ≤ len) × (at ≤ most)
IsEndWithin most len (Bad text) = Unit {0}
