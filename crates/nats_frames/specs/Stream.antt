-- What a stream of bytes begins with: one rule for the frames of clients and for those of leaf links.
use Rattle.std.specs.Prelude.{ℕ, ◌+◌, ◌≤◌, List, length, take, drop, nat_lt, if◌then◌else◌, Option, None, Some, Result, Ok, Err}
use Rattle.std.specs.Str.{bytes_eq}
use Rattle.nats_text.specs.Headers.{HeaderBlock, crlf, read_block}
use Rattle.nats_frames.specs.declared.fault.FrameText.TheVariants.{ParserError, PayloadViolation}
use Rattle.nats_frames.specs.declared.stream.First.{First}
use Rattle.nats_frames.specs.declared.stream.First.TheVariants.{Frame, More, Refuse}
use Rattle.nats_frames.specs.declared.stream.Said.{Said}
use Rattle.nats_frames.specs.declared.stream.Said.TheVariants.{Whole, Carries, Unfit}
use Rattle.nats_frames.specs.declared.line.LineEnd.{LineEnd}
use Rattle.nats_frames.specs.declared.line.LineEnd.TheVariants.{Missing, At, Bad}
use Rattle.nats_frames.specs.Lines.{line_end}

-- a line whose message has these sizes, where each could be read: the header block is within the whole,
-- and the whole within its bound
abbrev pub sized : {F E : Type 0} → E → ℕ → Option ℕ → Option ℕ → Said F E
sized e most None size = Unfit ParserError
sized e most (Some block) None = Unfit ParserError
sized e most (Some block) (Some size) =
    if nat_lt size block then Unfit ParserError else (if nat_lt most size then Unfit PayloadViolation else Carries e block size)

-- a frame of so many bytes, where its header block is one
abbrev pub with_block : {F : Type 0} → (HeaderBlock → F) → ℕ → Result HeaderBlock ℕ → First F
with_block frame len (Ok headers) = Frame (frame headers) len
with_block frame len (Err place) = Refuse ParserError

-- a frame of a header block of so many bytes and a payload
abbrev pub opened : {F : Type 0} → (HeaderBlock → List ℕ → F) → ℕ → ℕ → List ℕ → First F
opened frame len block message = with_block (λ headers. frame headers (drop block message)) len (read_block (take block message))

-- A frame whose line has so many bytes with its end, behind which stand a header block and a payload,
-- `size` bytes together, and CR LF.
abbrev pub carried : {F : Type 0} → (HeaderBlock → List ℕ → F) → ℕ → ℕ → ℕ → List ℕ → First F
carried frame line block size behind =
    if nat_lt (length behind) (size + 2) then More (line + size + 2)
    else (if bytes_eq (take 2 (drop size behind)) crlf then opened frame (line + size + 2) block (take size behind) else Refuse ParserError)

-- lines and messages of any kind of connection are no longer than this, in bytes
abbrev pub most_message : ℕ
most_message = 4294967295

-- headers and a payload
abbrev pub message_of : HeaderBlock → List ℕ → HeaderBlock × List ℕ
message_of headers payload = (headers, payload)

-- what a message makes of its envelope
abbrev pub in_envelope : {F : Type 0} → (HeaderBlock → List ℕ → F) → First (HeaderBlock × List ℕ) → First F
in_envelope frame (Frame message len) = Frame (frame message.0 message.1) len
in_envelope frame (More wanted) = More wanted
in_envelope frame (Refuse text) = Refuse text

-- a line's header block is within its message, and the message within its bound
abbrev pub IsFit : {F E : Type 0} → ℕ → Said F E → Type 0
IsFit most (Whole frame) = Unit {0}
IsFit most (Carries e block size) = (block ≤ size) × (size ≤ most)
IsFit most (Unfit text) = Unit {0}

-- the frame of what a line says and of the bytes behind it
abbrev pub decided : {F E : Type 0} → (E → HeaderBlock → List ℕ → F) → ℕ → List ℕ → Said F E → First F
decided framed line behind (Whole frame) = Frame frame line
decided framed line behind (Carries e block size) = carried (framed e) line block size behind
decided framed line behind (Unfit text) = Refuse text

-- the frame of a line that ends so, and of the bytes behind it
abbrev pub first_of : {F E : Type 0} → (List ℕ → Said F E) → (E → HeaderBlock → List ℕ → F) → List ℕ → LineEnd → First F
first_of said framed bytes Missing = More (length bytes + 1)
first_of said framed bytes (At at) = decided framed (at + 2) (drop (at + 2) bytes) (said (take at bytes))
first_of said framed bytes (Bad text) = Refuse text

-- What bytes begin with, where a line has at most `most` bytes, says what `said` makes of it, and a
-- message is put into its envelope by `framed`.
abbrev pub first_by : {F E : Type 0} → ℕ → (List ℕ → Said F E) → (E → HeaderBlock → List ℕ → F) → List ℕ → First F
first_by most said framed bytes = first_of said framed bytes (line_end most bytes)
