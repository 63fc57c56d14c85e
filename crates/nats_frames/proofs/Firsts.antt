-- What a stream begins with is a good frame, and is read again from its text.
use Rattle.std.proofs.Common.{◌≡◌, ℕ, ◌+◌, ◌-◌, ◌==◌, List, length, get_or, take, drop, Bool, true, false, ◌&&◌, cond, nat_lt, Option, None, Some, refl, ap, subst, arith}
use Rattle.std.specs.Prelude.{Result, Ok, Err}
use Rattle.std.specs.List.{position_from}
use Rattle.std.specs.Str.{bytes_eq}
use Rattle.nats_text.specs.Headers.{HeaderBlock, no_headers, is_header_block, crlf, read_block}
use Rattle.nats_text.specs.Laws.{ReadsBlocksAlone, ReadsWhatIsWritten}
use Rattle.nats_frames.specs.declared.fault.FrameText.TheVariants.{ParserError, ControlLine}
use Rattle.nats_frames.specs.declared.frame.Side.{Side}
use Rattle.nats_frames.specs.declared.frame.ClientFrame.{ClientFrame}
use Rattle.nats_frames.specs.declared.line.LineEnd.{LineEnd}
use Rattle.nats_frames.specs.declared.line.LineEnd.TheVariants.{Missing, At, Bad}
use Rattle.nats_frames.specs.declared.operation.Envelope.{Envelope}
use Rattle.nats_frames.specs.declared.operation.Envelope.TheVariants.{Publication, Delivery, Unreadable}
use Rattle.nats_frames.specs.declared.stream.First.{First}
use Rattle.nats_frames.specs.declared.stream.First.TheVariants.{Frame, More, Refuse}
use Rattle.nats_frames.specs.declared.stream.Said.{Said}
use Rattle.nats_frames.specs.declared.stream.Said.TheVariants.{Whole, Carries, Unfit}
use Rattle.nats_frames.specs.Frames.{most_line, framed, said, first}
use Rattle.nats_frames.specs.Laws.{ReadsItsText}
use Rattle.nats_frames.specs.Lines.{is_feed, has_no_feed, ending_at, line_end}
use Rattle.nats_frames.specs.Stream.{with_block, opened, carried, decided, first_of}
use Rattle.nats_frames.proofs.Ends.{before}
use Rattle.nats_frames.proofs.Readable.{GoodEnvelope, GoodBlock, GoodSaid, Good, said_good, choose}
use Rattle.nats_frames.proofs.Written.{good_again}

abbrev GoodFirst : Side → First ClientFrame → Type 0
GoodFirst side (Frame frame len) = Good side frame
GoodFirst side (More wanted) = Unit {0}
GoodFirst side (Refuse text) = Unit {0}

-- a block that is read is one
abbrev BlocksAre : Type 0
BlocksAre = (bytes : List ℕ) (block : HeaderBlock) → read_block bytes ≡ Ok block → is_header_block block ≡ true

-- no bytes are no headers
none_read : (block : ℕ) (message : List ℕ) (headers : HeaderBlock) → block ≡ 0 → read_block (take block message) ≡ Ok headers → headers ≡ no_headers
none_read block message headers b h =
    let e : read_block (take block message) ≡ Ok no_headers = ap (λ n. read_block (take n message)) b in
    cc

block_good : (side : Side) (e : Envelope) (len block : ℕ) (message : List ℕ) (r : Result HeaderBlock ℕ) → BlocksAre → GoodEnvelope side e → GoodBlock e block → read_block (take block message) ≡ r → GoodFirst side (with_block (λ headers. framed e headers (drop block message)) len r)
block_good side (Publication false subject reply) len block message (Ok headers) blocks g b h = (g.0, g.1, none_read block message headers b h)
block_good side (Publication true subject reply) len block message (Ok headers) blocks g b h = (g.0, g.1, blocks (take block message) headers h)
block_good side (Delivery false sid subject reply) len block message (Ok headers) blocks g b h = (g.0, g.1, g.2, none_read block message headers b h)
block_good side (Delivery true sid subject reply) len block message (Ok headers) blocks g b h = (g.0, g.1, g.2, blocks (take block message) headers h)
block_good side Unreadable len block message (Ok headers) blocks g b h = g
block_good side e len block message (Err place) blocks g b h = tt

carried_good : (side : Side) (e : Envelope) (line block size : ℕ) (behind : List ℕ) → BlocksAre → GoodEnvelope side e → GoodBlock e block → GoodFirst side (carried (framed e) line block size behind)
carried_good side e line block size behind blocks g b =
    let len : ℕ = line + size + 2 in
    let message : List ℕ = take size behind in
    choose (GoodFirst side) (nat_lt (length behind) (size + 2)) (More len) (cond (bytes_eq (take 2 (drop size behind)) crlf) (opened (framed e) len block message) (Refuse ParserError)) (λ h. tt)
    (λ h. choose (GoodFirst side) (bytes_eq (take 2 (drop size behind)) crlf) (opened (framed e) len block message) (Refuse ParserError) (λ h. block_good side e len block message (read_block (take block message)) blocks g b refl) (λ h. tt))

decided_good : (side : Side) (line : ℕ) (behind : List ℕ) (what : Said ClientFrame Envelope) → BlocksAre → GoodSaid side what → GoodFirst side (decided framed line behind what)
decided_good side line behind (Whole frame) blocks g = g
decided_good side line behind (Carries e block size) blocks g = carried_good side e line block size behind blocks g.0 g.1
decided_good side line behind (Unfit text) blocks g = tt

-- the line of an end has no LF
abbrev FreeEnd : List ℕ → LineEnd → Type 0
FreeEnd bytes Missing = Unit {0}
FreeEnd bytes (At at) = has_no_feed (take at bytes) ≡ true
FreeEnd bytes (Bad text) = Unit {0}

end_free : (bytes : List ℕ) (o : Option ℕ) → position_from is_feed 0 bytes ≡ o → FreeEnd bytes (ending_at most_line bytes o)
end_free bytes None h = choose (FreeEnd bytes) (nat_lt (most_line + 1) (length bytes)) (Bad ControlLine) Missing (λ e. tt) (λ e. tt)
end_free bytes (Some at) h =
    let last : Bool = nat_lt 0 at && get_or bytes (at - 1) 0 == 13 in
    choose (FreeEnd bytes) (nat_lt (most_line + 1) at) (Bad ControlLine) (cond last (At (at - 1)) (Bad ParserError)) (λ e. tt)
    (λ e. choose (FreeEnd bytes) last (At (at - 1)) (Bad ParserError) (λ e. before 0 bytes at (at - 1) h (omega arith)) (λ e. tt))

of_good : (side : Side) (bytes : List ℕ) (e : LineEnd) → BlocksAre → FreeEnd bytes e → GoodFirst side (first_of (said side) framed bytes e)
of_good side bytes Missing blocks free = tt
of_good side bytes (At at) blocks free = decided_good side (at + 2) (drop (at + 2) bytes) (said side (take at bytes)) blocks (said_good side (take at bytes) free)
of_good side bytes (Bad text) blocks free = tt

first_good : (side : Side) (bytes : List ℕ) → BlocksAre → GoodFirst side (first side bytes)
first_good side bytes blocks = of_good side bytes (line_end most_line bytes) blocks (end_free bytes (position_from is_feed 0 bytes) refl)

-- what a reading gives is good
pub given_good : ReadsBlocksAlone → (side : Side) (bytes : List ℕ) (frame : ClientFrame) (len : ℕ) → first side bytes ≡ Frame frame len → Good side frame
given_good reads side bytes frame len h =
    let blocks : BlocksAre = λ b block e. ((reads b block).0 e).0 in
    let P : First ClientFrame → Type 0 = GoodFirst side in
    subst P h (first_good side bytes blocks)

pub reads_its_text : ReadsBlocksAlone → ReadsWhatIsWritten → ReadsItsText
reads_its_text reads again side bytes frame len h within = good_again side frame again (given_good reads side bytes frame len h) within
