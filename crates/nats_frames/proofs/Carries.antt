-- A message in its envelope.
use Rattle.std.proofs.Common.{◌≡◌, ℕ, ◌+◌, List, length, take, drop, Bool, true, false, cond, nat_lt, refl}
use Rattle.std.specs.Prelude.{Result, Ok, Err}
use Rattle.std.specs.Str.{bytes_eq}
use Rattle.nats_text.specs.Headers.{HeaderBlock, crlf, read_block}
use Rattle.nats_frames.specs.declared.fault.FrameText.TheVariants.{ParserError}
use Rattle.nats_frames.specs.declared.stream.First.TheVariants.{More, Refuse}
use Rattle.nats_frames.specs.Stream.{with_block, opened, carried, message_of, in_envelope}

block_in : {F : Type 0} (frame : HeaderBlock → List ℕ → F) (len : ℕ) (payload : List ℕ) (read : Result HeaderBlock ℕ) → in_envelope frame (with_block (λ headers. message_of headers payload) len read) ≡ with_block (λ headers. frame headers payload) len read
block_in frame len payload (Ok headers) = refl
block_in frame len payload (Err place) = refl

-- a message that is put into its envelope once it is there
pub carried_in : {F : Type 0} (frame : HeaderBlock → List ℕ → F) (line block size : ℕ) (behind : List ℕ) → in_envelope frame (carried message_of line block size behind) ≡ carried frame line block size behind
carried_in {F} frame line block size behind =
    let len : ℕ = line + size + 2 in
    let message : List ℕ = take size behind in
    let shut = bytes_eq (take 2 (drop size behind)) crlf in
    let Q : Bool → Type 0 = λ t. in_envelope frame (cond t (opened message_of len block message) (Refuse ParserError)) ≡ cond t (opened frame len block message) (Refuse ParserError) in
    let inner : (t : Bool) → Q t = λ t. elim t as Q [
      | true ↦ block_in frame len (drop block message) (read_block (take block message))
      | false ↦ refl
    ] in
    let P : Bool → Type 0 = λ t. in_envelope frame (cond t (More len) (cond shut (opened message_of len block message) (Refuse ParserError))) ≡ cond t (More len) (cond shut (opened frame len block message) (Refuse ParserError)) in
    let go : (t : Bool) → P t = λ t. elim t as P [ true ↦ refl | false ↦ inner shut ] in
    go (nat_lt (length behind) (size + 2))
