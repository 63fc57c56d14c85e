-- The frames of client connections (the NATS client protocol).
use Rattle.std.specs.Prelude.{ℕ, List, [], ◌∷◌, Bool, true, false, ◌&&◌, nat_lt, if◌then◌else◌, Option, None, Some, codes, option_and_then}
use Rattle.std.specs.Option.{option_map_or}
use Rattle.std.specs.Str.{str_eq_ignore_ascii_case}
use Rattle.nats_text.specs.Headers.{HeaderBlock}
use Rattle.nats_text.specs.Text.{is_subject, is_pattern}
use Rattle.nats_frames.specs.declared.fault.FrameText.{FrameText}
use Rattle.nats_frames.specs.declared.fault.FrameText.TheVariants.{UnknownOperation, ParserError, InvalidSubject}
use Rattle.nats_frames.specs.declared.stream.First.{First}
use Rattle.nats_frames.specs.declared.stream.Said.{Said}
use Rattle.nats_frames.specs.declared.stream.Said.TheVariants.{Whole, Unfit}
use Rattle.nats_frames.specs.declared.frame.Side.{Side}
use Rattle.nats_frames.specs.declared.frame.Side.TheVariants.{FromClient, FromServer}
use Rattle.nats_frames.specs.declared.frame.ClientFrame.{ClientFrame}
use Rattle.nats_frames.specs.declared.frame.ClientFrame.TheVariants.{Pub, HPub, Sub, Unsub, Msg, HMsg, Ping, Pong, Okay, Fault, BadSubject}
use Rattle.nats_frames.specs.declared.operation.Operation.{Operation}
use Rattle.nats_frames.specs.declared.operation.Operation.TheVariants.{Connect, Publish, PublishHeaders, Subscribe, Unsubscribe, Info, Message, MessageHeaders, Ping as PingWord, Pong as PongWord, Okay as OkayWord, Error}
use Rattle.nats_frames.specs.declared.operation.Envelope.{Envelope}
use Rattle.nats_frames.specs.declared.operation.Envelope.TheVariants.{Publication, Delivery, Unreadable}
use Rattle.nats_frames.specs.Fields.{fields, argument, size_of, is_short, quoted}
use Rattle.nats_frames.specs.Json.{object_of, connect_of, info_of}
use Rattle.nats_frames.specs.Stream.{sized, first_by}

-- the greatest length of a line before its CR LF, in bytes
abbrev pub most_line : ℕ
most_line = 4096

-- the greatest length of a header block and a payload together, in bytes
abbrev pub most_payload : ℕ
most_payload = 1048576

-- a word is an operation's, without regard to ASCII case
abbrev pub is_word : List ℕ → List ℕ → Bool
is_word operation word = str_eq_ignore_ascii_case word operation

-- the operations of both sides
abbrev pub shared_operation : List ℕ → Option Operation
shared_operation word =
    if is_word (codes "PING") word then Some PingWord else (if is_word (codes "PONG") word then Some PongWord else None)

-- the operations of a client
abbrev pub client_operation : List ℕ → Option Operation
client_operation word =
    if is_word (codes "PUB") word then Some Publish
    else (if is_word (codes "HPUB") word then Some PublishHeaders
    else (if is_word (codes "SUB") word then Some Subscribe
    else (if is_word (codes "UNSUB") word then Some Unsubscribe
    else (if is_word (codes "CONNECT") word then Some Connect else shared_operation word))))

-- the operations of a server
abbrev pub server_operation : List ℕ → Option Operation
server_operation word =
    if is_word (codes "MSG") word then Some Message
    else (if is_word (codes "HMSG") word then Some MessageHeaders
    else (if is_word (codes "+OK") word then Some OkayWord
    else (if is_word (codes "-ERR") word then Some Error
    else (if is_word (codes "INFO") word then Some Info else shared_operation word))))

-- the operation of a line's first field
abbrev pub operation_of : Side → List ℕ → Option Operation
operation_of FromClient word = client_operation word
operation_of FromServer word = server_operation word

-- ---- lines without a payload

-- a frame, where there is one
abbrev pub whole_or : {E : Type 0} → FrameText → Option ClientFrame → Said ClientFrame E
whole_or text None = Unfit text
whole_or text (Some frame) = Whole frame

-- a line of the operation alone
abbrev pub alone : ClientFrame → List (List ℕ) → Said ClientFrame Envelope
alone frame [] = Whole frame
alone frame (field ∷ others) = Unfit ParserError

-- a subscription, whose pattern a client may get wrong
abbrev pub subscription : List ℕ → Option (List ℕ) → List ℕ → Said ClientFrame Envelope
subscription pattern queue sid =
    if option_map_or is_short queue true && is_short sid
    then (if is_pattern pattern then Whole (Sub pattern queue sid) else Whole BadSubject) else Unfit ParserError

-- SUB: a pattern, perhaps a queue, and a sid
abbrev pub subscribe : List (List ℕ) → Said ClientFrame Envelope
subscribe [] = Unfit ParserError
subscribe (pattern ∷ []) = Unfit ParserError
subscribe (pattern ∷ sid ∷ []) = subscription pattern None sid
subscribe (pattern ∷ queue ∷ sid ∷ []) = subscription pattern (Some queue) sid
subscribe (pattern ∷ queue ∷ sid ∷ other ∷ others) = Unfit ParserError

-- the end of a subscription after some messages, of which there has to be one at least
abbrev pub ended_after : List ℕ → Option ℕ → Said ClientFrame Envelope
ended_after sid None = Unfit ParserError
ended_after sid (Some max) = if nat_lt 0 max then Whole (Unsub sid (Some max)) else Unfit ParserError

-- UNSUB: a sid, and perhaps a count
abbrev pub unsubscribe : List (List ℕ) → Said ClientFrame Envelope
unsubscribe [] = Unfit ParserError
unsubscribe (sid ∷ []) = if is_short sid then Whole (Unsub sid None) else Unfit ParserError
unsubscribe (sid ∷ count ∷ []) = if is_short sid then ended_after sid (size_of count) else Unfit ParserError
unsubscribe (sid ∷ count ∷ other ∷ others) = Unfit ParserError

-- -ERR: a text in single quotes
abbrev pub fault : Option (List ℕ) → Said ClientFrame Envelope
fault None = Unfit ParserError
fault (Some text) = Whole (Fault text)

-- ---- lines with a payload

-- a subject, and a reply where there is one
abbrev pub is_address : List ℕ → Option (List ℕ) → Bool
is_address subject reply = is_subject subject && option_map_or is_subject reply true

-- a publish of a client, who may get the address wrong
abbrev pub publication : Bool → List ℕ → Option (List ℕ) → Envelope
publication headers subject reply = if is_address subject reply then Publication headers subject reply else Unreadable

-- PUB: a subject, perhaps a reply, and a size
abbrev pub publish : List (List ℕ) → Said ClientFrame Envelope
publish [] = Unfit ParserError
publish (subject ∷ []) = Unfit ParserError
publish (subject ∷ size ∷ []) = sized (publication false subject None) most_payload (Some 0) (size_of size)
publish (subject ∷ reply ∷ size ∷ []) = sized (publication false subject (Some reply)) most_payload (Some 0) (size_of size)
publish (subject ∷ reply ∷ size ∷ other ∷ others) = Unfit ParserError

-- HPUB: a subject, perhaps a reply, the size of the header block, and the whole size
abbrev pub publish_headers : List (List ℕ) → Said ClientFrame Envelope
publish_headers [] = Unfit ParserError
publish_headers (subject ∷ []) = Unfit ParserError
publish_headers (subject ∷ block ∷ []) = Unfit ParserError
publish_headers (subject ∷ block ∷ size ∷ []) = sized (publication true subject None) most_payload (size_of block) (size_of size)
publish_headers (subject ∷ reply ∷ block ∷ size ∷ []) = sized (publication true subject (Some reply)) most_payload (size_of block) (size_of size)
publish_headers (subject ∷ reply ∷ block ∷ size ∷ other ∷ others) = Unfit ParserError

-- a message for a subscription behind its address, where that could be read
abbrev pub delivered : Bool → List ℕ → Option (List ℕ × Option (List ℕ)) → Option ℕ → Option ℕ → Said ClientFrame Envelope
delivered headers sid None block size = Unfit InvalidSubject
delivered headers sid (Some address) block size = sized (Delivery headers sid address.0 address.1) most_payload block size

-- a message for a subscription, from a server, who gets no address wrong
abbrev pub delivery : Bool → List ℕ → List ℕ → Option (List ℕ) → Option ℕ → Option ℕ → Said ClientFrame Envelope
delivery headers subject sid reply block size =
    if is_short sid
    then (if is_address subject reply then sized (Delivery headers sid subject reply) most_payload block size else Unfit InvalidSubject)
    else Unfit ParserError

-- MSG: a subject, a sid, perhaps a reply, and a size
abbrev pub message : List (List ℕ) → Said ClientFrame Envelope
message [] = Unfit ParserError
message (subject ∷ []) = Unfit ParserError
message (subject ∷ sid ∷ []) = Unfit ParserError
message (subject ∷ sid ∷ size ∷ []) = delivery false subject sid None (Some 0) (size_of size)
message (subject ∷ sid ∷ reply ∷ size ∷ []) = delivery false subject sid (Some reply) (Some 0) (size_of size)
message (subject ∷ sid ∷ reply ∷ size ∷ other ∷ others) = Unfit ParserError

-- HMSG: a subject, a sid, perhaps a reply, the size of the header block, and the whole size
abbrev pub message_headers : List (List ℕ) → Said ClientFrame Envelope
message_headers [] = Unfit ParserError
message_headers (subject ∷ []) = Unfit ParserError
message_headers (subject ∷ sid ∷ []) = Unfit ParserError
message_headers (subject ∷ sid ∷ block ∷ []) = Unfit ParserError
message_headers (subject ∷ sid ∷ block ∷ size ∷ []) = delivery true subject sid None (size_of block) (size_of size)
message_headers (subject ∷ sid ∷ reply ∷ block ∷ size ∷ []) = delivery true subject sid (Some reply) (size_of block) (size_of size)
message_headers (subject ∷ sid ∷ reply ∷ block ∷ size ∷ other ∷ others) = Unfit ParserError

-- the frame of a message in its envelope
abbrev pub framed : Envelope → HeaderBlock → List ℕ → ClientFrame
framed (Publication false subject reply) headers payload = Pub (record { subject = subject; reply = reply; headers = headers; payload = payload })
framed (Publication true subject reply) headers payload = HPub (record { subject = subject; reply = reply; headers = headers; payload = payload })
framed (Delivery false sid subject reply) headers payload = Msg sid (record { subject = subject; reply = reply; headers = headers; payload = payload })
framed (Delivery true sid subject reply) headers payload = HMsg sid (record { subject = subject; reply = reply; headers = headers; payload = payload })
framed Unreadable headers payload = BadSubject

-- ---- a line, and what a stream begins with

-- the line of an operation, with the fields behind it
abbrev pub said_of : Operation → List ℕ → List (List ℕ) → Said ClientFrame Envelope
said_of Connect line others = whole_or ParserError (option_and_then connect_of (object_of (argument line)))
said_of Publish line others = publish others
said_of PublishHeaders line others = publish_headers others
said_of Subscribe line others = subscribe others
said_of Unsubscribe line others = unsubscribe others
said_of Info line others = whole_or ParserError (option_and_then info_of (object_of (argument line)))
said_of Message line others = message others
said_of MessageHeaders line others = message_headers others
said_of PingWord line others = alone Ping others
said_of PongWord line others = alone Pong others
said_of OkayWord line others = alone Okay others
said_of Error line others = fault (quoted (argument line))

-- the line of a word that may be no operation
abbrev pub said_if : Option Operation → List ℕ → List (List ℕ) → Said ClientFrame Envelope
said_if None line others = Unfit UnknownOperation
said_if (Some operation) line others = said_of operation line others

-- a line by its fields, of which the first is the operation
abbrev pub said_by : Side → List ℕ → List (List ℕ) → Said ClientFrame Envelope
said_by side line [] = Unfit ParserError
said_by side line (word ∷ others) = said_if (operation_of side word) line others

-- what a line says by itself
abbrev pub said : Side → List ℕ → Said ClientFrame Envelope
said side line = said_by side line (fields line)

-- what a stream of a side begins with: a frame and its length, the wish for more bytes, or a refusal
abbrev pub first : Side → List ℕ → First ClientFrame
first side bytes = first_by most_line (said side) framed bytes
