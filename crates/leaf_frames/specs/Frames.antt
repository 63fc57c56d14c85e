-- The frames of leaf links (NATS leaf nodes).
use Rattle.std.specs.Prelude.{ℕ, List, [], ◌∷◌, Bool, true, false, ◌&&◌, nat_lt, nat_le, if◌then◌else◌, Option, None, Some, codes, option_map, option_and_then}
use Rattle.std.specs.List.{list_all}
use Rattle.std.specs.Str.{bytes_eq}
use Rattle.nats_text.specs.Headers.{HeaderBlock}
use Rattle.nats_text.specs.Text.{is_pattern}
use Rattle.nats_frames.specs.declared.fault.FrameText.TheVariants.{UnknownOperation, ParserError, InvalidSubject}
use Rattle.nats_frames.specs.declared.stream.First.{First}
use Rattle.nats_frames.specs.declared.stream.Said.{Said}
use Rattle.nats_frames.specs.declared.stream.Said.TheVariants.{Whole, Unfit}
use Rattle.nats_frames.specs.Fields.{fields, argument, size_of, is_short, quoted}
use Rattle.nats_frames.specs.Frames.{is_word, is_address}
use Rattle.nats_frames.specs.Json.{object_of}
use Rattle.nats_frames.specs.Laws.{frames_by}
use Rattle.nats_frames.specs.Stream.{sized, first_by}
use Rattle.leaf_frames.specs.declared.frame.LeafFrame.{LeafFrame}
use Rattle.leaf_frames.specs.declared.frame.LeafFrame.TheVariants.{SubOn, SubOff, Msg, Ping, Pong, Fault}
use Rattle.leaf_frames.specs.declared.operation.Operation.{Operation}
use Rattle.leaf_frames.specs.declared.operation.Operation.TheVariants.{Info, Connect, SubscribeOn, SubscribeOff, Message, MessageHeaders, Ping as PingWord, Pong as PongWord, Error}
use Rattle.leaf_frames.specs.declared.address.Address.{Address}
use Rattle.leaf_frames.specs.declared.address.Form.{Form}
use Rattle.leaf_frames.specs.declared.address.Form.TheVariants.{Plain, WithReply, WithQueues}
use Rattle.leaf_frames.specs.declared.address.Sizes.{Sizes}
use Rattle.leaf_frames.specs.Json.{info_of, connect_of}

-- the greatest length of a line before its CR LF, in bytes
abbrev pub most_line : ℕ
most_line = 8388608

-- the greatest length of a header block and a payload together, in bytes
abbrev pub most_payload : ℕ
most_payload = 2097152

-- the operation of a line's first field
abbrev pub operation_of : List ℕ → Option Operation
operation_of word =
    if is_word (codes "LMSG") word then Some Message
    else (if is_word (codes "HMSG") word then Some MessageHeaders
    else (if is_word (codes "LS+") word then Some SubscribeOn
    else (if is_word (codes "LS-") word then Some SubscribeOff
    else (if is_word (codes "PING") word then Some PingWord
    else (if is_word (codes "PONG") word then Some PongWord
    else (if is_word (codes "INFO") word then Some Info
    else (if is_word (codes "CONNECT") word then Some Connect
    else (if is_word (codes "-ERR") word then Some Error else None))))))))

-- ---- lines without a payload

-- a frame, where there is one
abbrev pub whole_or_unfit : Option LeafFrame → Said LeafFrame Address
whole_or_unfit None = Unfit ParserError
whole_or_unfit (Some frame) = Whole frame

-- a line of the operation alone
abbrev pub alone : LeafFrame → List (List ℕ) → Said LeafFrame Address
alone frame [] = Whole frame
alone frame (field ∷ others) = Unfit ParserError

-- the frame of a pattern, where that can be read
abbrev pub of_pattern : List ℕ → LeafFrame → Said LeafFrame Address
of_pattern pattern frame = if is_pattern pattern then Whole frame else Unfit InvalidSubject

-- how many members of a group are behind a subscription: 1 to 65,536
abbrev pub is_weight : ℕ → Bool
is_weight weight = nat_lt 0 weight && nat_le weight 65536

-- a subscription of a group, where its weight could be read
abbrev pub weighted : List ℕ → List ℕ → Option ℕ → Said LeafFrame Address
weighted pattern queue None = Unfit ParserError
weighted pattern queue (Some weight) = if is_weight weight then Whole (SubOn pattern (Some (queue, weight))) else Unfit ParserError

-- a subscription of a group
abbrev pub group_on : List ℕ → List ℕ → Option ℕ → Said LeafFrame Address
group_on pattern queue weight =
    if is_short queue then (if is_pattern pattern then weighted pattern queue weight else Unfit InvalidSubject) else Unfit ParserError

-- LS+: a pattern, and for a group its queue and its weight
abbrev pub subscribe_on : List (List ℕ) → Said LeafFrame Address
subscribe_on [] = Unfit ParserError
subscribe_on (pattern ∷ []) = of_pattern pattern (SubOn pattern None)
subscribe_on (pattern ∷ queue ∷ []) = Unfit ParserError
subscribe_on (pattern ∷ queue ∷ weight ∷ []) = group_on pattern queue (size_of weight)
subscribe_on (pattern ∷ queue ∷ weight ∷ other ∷ others) = Unfit ParserError

-- the end of a group's subscription
abbrev pub group_off : List ℕ → List ℕ → Said LeafFrame Address
group_off pattern queue = if is_short queue then of_pattern pattern (SubOff pattern (Some queue)) else Unfit ParserError

-- LS-: a pattern, and for a group its queue
abbrev pub subscribe_off : List (List ℕ) → Said LeafFrame Address
subscribe_off [] = Unfit ParserError
subscribe_off (pattern ∷ []) = of_pattern pattern (SubOff pattern None)
subscribe_off (pattern ∷ queue ∷ []) = group_off pattern queue
subscribe_off (pattern ∷ queue ∷ other ∷ others) = Unfit ParserError

-- -ERR: a text in single quotes
abbrev pub fault : Option (List ℕ) → Said LeafFrame Address
fault None = Unfit ParserError
fault (Some text) = Whole (Fault text)

-- ---- messages

-- the sign of an address with a reply, and perhaps queues
abbrev pub plus : List ℕ
plus = codes "+"

-- the sign of an address with queues and no reply
abbrev pub bar : List ℕ
bar = codes "|"

-- the form of an address: a field `+` or `|` behind the subject is always its sign
abbrev pub form_of : List ℕ → Form
form_of field = if bytes_eq field plus then WithReply else (if bytes_eq field bar then WithQueues else Plain)

-- the address of a subject and of the fields behind it and the sign, up to the sizes
abbrev pub address_of : Form → List ℕ → List (List ℕ) → Option Address
address_of Plain subject [] = Some (record { subject = subject; reply = None; queues = [] })
address_of Plain subject (reply ∷ []) = Some (record { subject = subject; reply = Some reply; queues = [] })
address_of Plain subject (reply ∷ other ∷ others) = None
address_of WithReply subject [] = None
address_of WithReply subject (reply ∷ queues) = Some (record { subject = subject; reply = Some reply; queues = queues })
address_of WithQueues subject [] = None
address_of WithQueues subject (queue ∷ queues) = Some (record { subject = subject; reply = None; queues = queue ∷ queues })

-- a field before others, of which the last is set apart
abbrev pub before_last : List ℕ → Option (List (List ℕ) × List ℕ) → List (List ℕ) × List ℕ
before_last field None = ([], field)
before_last field (Some split) = (field ∷ split.0, split.1)

-- the fields before the last one, and the last one
abbrev pub split_last : List (List ℕ) → Option (List (List ℕ) × List ℕ)
split_last [] = None
split_last (field ∷ fields) = Some (before_last field (split_last fields))

-- the fields before the size of a message without a header block, and its sizes
abbrev pub before_size : List (List ℕ) → Option (List (List ℕ) × Sizes)
before_size fields = option_map (λ split. (split.0, record { block = Some 0; size = size_of split.1 })) (split_last fields)

-- the fields before the sizes of a header block and of both together, and these
abbrev pub before_sizes : List (List ℕ) → Option (List (List ℕ) × Sizes)
before_sizes fields =
    option_and_then (λ whole. option_map (λ split. (split.0, record { block = size_of split.1; size = size_of whole.1 })) (split_last whole.0)) (split_last fields)

-- the fields before the sizes of a message with or without a header block, and its sizes
abbrev pub split_sizes : Bool → List (List ℕ) → Option (List (List ℕ) × Sizes)
split_sizes false fields = before_size fields
split_sizes true fields = before_sizes fields

-- a message of this address and these sizes
abbrev pub addressed : Address → Sizes → Said LeafFrame Address
addressed address sizes =
    if list_all is_short address.queues
    then (if is_address address.subject address.reply then sized address most_payload sizes.block sizes.size else Unfit InvalidSubject)
    else Unfit ParserError

-- the same once the subject and the reply were looked at, which may have been none
abbrev pub addressed_to : Option (List ℕ × Option (List ℕ)) → List (List ℕ) → Sizes → Said LeafFrame Address
addressed_to None queues sizes = Unfit InvalidSubject
addressed_to (Some read) queues sizes = sized (record { subject = read.0; reply = read.1; queues = queues }) most_payload sizes.block sizes.size

-- a message whose fields may make no address
abbrev pub addressed_if : Option Address → Sizes → Said LeafFrame Address
addressed_if None sizes = Unfit ParserError
addressed_if (Some address) sizes = addressed address sizes

-- a message of a form, with the fields behind its subject and its sign, which may be too few for the sizes
abbrev pub in_form : Form → List ℕ → Option (List (List ℕ) × Sizes) → Said LeafFrame Address
in_form form subject None = Unfit ParserError
in_form form subject (Some split) = addressed_if (address_of form subject split.0) split.1

-- a message by the field behind its subject
abbrev pub by_form : Bool → Form → List ℕ → List ℕ → List (List ℕ) → Said LeafFrame Address
by_form headers Plain subject field others = in_form Plain subject (split_sizes headers (field ∷ others))
by_form headers WithReply subject field others = in_form WithReply subject (split_sizes headers others)
by_form headers WithQueues subject field others = in_form WithQueues subject (split_sizes headers others)

-- LMSG and HMSG: an address and the size, or the size of the header block and the whole size
abbrev pub message : Bool → List (List ℕ) → Said LeafFrame Address
message headers [] = Unfit ParserError
message headers (subject ∷ []) = Unfit ParserError
message headers (subject ∷ field ∷ others) = by_form headers (form_of field) subject field others

-- the frame of a message to its address
abbrev pub framed : Address → HeaderBlock → List ℕ → LeafFrame
framed address headers payload =
    Msg (record { subject = address.subject; reply = address.reply; headers = headers; payload = payload }) address.queues

-- ---- a line, and what a stream begins with

-- the line of an operation, with the fields behind it
abbrev pub said_of : Operation → List ℕ → List (List ℕ) → Said LeafFrame Address
said_of Info line others = whole_or_unfit (option_and_then info_of (object_of (argument line)))
said_of Connect line others = whole_or_unfit (option_and_then connect_of (object_of (argument line)))
said_of SubscribeOn line others = subscribe_on others
said_of SubscribeOff line others = subscribe_off others
said_of Message line others = message false others
said_of MessageHeaders line others = message true others
said_of PingWord line others = alone Ping others
said_of PongWord line others = alone Pong others
said_of Error line others = fault (quoted (argument line))

-- the line of a word that may be no operation
abbrev pub said_if : Option Operation → List ℕ → List (List ℕ) → Said LeafFrame Address
said_if None line others = Unfit UnknownOperation
said_if (Some operation) line others = said_of operation line others

-- a line by its fields, of which the first is the operation
abbrev pub said_by : List ℕ → List (List ℕ) → Said LeafFrame Address
said_by line [] = Unfit ParserError
said_by line (word ∷ others) = said_if (operation_of word) line others

-- what a line says by itself
abbrev pub said : List ℕ → Said LeafFrame Address
said line = said_by line (fields line)

-- what a stream begins with: a frame and its length, the wish for more bytes, or a refusal
abbrev pub first : List ℕ → First LeafFrame
first bytes = first_by most_line said framed bytes

-- the frames of a stream
abbrev pub frames : List ℕ → List LeafFrame
frames bytes = frames_by first bytes
