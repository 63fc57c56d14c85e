-- The packets that the Rust types can hold.
use Rattle.std.specs.Prelude.{ℕ, ◌^◌, ◌<◌, List, IsTrue, Option, None, Some}
use Rattle.std.specs.List.{list_all}
use Rattle.nats_text.specs.Text.{is_name, is_subject, is_pattern}
use Rattle.nats_text.specs.Headers.{is_header_block}
use Rattle.nats_text.specs.declared.message.Message.{Message}
use Rattle.nats_text.specs.declared.message.Stamp.{Stamp}
use Rattle.nats_text.specs.declared.message.Start.{Start}
use Rattle.nats_text.specs.declared.message.Start.TheVariants.{Seq, Time}
use Rattle.js_wire.specs.declared.packet.AskerId.{AskerId}
use Rattle.js_wire.specs.declared.packet.Packet.{Packet}
use Rattle.js_wire.specs.declared.packet.Packet.TheVariants.{Ask, Answer, Refuse, Delivery, Beat, FlowAsk, FlowReply}

-- a number of 64 bits
abbrev pub IsWide : ℕ → Type 0
IsWide n = n < 2 ^ 64

-- a boot and a count of 64 bits
pub record IsStamp (stamp : Stamp) : Type 0 where
  pub boot : IsWide stamp.boot
  pub count : IsWide stamp.count

-- two names, and an index of 32 bits
pub record IsAsker (asker : AskerId) : Type 0 where
  pub node : IsTrue (is_name asker.node)
  pub stream : IsTrue (is_name asker.stream)
  pub index : asker.index < 2 ^ 32

-- a start by number or by time, of 64 bits
abbrev pub IsStart : Start → Type 0
IsStart (Seq n) = IsWide n
IsStart (Time t) = IsWide t

-- a subject, headers and a time of 64 bits
pub record IsMessage (message : Message) : Type 0 where
  pub subject : IsTrue (is_subject message.subject)
  pub headers : IsTrue (is_header_block message.headers)
  pub time : IsWide message.time

-- a token of 64 bits, where there is one
abbrev pub IsToken : Option ℕ → Type 0
IsToken None = Unit {0}
IsToken (Some token) = IsWide token

-- an attempt of an asker
abbrev pub IsAttempt : AskerId → Stamp → Type 0
IsAttempt asker attempt = IsAsker asker × IsStamp attempt

-- a consumer of a stream on a node
pub record IsConsumer (origin stream : List ℕ) (consumer : Stamp) : Type 0 where
  pub origin_is : IsTrue (is_name origin)
  pub stream_is : IsTrue (is_name stream)
  pub consumer_is : IsStamp consumer

-- a delivery of a consumer of a stream, with its numbers and its message
pub record IsDelivery (stream : List ℕ) (consumer : Stamp) (number seq pending : ℕ) (message : Message) : Type 0 where
  pub stream_is : IsTrue (is_name stream)
  pub consumer_is : IsStamp consumer
  pub number_is : IsWide number
  pub seq_is : IsWide seq
  pub pending_is : IsWide pending
  pub message_is : IsMessage message

-- a packet whose names, patterns, numbers, subject and headers are such as the types hold
abbrev pub IsPacket : Packet → Type 0
IsPacket (Ask asker attempt origin stream start filters) =
    IsAttempt asker attempt × IsTrue (is_name origin) × IsTrue (is_name stream) × IsStart start × IsTrue (list_all is_pattern filters)
IsPacket (Answer asker attempt consumer incarnation start) =
    IsAttempt asker attempt × IsStamp consumer × IsWide incarnation × IsWide start
IsPacket (Refuse asker attempt code err_code) = IsAttempt asker attempt × (code < 2 ^ 32) × (err_code < 2 ^ 32)
IsPacket (Delivery asker attempt stream consumer number seq pending message) =
    IsAttempt asker attempt × IsDelivery stream consumer number seq pending message
IsPacket (Beat asker attempt origin stream consumer last_number last_seq stalled) =
    IsAttempt asker attempt × IsConsumer origin stream consumer × IsWide last_number × IsWide last_seq × IsToken stalled
IsPacket (FlowAsk asker attempt origin stream consumer token) =
    IsAttempt asker attempt × IsConsumer origin stream consumer × IsWide token
IsPacket (FlowReply origin stream consumer token) = IsConsumer origin stream consumer × IsWide token
