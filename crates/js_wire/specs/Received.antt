-- The packet that a message without JSON carries, told by its words.
use Rattle.std.specs.Prelude.{ℕ, List, [], ◌∷◌, length, Bool, ◌&&◌, ◌==◌, if◌then◌else◌, Option, None, Some, codes, option_and_then, option_map}
use Rattle.std.specs.Option.{option_eq, option_map_or}
use Rattle.std.specs.Str.{bytes_eq}
use Rattle.nats_text.specs.Headers.{HeaderBlock, has_none}
use Rattle.nats_text.specs.Pieces.{pieces}
use Rattle.nats_text.specs.Text.{is_subject}
use Rattle.nats_text.specs.declared.headers.Pair.{Pair}
use Rattle.nats_text.specs.declared.message.Message.{Message}
use Rattle.nats_text.specs.declared.message.Parcel.{Parcel}
use Rattle.js_wire.specs.declared.packet.Packet.{Packet}
use Rattle.js_wire.specs.declared.packet.Packet.TheVariants.{Delivery, Beat, FlowAsk, FlowReply}
use Rattle.js_wire.specs.declared.beats.Beats.{Beats}
use Rattle.js_wire.specs.declared.words.Beater.{Beater}
use Rattle.js_wire.specs.declared.words.Flow.{Flow}
use Rattle.js_wire.specs.declared.words.Receipt.{Receipt}
use Rattle.js_wire.specs.Messages.{idle_status, flow_status}
use Rattle.js_wire.specs.Reading.{numeral, attempt_of, flow_of, receipt_of, beater_of}
use Rattle.js_wire.specs.Words.{deliveries}

-- there are no bytes
abbrev pub is_empty : List ℕ → Bool
is_empty bs = length bs == 0

-- headers of this status
abbrev pub has_status : List ℕ → HeaderBlock → Bool
has_status status headers = option_eq bytes_eq headers.status (Some status)

-- the answer to a flow request: a message without headers and without payload
abbrev pub read_flow_reply : Parcel → Flow → Option Packet
read_flow_reply m f = if has_none m.headers && is_empty m.payload then Some (FlowReply f.origin f.stream f.consumer f.token) else None

-- a flow request of an attempt
abbrev pub read_flow_ask : Parcel → Flow → Option Packet
read_flow_ask m f = if has_status flow_status m.headers && length m.headers.pairs == 0 && is_empty m.payload
    then option_map (λ a. FlowAsk a.asker a.attempt f.origin f.stream f.consumer f.token) (attempt_of deliveries (pieces 46 m.subject)) else None

-- the message of a subject, which the first pair has to be, and of the pairs behind it
abbrev pub message_from : ℕ → Option (List ℕ) → List ℕ → Pair → List Pair → Option Message
message_from time status payload first others = if bytes_eq first.name (codes "Nats-Subject") && is_subject first.value
    then Some (record { subject = first.value; headers = record { status = status; pairs = others }; payload = payload; time = time }) else None

-- the message of a delivery: its first pair is the subject
abbrev pub message_behind : ℕ → Option (List ℕ) → List ℕ → List Pair → Option Message
message_behind time status payload [] = None
message_behind time status payload (first ∷ others) = message_from time status payload first others

-- a delivery of an attempt
abbrev pub read_delivery : Parcel → Receipt → Option Packet
read_delivery m r = option_and_then (λ a. option_map (λ message. Delivery a.asker a.attempt r.stream r.consumer r.number r.seq r.pending message)
    (message_behind r.time m.headers.status m.payload m.headers.pairs)) (attempt_of deliveries (pieces 46 m.subject))

-- the token of a flow request of this consumer
abbrev pub token_for : Beater → Flow → Option ℕ
token_for b f = if bytes_eq f.origin b.origin && bytes_eq f.stream b.stream && f.consumer.boot == b.consumer.boot && f.consumer.count == b.consumer.count then Some f.token else None

-- the token of the header of a consumer that waits
abbrev pub stalled_by : Beater → Pair → Option (Option ℕ)
stalled_by b p = if bytes_eq p.name (codes "Nats-Consumer-Stalled") then option_and_then (λ f. option_map (λ t. Some t) (token_for b f)) (flow_of (pieces 46 p.value)) else None

-- what the headers behind the third say of the flow request that a consumer waits for
abbrev pub stalled_of : Beater → List Pair → Option (Option ℕ)
stalled_of b [] = Some None
stalled_of b (p ∷ []) = stalled_by b p
stalled_of b (p ∷ q ∷ others) = None

-- the names of the first three headers of a heartbeat
abbrev pub are_beat_names : Pair → Pair → Pair → Bool
are_beat_names first second third = bytes_eq first.name (codes "Leafd-Consumer") && bytes_eq second.name (codes "Nats-Last-Consumer") && bytes_eq third.name (codes "Nats-Last-Stream")

-- what the values of the headers of a heartbeat say
abbrev pub beats_from : List ℕ → List ℕ → List ℕ → List Pair → Option Beats
beats_from consumer number seq others =
    option_and_then (λ b. option_and_then (λ n. option_and_then (λ q. option_map
    (λ t. record { beater = b; last_number = n; last_seq = q; stalled = t })
    (stalled_of b others)) (numeral seq)) (numeral number)) (beater_of (pieces 32 consumer))

-- what the headers of a heartbeat say
abbrev pub beats_of : List Pair → Option Beats
beats_of [] = None
beats_of (first ∷ []) = None
beats_of (first ∷ second ∷ []) = None
beats_of (first ∷ second ∷ third ∷ others) = if are_beat_names first second third then beats_from first.value second.value third.value others else None

-- a heartbeat of an attempt
abbrev pub read_beat : Parcel → Option Packet
read_beat m = if has_status idle_status m.headers && is_empty m.payload
    then option_and_then (λ a. option_map (λ b. Beat a.asker a.attempt b.beater.origin b.beater.stream b.beater.consumer b.last_number b.last_seq b.stalled) (beats_of m.headers.pairs)) (attempt_of deliveries (pieces 46 m.subject)) else None

-- the packet of a message whose answer is awaited under these words
abbrev pub read_request : Parcel → List (List ℕ) → Option Packet
read_request m words = option_map_or (read_delivery m) (receipt_of words) (option_map_or (read_flow_ask m) (flow_of words) None)

-- the packet of a message whose answer isn't awaited
abbrev pub read_notice : Parcel → Option Packet
read_notice m = option_map_or (read_flow_reply m) (flow_of (pieces 46 m.subject)) (read_beat m)

-- the packet of a message
abbrev pub read_plain : Parcel → Option (List ℕ) → Option Packet
read_plain m None = read_notice m
read_plain m (Some reply) = read_request m (pieces 46 reply)
