-- The message that carries a packet.
use Rattle.std.specs.Prelude.{ℕ, List, [], ◌∷◌, ◌++◌, Option, None, Some, codes, decimal}
use Rattle.serde_json.specs.Written.{compact_text}
use Rattle.nats_text.specs.Headers.{HeaderBlock, no_headers}
use Rattle.nats_text.specs.declared.headers.Pair.{Pair}
use Rattle.nats_text.specs.declared.message.Message.{Message}
use Rattle.nats_text.specs.declared.message.Parcel.{Parcel}
use Rattle.nats_text.specs.declared.message.Stamp.{Stamp}
use Rattle.js_wire.specs.declared.packet.Packet.{Packet}
use Rattle.js_wire.specs.declared.packet.Packet.TheVariants.{Ask, Answer, Refuse, Delivery, Beat, FlowAsk, FlowReply}
use Rattle.js_wire.specs.Payloads.{answer_data, refusal_data, ask_data}
use Rattle.js_wire.specs.Words.{dotted, consumer_name, attempt_subject, answers, deliveries, create_words, flow_subject, delivery_words}

-- the subject of the message that carries a packet
abbrev pub subject_of : Packet → List ℕ
subject_of (Ask asker attempt origin stream start filters) = dotted (create_words origin stream)
subject_of (Answer asker attempt consumer incarnation start) = attempt_subject asker attempt answers
subject_of (Refuse asker attempt code err_code) = attempt_subject asker attempt answers
subject_of (Delivery asker attempt stream consumer number seq pending message) = attempt_subject asker attempt deliveries
subject_of (Beat asker attempt origin stream consumer last_number last_seq stalled) = attempt_subject asker attempt deliveries
subject_of (FlowAsk asker attempt origin stream consumer token) = attempt_subject asker attempt deliveries
subject_of (FlowReply origin stream consumer token) = flow_subject origin stream consumer token

-- where its answer is awaited, if anywhere
abbrev pub reply_of : Packet → Option (List ℕ)
reply_of (Ask asker attempt origin stream start filters) = Some (attempt_subject asker attempt answers)
reply_of (Answer asker attempt consumer incarnation start) = None
reply_of (Refuse asker attempt code err_code) = None
reply_of (Delivery asker attempt stream consumer number seq pending message) = Some (dotted (delivery_words stream consumer seq number message.time pending))
reply_of (Beat asker attempt origin stream consumer last_number last_seq stalled) = None
reply_of (FlowAsk asker attempt origin stream consumer token) = Some (flow_subject origin stream consumer token)
reply_of (FlowReply origin stream consumer token) = None

-- a name and a value
abbrev pub pair : List ℕ → List ℕ → Pair
pair name value = record { name = name; value = value }

-- the status of a heartbeat
abbrev pub idle_status : List ℕ
idle_status = codes "100 Idle Heartbeat"

-- the status of a flow request
abbrev pub flow_status : List ℕ
flow_status = codes "100 FlowControl Request"

-- the consumer of a heartbeat: its stream's node, its stream and its name
abbrev pub consumer_value : List ℕ → List ℕ → Stamp → List ℕ
consumer_value origin stream consumer = origin ++ 32 ∷ (stream ++ 32 ∷ consumer_name consumer)

-- the header of a consumer that waits for the answer to a flow request
abbrev pub stalled_pairs : List ℕ → List ℕ → Stamp → Option ℕ → List Pair
stalled_pairs origin stream consumer None = []
stalled_pairs origin stream consumer (Some token) = pair (codes "Nats-Consumer-Stalled") (flow_subject origin stream consumer token) ∷ []

-- the headers of a heartbeat
abbrev pub beat_pairs : List ℕ → List ℕ → Stamp → ℕ → ℕ → Option ℕ → List Pair
beat_pairs origin stream consumer last_number last_seq stalled =
    pair (codes "Leafd-Consumer") (consumer_value origin stream consumer)
    ∷ pair (codes "Nats-Last-Consumer") (decimal last_number)
    ∷ pair (codes "Nats-Last-Stream") (decimal last_seq)
    ∷ stalled_pairs origin stream consumer stalled

-- the headers of a delivery: its message's subject, and behind it the message's own
abbrev pub delivery_headers : Message → HeaderBlock
delivery_headers message = record {
  status = message.headers.status;
  pairs = pair (codes "Nats-Subject") message.subject ∷ message.headers.pairs;
}

-- a status alone
abbrev pub status_alone : List ℕ → HeaderBlock
status_alone status = record { status = Some status; pairs = [] }

-- the headers of the message that carries a packet
abbrev pub headers_of : Packet → HeaderBlock
headers_of (Ask asker attempt origin stream start filters) = no_headers
headers_of (Answer asker attempt consumer incarnation start) = no_headers
headers_of (Refuse asker attempt code err_code) = no_headers
headers_of (Delivery asker attempt stream consumer number seq pending message) = delivery_headers message
headers_of (Beat asker attempt origin stream consumer last_number last_seq stalled) = record {
  status = Some idle_status;
  pairs = beat_pairs origin stream consumer last_number last_seq stalled;
}
headers_of (FlowAsk asker attempt origin stream consumer token) = status_alone flow_status
headers_of (FlowReply origin stream consumer token) = no_headers

-- its payload
abbrev pub payload_of : Packet → List ℕ
payload_of (Ask asker attempt origin stream start filters) = compact_text (ask_data (attempt_subject asker attempt deliveries) stream start filters)
payload_of (Answer asker attempt consumer incarnation start) = compact_text (answer_data consumer incarnation start)
payload_of (Refuse asker attempt code err_code) = compact_text (refusal_data code err_code)
payload_of (Delivery asker attempt stream consumer number seq pending message) = message.payload
payload_of (Beat asker attempt origin stream consumer last_number last_seq stalled) = []
payload_of (FlowAsk asker attempt origin stream consumer token) = []
payload_of (FlowReply origin stream consumer token) = []

-- the message that carries a packet
abbrev pub message_of : Packet → Parcel
message_of packet = record {
  subject = subject_of packet;
  reply = reply_of packet;
  headers = headers_of packet;
  payload = payload_of packet;
}
