-- How the frames of leaf links are written (NATS leaf nodes).
use Rattle.std.specs.Prelude.{ℕ, ◌+◌, ◌≤◌, List, [], ◌∷◌, ◌++◌, length, codes, decimal, Bool, ◌||◌, nat_lt, if◌then◌else◌, Option, None, Some}
use Rattle.std.specs.Str.{bytes_eq}
use Rattle.serde_json.specs.Written.{compact_text}
use Rattle.nats_text.specs.Headers.{has_none, crlf, written}
use Rattle.nats_text.specs.declared.message.Parcel.{Parcel}
use Rattle.nats_frames.specs.Texts.{worded, onto_some, size_fields, both_sizes, body}
use Rattle.leaf_frames.specs.declared.frame.LeafFrame.{LeafFrame}
use Rattle.leaf_frames.specs.declared.frame.LeafFrame.TheVariants.{Info, Connect, SubOn, SubOff, Msg, Ping, Pong, Fault}
use Rattle.leaf_frames.specs.Frames.{most_line, most_payload, plus, bar}
use Rattle.leaf_frames.specs.Json.{hello_data}

-- a queue and its weight, where there are some
abbrev pub group_fields : Option (List ℕ × ℕ) → List (List ℕ)
group_fields None = []
group_fields (Some group) = group.0 ∷ decimal group.1 ∷ []

-- a reply that behind a subject would be read as a sign
abbrev pub is_sign : List ℕ → Bool
is_sign reply = bytes_eq reply plus || bytes_eq reply bar

-- the queues of a message without a reply, behind their sign where there are some
abbrev pub queue_fields : List (List ℕ) → List (List ℕ)
queue_fields [] = []
queue_fields (queue ∷ queues) = bar ∷ queue ∷ queues

-- a reply and queues, behind their sign unless the reply stands alone and is no sign itself
abbrev pub reply_fields : List ℕ → List (List ℕ) → List (List ℕ)
reply_fields reply queues = if is_sign reply || nat_lt 0 (length queues) then plus ∷ reply ∷ queues else reply ∷ []

-- what stands behind the subject of a message
abbrev pub behind_subject : Option (List ℕ) → List (List ℕ) → List (List ℕ)
behind_subject None queues = queue_fields queues
behind_subject (Some reply) queues = reply_fields reply queues

-- a subject, a reply and queues
abbrev pub address_fields : List ℕ → Option (List ℕ) → List (List ℕ) → List (List ℕ)
address_fields subject reply queues = subject ∷ behind_subject reply queues

-- the line of a message: HMSG exactly where there are headers
abbrev pub message_line : Parcel → List (List ℕ) → List ℕ
message_line parcel queues =
    if has_none parcel.headers
    then worded (codes "LMSG") (address_fields parcel.subject parcel.reply queues ++ size_fields parcel.payload)
    else worded (codes "HMSG") (address_fields parcel.subject parcel.reply queues ++ both_sizes parcel.headers parcel.payload)

-- the line of a frame, without its CR LF
abbrev pub line_of : LeafFrame → List ℕ
line_of (Info name headers) = codes "INFO " ++ compact_text (hello_data name headers)
line_of (Connect name headers) = codes "CONNECT " ++ compact_text (hello_data name headers)
line_of (SubOn pattern group) = worded (codes "LS+") (pattern ∷ group_fields group)
line_of (SubOff pattern queue) = worded (codes "LS-") (pattern ∷ onto_some queue [])
line_of (Msg parcel queues) = message_line parcel queues
line_of Ping = codes "PING"
line_of Pong = codes "PONG"
line_of (Fault text) = codes "-ERR '" ++ text ++ 39 ∷ []

-- what stands behind the line of a frame and its CR LF
abbrev pub body_of : LeafFrame → List ℕ
body_of (Info name headers) = []
body_of (Connect name headers) = []
body_of (SubOn pattern group) = []
body_of (SubOff pattern queue) = []
body_of (Msg parcel queues) = body (written parcel.headers) parcel.payload
body_of Ping = []
body_of Pong = []
body_of (Fault text) = []

-- the bytes of a frame
abbrev pub text : LeafFrame → List ℕ
text frame = line_of frame ++ crlf ++ body_of frame

-- the length of the header block and of the payload that are written
abbrev pub payload_of : LeafFrame → ℕ
payload_of (Info name headers) = 0
payload_of (Connect name headers) = 0
payload_of (SubOn pattern group) = 0
payload_of (SubOff pattern queue) = 0
payload_of (Msg parcel queues) = length (written parcel.headers) + length parcel.payload
payload_of Ping = 0
payload_of Pong = 0
payload_of (Fault text) = 0

-- what is written of a frame is within the bounds of a line and of a payload
pub record IsWithinBounds (frame : LeafFrame) : Type 0 where
  pub line : length (line_of frame) ≤ most_line
  pub payload : payload_of frame ≤ most_payload
