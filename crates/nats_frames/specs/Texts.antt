-- How frames are written (the NATS client protocol).
use Rattle.std.specs.Prelude.{ℕ, ◌+◌, ◌≤◌, List, [], ◌∷◌, ◌++◌, length, codes, decimal, Option, None, Some}
use Rattle.std.specs.List.{flat_map}
use Rattle.std.specs.Str.{IsUtf8}
use Rattle.serde_json.specs.Written.{compact_text}
use Rattle.nats_text.specs.Headers.{HeaderBlock, crlf, written}
use Rattle.nats_frames.specs.declared.frame.ClientFrame.{ClientFrame}
use Rattle.nats_frames.specs.declared.frame.ClientFrame.TheVariants.{Connect, Info, Pub, HPub, Sub, Unsub, Msg, HMsg, Ping, Pong, Okay, Fault, BadSubject}
use Rattle.nats_frames.specs.Frames.{most_line, most_payload}
use Rattle.nats_frames.specs.Json.{connect_data, info_data}

-- fields, each behind a space
abbrev pub behind_spaces : List (List ℕ) → List ℕ
behind_spaces fields = flat_map (λ field. 32 ∷ field) fields

-- an operation and its fields
abbrev pub worded : List ℕ → List (List ℕ) → List ℕ
worded operation fields = operation ++ behind_spaces fields

-- a field that may be absent, before others
abbrev pub onto_some : Option (List ℕ) → List (List ℕ) → List (List ℕ)
onto_some None others = others
onto_some (Some field) others = field ∷ others

-- the size of a payload
abbrev pub size_fields : List ℕ → List (List ℕ)
size_fields payload = decimal (length payload) ∷ []

-- the sizes of a header block and of both together
abbrev pub both_sizes : HeaderBlock → List ℕ → List (List ℕ)
both_sizes headers payload = decimal (length (written headers)) ∷ decimal (length (written headers) + length payload) ∷ []

-- the count of an end that comes later
abbrev pub count_fields : Option ℕ → List (List ℕ)
count_fields None = []
count_fields (Some max) = decimal max ∷ []

-- the line of a frame, without its CR LF
abbrev pub line_of : ClientFrame → List ℕ
line_of (Connect verbose headers no_responders echo) = codes "CONNECT " ++ compact_text (connect_data verbose headers no_responders echo)
line_of (Info info) = codes "INFO " ++ compact_text (info_data info)
line_of (Pub parcel) = worded (codes "PUB") (parcel.subject ∷ onto_some parcel.reply (size_fields parcel.payload))
line_of (HPub parcel) = worded (codes "HPUB") (parcel.subject ∷ onto_some parcel.reply (both_sizes parcel.headers parcel.payload))
line_of (Sub pattern queue sid) = worded (codes "SUB") (pattern ∷ onto_some queue (sid ∷ []))
line_of (Unsub sid max) = worded (codes "UNSUB") (sid ∷ count_fields max)
line_of (Msg sid parcel) = worded (codes "MSG") (parcel.subject ∷ sid ∷ onto_some parcel.reply (size_fields parcel.payload))
line_of (HMsg sid parcel) = worded (codes "HMSG") (parcel.subject ∷ sid ∷ onto_some parcel.reply (both_sizes parcel.headers parcel.payload))
line_of Ping = codes "PING"
line_of Pong = codes "PONG"
line_of Okay = codes "+OK"
line_of (Fault text) = codes "-ERR '" ++ text ++ 39 ∷ []
line_of BadSubject = codes "SUB . 1"

-- a header block and a payload, which end in CR LF
abbrev pub body : List ℕ → List ℕ → List ℕ
body block payload = block ++ payload ++ crlf

-- what stands behind the line of a frame and its CR LF
abbrev pub body_of : ClientFrame → List ℕ
body_of (Connect verbose headers no_responders echo) = []
body_of (Info info) = []
body_of (Pub parcel) = body [] parcel.payload
body_of (HPub parcel) = body (written parcel.headers) parcel.payload
body_of (Sub pattern queue sid) = []
body_of (Unsub sid max) = []
body_of (Msg sid parcel) = body [] parcel.payload
body_of (HMsg sid parcel) = body (written parcel.headers) parcel.payload
body_of Ping = []
body_of Pong = []
body_of Okay = []
body_of (Fault text) = []
body_of BadSubject = []

-- the bytes of a frame
abbrev pub text : ClientFrame → List ℕ
text frame = line_of frame ++ crlf ++ body_of frame

-- the length of the header block and of the payload that are written
abbrev pub payload_of : ClientFrame → ℕ
payload_of (Connect verbose headers no_responders echo) = 0
payload_of (Info info) = 0
payload_of (Pub parcel) = length parcel.payload
payload_of (HPub parcel) = length (written parcel.headers) + length parcel.payload
payload_of (Sub pattern queue sid) = 0
payload_of (Unsub sid max) = 0
payload_of (Msg sid parcel) = length parcel.payload
payload_of (HMsg sid parcel) = length (written parcel.headers) + length parcel.payload
payload_of Ping = 0
payload_of Pong = 0
payload_of Okay = 0
payload_of (Fault text) = 0
payload_of BadSubject = 0

-- what is written of a frame is within the bounds of a line and of a payload
pub record IsWithinBounds (frame : ClientFrame) : Type 0 where
  pub line : length (line_of frame) ≤ most_line
  pub payload : payload_of frame ≤ most_payload

-- the texts that are written as JSON are UTF-8
abbrev pub HasTexts : ClientFrame → Type 0
HasTexts (Connect verbose headers no_responders echo) = Unit {0}
HasTexts (Info info) = IsUtf8 info.version × IsUtf8 info.go × IsUtf8 info.host
HasTexts (Pub parcel) = Unit {0}
HasTexts (HPub parcel) = Unit {0}
HasTexts (Sub pattern queue sid) = Unit {0}
HasTexts (Unsub sid max) = Unit {0}
HasTexts (Msg sid parcel) = Unit {0}
HasTexts (HMsg sid parcel) = Unit {0}
HasTexts Ping = Unit {0}
HasTexts Pong = Unit {0}
HasTexts Okay = Unit {0}
HasTexts (Fault text) = Unit {0}
HasTexts BadSubject = Unit {0}
