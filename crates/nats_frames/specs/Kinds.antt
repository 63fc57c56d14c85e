-- Which frames a side may send: each value as its type or its format has it.
use Rattle.std.specs.Prelude.{◌≡◌, ℕ, ◌^◌, ◌<◌, List, length, Bool, true, ◌&&◌, not, nat_lt, Option, None, Some}
use Rattle.std.specs.List.{list_all}
use Rattle.std.specs.Option.{option_map_or}
use Rattle.nats_text.specs.Headers.{no_headers, is_header_block, is_blank}
use Rattle.nats_text.specs.Text.{is_name, is_subject, is_pattern}
use Rattle.nats_text.specs.declared.message.Parcel.{Parcel}
use Rattle.nats_frames.specs.declared.frame.Side.{Side}
use Rattle.nats_frames.specs.declared.frame.Side.TheVariants.{FromClient, FromServer}
use Rattle.nats_frames.specs.declared.frame.ServerInfo.{ServerInfo}
use Rattle.nats_frames.specs.declared.frame.ClientFrame.{ClientFrame}
use Rattle.nats_frames.specs.declared.frame.ClientFrame.TheVariants.{Connect, Info, Pub, HPub, Sub, Unsub, Msg, HMsg, Ping, Pong, Okay, Fault, BadSubject}
use Rattle.nats_frames.specs.Lines.{is_feed, has_no_feed}
use Rattle.nats_frames.specs.Fields.{is_short}
use Rattle.nats_frames.specs.Texts.{HasTexts}

-- a byte that ends neither a field nor a line
abbrev pub is_plain_byte : ℕ → Bool
is_plain_byte b = not (is_blank b) && not (is_feed b)

-- a queue or a sid: 1 to 100 bytes without blanks and LF
abbrev pub is_label : List ℕ → Bool
is_label label = nat_lt 0 (length label) && list_all is_plain_byte label && is_short label

-- a queue, where there is one
abbrev pub is_queue : Option (List ℕ) → Bool
is_queue queue = option_map_or is_label queue true

-- the count of an end that comes later: 1 or more, in at most 9 digits
abbrev pub IsCount : Option ℕ → Type 0
IsCount None = Unit {0}
IsCount (Some max) = (0 < max) × (max < 1_000_000_000)

-- the names and the numbers of a server
pub record IsServer (info : ServerInfo) : Type 0 where
  pub server_id : is_name info.server_id ≡ true
  pub server_name : is_name info.server_name ≡ true
  pub port : info.port < 2 ^ 32
  pub max_payload : info.max_payload < 2 ^ 64
  pub proto : info.proto < 2 ^ 32

-- the subjects and the headers of a message
pub record IsParcel (parcel : Parcel) : Type 0 where
  pub subject : is_subject parcel.subject ≡ true
  pub reply : option_map_or is_subject parcel.reply true ≡ true
  pub headers : is_header_block parcel.headers ≡ true

-- a frame of this side: what has no header block has no headers, and the text of an error no LF
abbrev pub IsOf : Side → ClientFrame → Type 0
IsOf side (Connect verbose headers no_responders echo) = side ≡ FromClient
IsOf side (Info info) = (side ≡ FromServer) × IsServer info × HasTexts (Info info)
IsOf side (Pub parcel) = (side ≡ FromClient) × IsParcel parcel × (parcel.headers ≡ no_headers)
IsOf side (HPub parcel) = (side ≡ FromClient) × IsParcel parcel
IsOf side (Sub pattern queue sid) = (side ≡ FromClient) × (is_pattern pattern ≡ true) × (is_queue queue ≡ true) × (is_label sid ≡ true)
IsOf side (Unsub sid max) = (side ≡ FromClient) × (is_label sid ≡ true) × IsCount max
IsOf side (Msg sid parcel) = (side ≡ FromServer) × (is_label sid ≡ true) × IsParcel parcel × (parcel.headers ≡ no_headers)
IsOf side (HMsg sid parcel) = (side ≡ FromServer) × (is_label sid ≡ true) × IsParcel parcel
IsOf side Ping = Unit {0}
IsOf side Pong = Unit {0}
IsOf side Okay = side ≡ FromServer
IsOf side (Fault text) = (side ≡ FromServer) × (has_no_feed text ≡ true)
IsOf side BadSubject = side ≡ FromClient
