-- The JSON of answers and of acknowledgements (the JetStream API of NATS). The members of each object stand
-- in byte order of their names.
use Rattle.std.specs.Prelude.{◌≡◌, ℕ, List, [], ◌∷◌, Bool, true, false, Option, None, Some, codes, map}
use Rattle.std.specs.Str.{IsUtf8}
use Rattle.base64.specs.Engines.{standard}
use Rattle.base64.specs.GeneralPurpose.{encode_of}
use Rattle.serde_json.specs.Data.{Data, boolean, string, array, object, Members, no_members, member, put}
use Rattle.serde_json.specs.View.{items_of}
use Rattle.serde_json.specs.Written.{compact_text}
use Rattle.nats_text.specs.Headers.{written}
use Rattle.stream_fold.specs.declared.config.Config.{Config}
use Rattle.stream_fold.specs.declared.entry.Numbered.{Numbered}
use Rattle.config_json.specs.Writing.{config_data, is_text, whole}
use Rattle.moments.specs.Moments.{moment_text}
use Rattle.js_api.specs.declared.call.ApiCall.{ApiCall}
use Rattle.js_api.specs.declared.call.ApiCall.TheVariants as call
use Rattle.js_api.specs.declared.reply.ApiReply.{ApiReply}
use Rattle.js_api.specs.declared.reply.ApiReply.TheVariants.{Made, Info, Done, Purged, Listed, Found, Fault}
use Rattle.js_api.specs.declared.reply.StateFacts.{StateFacts}

-- bytes as a text of base64 with padding (RFC 4648, section 4)
abbrev pub base64_data : List ℕ → Data
base64_data bytes = string (encode_of standard bytes)

-- a moment, `YYYY-MM-DDTHH:MM:SS.nnnnnnnnnZ` (RFC 3339)
abbrev pub moment_data : ℕ → Data
moment_data time = string (moment_text time)

-- the type of the answer to a request
abbrev pub response_type : ApiCall → List ℕ
response_type (call.Create config) = codes "io.nats.jetstream.api.v1.stream_create_response"
response_type (call.Update config) = codes "io.nats.jetstream.api.v1.stream_update_response"
response_type (call.Remove name) = codes "io.nats.jetstream.api.v1.stream_delete_response"
response_type (call.Info name) = codes "io.nats.jetstream.api.v1.stream_info_response"
response_type (call.Names offset) = codes "io.nats.jetstream.api.v1.stream_names_response"
response_type (call.Purge name pattern below) = codes "io.nats.jetstream.api.v1.stream_purge_response"
response_type (call.Get name which) = codes "io.nats.jetstream.api.v1.stream_msg_get_response"
response_type (call.Delete name seq) = codes "io.nats.jetstream.api.v1.stream_msg_delete_response"

-- ---- streams

-- what is told of a stream's messages
abbrev pub state_data : StateFacts → Data
state_data facts = object
    (member (codes "bytes") (whole facts.bytes)
    (member (codes "consumer_count") (whole facts.consumers)
    (member (codes "first_seq") (whole facts.first)
    (member (codes "last_seq") (whole facts.last)
    (member (codes "messages") (whole facts.count) no_members)))))

-- whether the request made the stream, as an answer to its creation tells
abbrev pub creation_of : ApiCall → Bool → Option Bool
creation_of (call.Create config) fresh = Some fresh
creation_of (call.Update config) fresh = None
creation_of (call.Remove name) fresh = None
creation_of (call.Info name) fresh = None
creation_of (call.Names offset) fresh = None
creation_of (call.Purge name pattern below) fresh = None
creation_of (call.Get name which) fresh = None
creation_of (call.Delete name seq) fresh = None

-- a flag that may be absent, before other members
abbrev pub flag_member : List ℕ → Option Bool → Members → Members
flag_member key None others = others
flag_member key (Some flag) others = member key (boolean flag) others

-- a stream: its configuration and what is told of it
abbrev pub stream_data : Config → StateFacts → Option Bool → List ℕ → Data
stream_data config facts created kind = object
    (member (codes "config") (config_data config)
    (member (codes "created") (moment_data facts.created)
    (flag_member (codes "did_create") created
    (member (codes "state") (state_data facts)
    (member (codes "type") (string kind) no_members)))))

-- ---- other answers

-- that it is done
abbrev pub done_data : List ℕ → Data
done_data kind = object
    (member (codes "success") (boolean true)
    (member (codes "type") (string kind) no_members))

-- how many messages went
abbrev pub purged_data : ℕ → List ℕ → Data
purged_data count kind = object
    (member (codes "purged") (whole count)
    (member (codes "success") (boolean true)
    (member (codes "type") (string kind) no_members)))

-- some of the streams' names
abbrev pub listed_data : List (List ℕ) → ℕ → ℕ → List ℕ → Data
listed_data names offset total kind = object
    (member (codes "limit") (whole 1024)
    (member (codes "offset") (whole offset)
    (member (codes "streams") (array (items_of (map string names)))
    (member (codes "total") (whole total)
    (member (codes "type") (string kind) no_members)))))

-- the header block of a message that has headers, before other members
abbrev pub headers_member : List ℕ → Members → Members
headers_member [] others = others
headers_member (b ∷ bs) others = member (codes "hdrs") (base64_data (b ∷ bs)) others

-- a message
abbrev pub message_data : Numbered → Data
message_data found = object
    (member (codes "data") (base64_data found.message.payload)
    (headers_member (written found.message.headers)
    (member (codes "seq") (whole found.seq)
    (member (codes "subject") (string found.message.subject)
    (member (codes "time") (moment_data found.message.time) no_members)))))

-- the message that was asked for
abbrev pub found_data : Numbered → List ℕ → Data
found_data found kind = object
    (member (codes "message") (message_data found)
    (member (codes "type") (string kind) no_members))

-- why something is refused
abbrev pub error_data : ℕ → ℕ → List ℕ → Data
error_data code err_code text = object
    (member (codes "code") (whole code)
    (member (codes "description") (string text)
    (member (codes "err_code") (whole err_code) no_members)))

-- that the request is refused
abbrev pub fault_data : ℕ → ℕ → List ℕ → List ℕ → Data
fault_data code err_code text kind = object
    (member (codes "error") (error_data code err_code text)
    (member (codes "type") (string kind) no_members))

-- the answer to a request
abbrev pub answer_data : ApiCall → ApiReply → Data
answer_data request (Made config facts fresh) = stream_data config facts (creation_of request fresh) (response_type request)
answer_data request (Info config facts) = stream_data config facts None (response_type request)
answer_data request Done = done_data (response_type request)
answer_data request (Purged count) = purged_data count (response_type request)
answer_data request (Listed names offset total) = listed_data names offset total (response_type request)
answer_data request (Found found) = found_data found (response_type request)
answer_data request (Fault code err_code text) = fault_data code err_code text (response_type request)

-- the line of JSON that answers a request
abbrev pub answer_text : ApiCall → ApiReply → List ℕ
answer_text request reply = compact_text (answer_data request reply)

-- the texts of the answer are UTF-8
abbrev pub HasTexts : ApiReply → Type 0
HasTexts (Made config facts fresh) = is_text config ≡ true
HasTexts (Info config facts) = is_text config ≡ true
HasTexts Done = Unit {0}
HasTexts (Purged count) = Unit {0}
HasTexts (Listed names offset total) = Unit {0}
HasTexts (Found found) = Unit {0}
HasTexts (Fault code err_code text) = IsUtf8 text

-- ---- acknowledgements of publishes

-- that the publish repeats a message, before other members
abbrev pub duplicate_member : Bool → Members → Members
duplicate_member false others = others
duplicate_member true others = member (codes "duplicate") (boolean true) others

-- a message stands under this number
abbrev pub ack_data : List ℕ → List ℕ → ℕ → Bool → Data
ack_data domain stream seq duplicate = object
    (member (codes "domain") (string domain)
    (duplicate_member duplicate
    (member (codes "seq") (whole seq)
    (member (codes "stream") (string stream) no_members))))

-- the publish is refused
abbrev pub ack_fault_data : List ℕ → List ℕ → ℕ → ℕ → List ℕ → Data
ack_fault_data domain stream code err_code text = object
    (member (codes "domain") (string domain)
    (member (codes "error") (error_data code err_code text)
    (member (codes "seq") (whole 0)
    (member (codes "stream") (string stream) no_members))))

-- the acknowledgement of a publish
abbrev pub ack_text : List ℕ → List ℕ → ℕ → Bool → List ℕ
ack_text domain stream seq duplicate = compact_text (ack_data domain stream seq duplicate)

-- what a publish is answered that is refused
abbrev pub ack_fault_text : List ℕ → List ℕ → ℕ → ℕ → List ℕ → List ℕ
ack_fault_text domain stream code err_code text = compact_text (ack_fault_data domain stream code err_code text)

-- ---- the members that may be absent, as they are put behind others

-- with a flag, where it is there
abbrev pub flag_put : List ℕ → Option Bool → Members → Members
flag_put key None members = members
flag_put key (Some flag) members = put key (boolean flag) members

-- with a header block, where it isn't empty
abbrev pub headers_put : List ℕ → Members → Members
headers_put [] members = members
headers_put (b ∷ bs) members = put (codes "hdrs") (base64_data (b ∷ bs)) members

-- with that a publish repeats a message, where it does
abbrev pub duplicate_put : Bool → Members → Members
duplicate_put false members = members
duplicate_put true members = put (codes "duplicate") (boolean true) members
