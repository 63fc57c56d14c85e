-- Each answer is one line of JSON.
use Rattle.std.proofs.Common.{◌≡◌, ℕ, ◌^◌, ◌<◌, ◌≤◌, List, [], ◌∷◌, Bool, true, false, Option, None, Some, refl, map, arith, IsUtf8}
use Rattle.std.specs.Prelude.{codes}
use Rattle.std.specs.List.{list_all}
use Rattle.std.proofs.lemmas.Bool.{and_parts}
use Rattle.std.proofs.lemmas.Str.{IsUtf8-from_ascii}
use Rattle.json.proofs.Printed.Utf8.{IsUtf8-are_ascii}
use Rattle.base64.specs.Engines.{standard}
use Rattle.base64.specs.GeneralPurpose.{encode_of}
use Rattle.base64.proofs.EngineFacts.{IsAscii-encode_of}
use Rattle.serde_json.specs.Data.{Data, string, object, no_members, member, depth, items_depth}
use Rattle.serde_json.specs.Read.{max_depth}
use Rattle.serde_json.specs.View.{items_of}
use Rattle.serde_json.specs.Written.{compact_text}
use Rattle.config_json.specs.Writing.{whole}
use Rattle.moments.proofs.Clock.{moment_utf8}
use Rattle.nats_text.specs.Headers.{written}
use Rattle.nats_text.specs.Text.{is_name}
use Rattle.stream_fold.specs.declared.entry.Numbered.{Numbered}
use Rattle.js_api.specs.Answers.{moment_data, base64_data, response_type, done_data, purged_data, listed_data, headers_member, message_data, found_data, error_data, fault_data, state_data, creation_of, stream_data, answer_data, answer_text, ack_data, ack_text, ack_fault_data, ack_fault_text}
use Rattle.js_api.specs.Laws.{in_order, items_in_order, IsLineOf, IsNumbered, AreFacts, IsReply}
use Rattle.js_api.specs.declared.call.ApiCall.{ApiCall}
use Rattle.js_api.specs.declared.call.ApiCall.TheVariants as call
use Rattle.js_api.specs.declared.reply.ApiReply.{ApiReply}
use Rattle.js_api.specs.declared.reply.ApiReply.TheVariants.{Made, Info, Done, Purged, Listed, Found, Fault}
use Rattle.config_json.proofs.Json.{Plain, PlainItems, PlainMembers}
use Rattle.config_json.proofs.Written.{config_plain, written_shallow}
use Rattle.config_json.specs.Laws.{IsConfig}
use Rattle.config_json.specs.Writing.{config_data, is_text}
use Rattle.stream_fold.specs.declared.config.Config.{Config}
use Rattle.js_api.specs.declared.reply.StateFacts.{StateFacts}
use Rattle.js_api.proofs.Configs.{config_in_order}
use Rattle.js_api.proofs.Json.{reads_again}
use Rattle.config_json.proofs.OneLine.{text_line}
use Rattle.js_api.proofs.Texts.{name_utf8, subject_utf8}

line_of : (d : Data) → Plain d → in_order d ≡ true → depth d ≤ max_depth → IsLineOf d (compact_text d)
line_of d plain ordered shallow = record { line = text_line d plain; reads = reads_again d plain ordered shallow; order = ordered }

kind_utf8 : (request : ApiCall) → IsUtf8 (response_type request)
kind_utf8 (call.Create config) = IsUtf8-are_ascii (codes "io.nats.jetstream.api.v1.stream_create_response") refl
kind_utf8 (call.Update config) = IsUtf8-are_ascii (codes "io.nats.jetstream.api.v1.stream_update_response") refl
kind_utf8 (call.Remove name) = IsUtf8-are_ascii (codes "io.nats.jetstream.api.v1.stream_delete_response") refl
kind_utf8 (call.Info name) = IsUtf8-are_ascii (codes "io.nats.jetstream.api.v1.stream_info_response") refl
kind_utf8 (call.Names offset) = IsUtf8-are_ascii (codes "io.nats.jetstream.api.v1.stream_names_response") refl
kind_utf8 (call.Purge name pattern below) = IsUtf8-are_ascii (codes "io.nats.jetstream.api.v1.stream_purge_response") refl
kind_utf8 (call.Get name which) = IsUtf8-are_ascii (codes "io.nats.jetstream.api.v1.stream_msg_get_response") refl
kind_utf8 (call.Delete name seq) = IsUtf8-are_ascii (codes "io.nats.jetstream.api.v1.stream_msg_delete_response") refl

base64_utf8 : (bytes : List ℕ) → IsUtf8 (encode_of standard bytes)
base64_utf8 bytes = IsUtf8-from_ascii (encode_of standard bytes) (IsAscii-encode_of standard bytes)

-- the member behind all others
type_plain : (kind : List ℕ) → IsUtf8 kind → PlainMembers (member (codes "type") (string kind) no_members)
type_plain kind h = (IsUtf8-are_ascii (codes "type") refl, h, tt)

-- ---- short answers

done_line : (kind : List ℕ) → IsUtf8 kind → IsLineOf (done_data kind) (compact_text (done_data kind))
done_line kind h = line_of (done_data kind) (IsUtf8-are_ascii (codes "success") refl, tt, type_plain kind h) refl (omega arith)

purged_line : (count : ℕ) (kind : List ℕ) → count < 2 ^ 64 → IsUtf8 kind → IsLineOf (purged_data count kind) (compact_text (purged_data count kind))
purged_line count kind c h =
    line_of (purged_data count kind) (IsUtf8-are_ascii (codes "purged") refl, c, (IsUtf8-are_ascii (codes "success") refl, tt, type_plain kind h)) refl (omega arith)

error_plain : (code err_code : ℕ) (text : List ℕ) → code < 2 ^ 32 → err_code < 2 ^ 32 → IsUtf8 text → Plain (error_data code err_code text)
error_plain code err_code text c e t =
    (IsUtf8-are_ascii (codes "code") refl, omega (arith, c), (IsUtf8-are_ascii (codes "description") refl, t, (IsUtf8-are_ascii (codes "err_code") refl, omega (arith, e), tt)))

fault_line : (code err_code : ℕ) (text kind : List ℕ) → code < 2 ^ 32 → err_code < 2 ^ 32 → IsUtf8 text → IsUtf8 kind
    → IsLineOf (fault_data code err_code text kind) (compact_text (fault_data code err_code text kind))
fault_line code err_code text kind c e t h =
    line_of (fault_data code err_code text kind) (IsUtf8-are_ascii (codes "error") refl, error_plain code err_code text c e t, type_plain kind h) refl (omega arith)

-- ---- names

names_plain : (names : List (List ℕ)) → list_all is_name names ≡ true → PlainItems (items_of (map string names))
names_plain [] h = tt
names_plain (name ∷ names) h = let p = and_parts (is_name name) (list_all is_name names) h in (name_utf8 name p.0, names_plain names p.1)

names_ordered : (names : List (List ℕ)) → items_in_order (items_of (map string names)) ≡ true
names_ordered [] = refl
names_ordered (name ∷ names) = names_ordered names

names_shallow : (names : List (List ℕ)) → items_depth (items_of (map string names)) ≤ 0
names_shallow [] = omega arith
names_shallow (name ∷ names) = omega (arith, names_shallow names)

listed_line : (names : List (List ℕ)) (offset total : ℕ) (kind : List ℕ) → list_all is_name names ≡ true → offset < 2 ^ 64 → total < 2 ^ 64 → IsUtf8 kind
    → IsLineOf (listed_data names offset total kind) (compact_text (listed_data names offset total kind))
listed_line names offset total kind n o t h =
    line_of (listed_data names offset total kind)
    (IsUtf8-are_ascii (codes "limit") refl, omega arith, (IsUtf8-are_ascii (codes "offset") refl, o, (IsUtf8-are_ascii (codes "streams") refl, names_plain names n, (IsUtf8-are_ascii (codes "total") refl, t, type_plain kind h))))
    (rw (names_ordered names) refl) (omega (arith, names_shallow names))

-- ---- messages

-- a message by its parts
abbrev parts_data : List ℕ → List ℕ → ℕ → List ℕ → ℕ → Data
parts_data payload block seq subject time = object
    (member (codes "data") (base64_data payload)
    (headers_member block
    (member (codes "seq") (whole seq)
    (member (codes "subject") (string subject)
    (member (codes "time") (moment_data time) no_members)))))

parts_plain : (payload block : List ℕ) (seq : ℕ) (subject : List ℕ) (time : ℕ) → seq < 2 ^ 64 → IsUtf8 subject → time < 2 ^ 64 → Plain (parts_data payload block seq subject time)
parts_plain payload [] seq subject time s u t =
    (IsUtf8-are_ascii (codes "data") refl, base64_utf8 payload, (IsUtf8-are_ascii (codes "seq") refl, s, (IsUtf8-are_ascii (codes "subject") refl, u, (IsUtf8-are_ascii (codes "time") refl, moment_utf8 time t, tt))))
parts_plain payload (b ∷ bs) seq subject time s u t = (
  IsUtf8-are_ascii (codes "data") refl,
  base64_utf8 payload,
  (
    IsUtf8-are_ascii (codes "hdrs") refl,
    base64_utf8 (b ∷ bs),
    (IsUtf8-are_ascii (codes "seq") refl, s, (IsUtf8-are_ascii (codes "subject") refl, u, (IsUtf8-are_ascii (codes "time") refl, moment_utf8 time t, tt))),
  ),
)

parts_ordered : (payload block : List ℕ) (seq : ℕ) (subject : List ℕ) (time : ℕ) → in_order (parts_data payload block seq subject time) ≡ true
parts_ordered payload [] seq subject time = refl
parts_ordered payload (b ∷ bs) seq subject time = refl

parts_shallow : (payload block : List ℕ) (seq : ℕ) (subject : List ℕ) (time : ℕ) → depth (parts_data payload block seq subject time) ≤ 1
parts_shallow payload [] seq subject time = omega arith
parts_shallow payload (b ∷ bs) seq subject time = omega arith

found_line : (found : Numbered) (kind : List ℕ) → IsNumbered found → IsUtf8 kind → IsLineOf (found_data found kind) (compact_text (found_data found kind))
found_line found kind n h =
    let payload = found.message.payload in
    let block = written found.message.headers in
    let plain : Plain (message_data found) = parts_plain payload block found.seq found.message.subject found.message.time n.seq (subject_utf8 found.message.subject n.subject) n.time in
    let ordered : in_order (message_data found) ≡ true = parts_ordered payload block found.seq found.message.subject found.message.time in
    let shallow : depth (message_data found) ≤ 1 = parts_shallow payload block found.seq found.message.subject found.message.time in
    line_of (found_data found kind) (IsUtf8-are_ascii (codes "message") refl, plain, type_plain kind h) (rw ordered refl) (omega (arith, shallow))

-- ---- streams

state_plain : (facts : StateFacts) → AreFacts facts → Plain (state_data facts)
state_plain facts f = (
  IsUtf8-are_ascii (codes "bytes") refl,
  f.bytes,
  (
    IsUtf8-are_ascii (codes "consumer_count") refl,
    f.consumers,
    (IsUtf8-are_ascii (codes "first_seq") refl, f.first, (IsUtf8-are_ascii (codes "last_seq") refl, f.last, (IsUtf8-are_ascii (codes "messages") refl, f.count, tt))),
  ),
)

stream_plain : (config : Config) (facts : StateFacts) (created : Option Bool) (kind : List ℕ) → Plain (config_data config) → AreFacts facts → IsUtf8 kind → Plain (stream_data config facts created kind)
stream_plain config facts None kind p f h = (
  IsUtf8-are_ascii (codes "config") refl,
  p,
  (
    IsUtf8-are_ascii (codes "created") refl,
    moment_utf8 facts.created f.created,
    (IsUtf8-are_ascii (codes "state") refl, state_plain facts f, type_plain kind h),
  ),
)
stream_plain config facts (Some flag) kind p f h = (
  IsUtf8-are_ascii (codes "config") refl,
  p,
  (
    IsUtf8-are_ascii (codes "created") refl,
    moment_utf8 facts.created f.created,
    (IsUtf8-are_ascii (codes "did_create") refl, tt, (IsUtf8-are_ascii (codes "state") refl, state_plain facts f, type_plain kind h)),
  ),
)

stream_ordered : (config : Config) (facts : StateFacts) (created : Option Bool) (kind : List ℕ) → in_order (config_data config) ≡ true → in_order (stream_data config facts created kind) ≡ true
stream_ordered config facts None kind o = rw o refl
stream_ordered config facts (Some flag) kind o = rw o refl

stream_shallow : (config : Config) (facts : StateFacts) (created : Option Bool) (kind : List ℕ) → depth (config_data config) ≤ 5 → depth (stream_data config facts created kind) ≤ 6
stream_shallow config facts None kind s = omega (arith, s)
stream_shallow config facts (Some flag) kind s = omega (arith, s)

stream_line : (config : Config) (facts : StateFacts) (created : Option Bool) (kind : List ℕ) → IsConfig config → is_text config ≡ true → AreFacts facts → IsUtf8 kind
    → IsLineOf (stream_data config facts created kind) (compact_text (stream_data config facts created kind))
stream_line config facts created kind c t f h =
    line_of (stream_data config facts created kind) (stream_plain config facts created kind (config_plain config c t) f h)
    (stream_ordered config facts created kind (config_in_order config)) (omega (arith, stream_shallow config facts created kind (written_shallow config)))

pub answers : (request : ApiCall) (reply : ApiReply) → IsReply reply → IsLineOf (answer_data request reply) (answer_text request reply)
answers request (Made config facts fresh) h = stream_line config facts (creation_of request fresh) (response_type request) h.0 h.1 h.2 (kind_utf8 request)
answers request (Info config facts) h = stream_line config facts None (response_type request) h.0 h.1 h.2 (kind_utf8 request)
answers request Done h = done_line (response_type request) (kind_utf8 request)
answers request (Purged count) h = purged_line count (response_type request) h (kind_utf8 request)
answers request (Listed names offset total) h = listed_line names offset total (response_type request) h.0 h.1 h.2 (kind_utf8 request)
answers request (Found found) h = found_line found (response_type request) h (kind_utf8 request)
answers request (Fault code err_code text) h = fault_line code err_code text (response_type request) h.0 h.1 h.2 (kind_utf8 request)

-- ---- acknowledgements

pub acks : (domain stream : List ℕ) (seq : ℕ) (duplicate : Bool) → is_name domain ≡ true → is_name stream ≡ true → seq < 2 ^ 64
    → IsLineOf (ack_data domain stream seq duplicate) (ack_text domain stream seq duplicate)
acks domain stream seq true d s n =
    line_of (ack_data domain stream seq true)
    (IsUtf8-are_ascii (codes "domain") refl, name_utf8 domain d, (IsUtf8-are_ascii (codes "duplicate") refl, tt, (IsUtf8-are_ascii (codes "seq") refl, n, (IsUtf8-are_ascii (codes "stream") refl, name_utf8 stream s, tt))))
    refl (omega arith)
acks domain stream seq false d s n =
    line_of (ack_data domain stream seq false)
    (IsUtf8-are_ascii (codes "domain") refl, name_utf8 domain d, (IsUtf8-are_ascii (codes "seq") refl, n, (IsUtf8-are_ascii (codes "stream") refl, name_utf8 stream s, tt)))
    refl (omega arith)

pub ack_faults : (domain stream : List ℕ) (code err_code : ℕ) (text : List ℕ) → is_name domain ≡ true → is_name stream ≡ true → code < 2 ^ 32 → err_code < 2 ^ 32 → IsUtf8 text
    → IsLineOf (ack_fault_data domain stream code err_code text) (ack_fault_text domain stream code err_code text)
ack_faults domain stream code err_code text d s c e t =
    line_of (ack_fault_data domain stream code err_code text) (
      IsUtf8-are_ascii (codes "domain") refl,
      name_utf8 domain d,
      (
        IsUtf8-are_ascii (codes "error") refl,
        error_plain code err_code text c e t,
        (IsUtf8-are_ascii (codes "seq") refl, omega arith, (IsUtf8-are_ascii (codes "stream") refl, name_utf8 stream s, tt)),
      ),
    )
    refl (omega arith)
