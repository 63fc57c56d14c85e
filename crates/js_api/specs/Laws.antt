-- What holds of requests and answers, whatever the code does.
use Rattle.std.specs.Prelude.{◌≡◌, ℕ, ◌<◌, ◌^◌, List, ◌&&◌, Bool, true, false, IsTrue, Some}
use Rattle.std.specs.List.{list_all}
use Rattle.std.specs.Ordering.{nat_cmp, match_ordering}
use Rattle.std.specs.Cmp.Lexicographic.{slice_cmp}
use Rattle.std.specs.Str.{IsUtf8}
use Rattle.serde_json.specs.Data.{Data, null, boolean, number, string, array, object, Items, no_items, item, Members, no_members, member}
use Rattle.serde_json.specs.Read.{read}
use Rattle.nats_text.specs.Headers.{is_line_byte}
use Rattle.nats_text.specs.Text.{is_name, is_subject}
use Rattle.config_json.specs.Laws.{IsConfig}
use Rattle.config_json.specs.Writing.{is_text}
use Rattle.stream_fold.specs.declared.entry.Numbered.{Numbered}
use Rattle.js_api.specs.Answers.{answer_data, answer_text, ack_data, ack_text, ack_fault_data, ack_fault_text}
use Rattle.js_api.specs.Subjects.{IsTopic, subject_of, topic_of}
use Rattle.js_api.specs.declared.call.ApiCall.{ApiCall}
use Rattle.js_api.specs.declared.reply.ApiReply.{ApiReply}
use Rattle.js_api.specs.declared.reply.ApiReply.TheVariants.{Made, Info, Done, Purged, Listed, Found, Fault}
use Rattle.js_api.specs.declared.reply.StateFacts.{StateFacts}
use Rattle.js_api.specs.declared.topic.Topic.{Topic}

-- ---- subjects

-- each request has a subject that is this request
abbrev pub ReadsEachSubject : Type 0
ReadsEachSubject = (topic : Topic) → IsTopic topic → topic_of (subject_of topic) ≡ Some topic

-- what is read as a request is its subject
abbrev pub ReadsSubjectsAlone : Type 0
ReadsSubjectsAlone = (subject : List ℕ) (topic : Topic) → topic_of subject ≡ Some topic → IsTopic topic × (subject_of topic ≡ subject)

-- ---- lines of JSON

-- each of the members has a name above this one in byte order
abbrev pub is_below : List ℕ → Members → Bool
is_below key no_members = true
is_below key (member other d ms) = match_ordering (slice_cmp nat_cmp other key) false false true && is_below key ms

-- the members of each object stand in byte order of their names, and no name stands twice
abbrev mutual
  pub in_order : Data → Bool
  in_order null = true
  in_order (boolean b) = true
  in_order (number n) = true
  in_order (string s) = true
  in_order (array ds) = items_in_order ds
  in_order (object ms) = members_in_order ms

  pub items_in_order : Items → Bool
  items_in_order no_items = true
  items_in_order (item d ds) = in_order d && items_in_order ds

  pub members_in_order : Members → Bool
  members_in_order no_members = true
  members_in_order (member key d ms) = is_below key ms && in_order d && members_in_order ms

-- the text is one line, which is JSON of these data, with its members in byte order
pub record IsLineOf (d : Data) (text : List ℕ) : Type 0 where
  pub line : IsTrue (list_all is_line_byte text)
  pub reads : read text ≡ Some d
  pub order : IsTrue (in_order d)

-- a number of 64 bits
abbrev pub IsWide : ℕ → Type 0
IsWide n = n < 2 ^ 64

-- a message with its number, as the types hold it
pub record IsNumbered (found : Numbered) : Type 0 where
  pub seq : IsWide found.seq
  pub subject : IsTrue (is_subject found.message.subject)
  pub time : IsWide found.message.time

-- what is told of a stream's messages, as the types hold it
pub record AreFacts (facts : StateFacts) : Type 0 where
  pub created : IsWide facts.created
  pub first : IsWide facts.first
  pub last : IsWide facts.last
  pub count : IsWide facts.count
  pub bytes : IsWide facts.bytes
  pub consumers : IsWide facts.consumers

-- an answer as the types hold it, of which all texts are UTF-8
abbrev pub IsReply : ApiReply → Type 0
IsReply (Made config facts fresh) = IsConfig config × (is_text config ≡ true) × AreFacts facts
IsReply (Info config facts) = IsConfig config × (is_text config ≡ true) × AreFacts facts
IsReply Done = Unit {0}
IsReply (Purged count) = IsWide count
IsReply (Listed names offset total) = IsTrue (list_all is_name names) × IsWide offset × IsWide total
IsReply (Found found) = IsNumbered found
IsReply (Fault code err_code text) = (code < 2 ^ 32) × (err_code < 2 ^ 32) × IsUtf8 text

-- each answer is one line of JSON
abbrev pub AnswersAreLines : Type 0
AnswersAreLines = (request : ApiCall) (reply : ApiReply) → IsReply reply → IsLineOf (answer_data request reply) (answer_text request reply)

-- each acknowledgement is one line of JSON
abbrev pub AcksAreLines : Type 0
AcksAreLines = (domain stream : List ℕ) (seq : ℕ) (duplicate : Bool) → IsTrue (is_name domain) → IsTrue (is_name stream) → IsWide seq
    → IsLineOf (ack_data domain stream seq duplicate) (ack_text domain stream seq duplicate)

-- so is what a publish is answered that is refused
abbrev pub AckFaultsAreLines : Type 0
AckFaultsAreLines = (domain stream : List ℕ) (code err_code : ℕ) (text : List ℕ) → IsTrue (is_name domain) → IsTrue (is_name stream) → code < 2 ^ 32 → err_code < 2 ^ 32 → IsUtf8 text
    → IsLineOf (ack_fault_data domain stream code err_code text) (ack_fault_text domain stream code err_code text)
