-- Which request a subject and its payload are (the JetStream API of NATS).
use Rattle.std.specs.Prelude.{◌≡◌, ℕ, List, [], ◌∷◌, Bool, true, false, ◌==◌, if◌then◌else◌, Option, None, Some, is_some, Result, Ok, Err, codes, option_and_then, option_map}
use Rattle.std.specs.Option.{option_map_or}
use Rattle.std.specs.Str.{bytes_eq, IsUtf8}
use Rattle.serde_json.specs.Data.{Data, object, no_members}
use Rattle.serde_json.specs.Find.{get, as_str, as_object}
use Rattle.nats_text.specs.Text.{is_subject}
use Rattle.stream_fold.specs.declared.config.Config.{Config}
use Rattle.config_json.specs.Answers.{and_then}
use Rattle.config_json.specs.Others.{maybe, pattern_of, whole_of}
use Rattle.config_json.specs.Reading.{config_in, data_of}
use Rattle.config_json.specs.declared.fault.ApiFault.{ApiFault}
use Rattle.config_json.specs.declared.fault.ApiFault.TheVariants.{BadRequest, BadConfig, NotForClients, NotApi, NoMemory}
use Rattle.js_api.specs.declared.call.ApiCall.{ApiCall}
use Rattle.js_api.specs.declared.call.ApiCall.TheVariants as call
use Rattle.js_api.specs.declared.call.Which2.{Which2}
use Rattle.js_api.specs.declared.call.Which2.TheVariants.{Seq, LastOf}
use Rattle.js_api.specs.declared.topic.Topic.{Topic}
use Rattle.js_api.specs.declared.topic.Topic.TheVariants.{Names, Stream}
use Rattle.js_api.specs.declared.topic.Verb.{Verb}
use Rattle.js_api.specs.declared.topic.Verb.TheVariants.{Create, Update, Remove, Info, Purge, Get, Delete, Consumer}
use Rattle.js_api.specs.Subjects.{topic_of}

-- ---- the payload

-- data that is an object
abbrev pub if_object : Data → Option Data
if_object d = if is_some (as_object d) then Some d else None

-- the object that a payload is; no bytes at all are one without members
abbrev pub object_of : List ℕ → Option Data
object_of [] = Some (object no_members)
object_of (b ∷ bs) = option_and_then if_object (data_of (b ∷ bs))

-- ---- members

-- a text that is a subject
abbrev pub subject_text : Data → Option (List ℕ)
subject_text d = option_and_then (λ t. if is_subject t then Some t else None) (as_str d)

-- from which of the names on they are listed: from the first one, where the member is absent
abbrev pub offset_of : Data → Option ℕ
offset_of d = option_map_or whole_of (get (codes "offset") d) (Some 0)

-- nothing is to be kept in any case: the number of messages to keep is absent, or 0
abbrev pub keeps_none : Data → Bool
keeps_none d = option_map_or (λ m. option_map_or (λ n. n == 0) (whole_of m) false) (get (codes "keep") d) true

-- which message is asked for: by its number or by its subject, and not by both
abbrev pub which_from : Option Data → Option Data → Option Which2
which_from None None = None
which_from None (Some subject) = option_map (λ t. LastOf t) (subject_text subject)
which_from (Some seq) None = option_map (λ n. Seq n) (whole_of seq)
which_from (Some seq) (Some subject) = None

-- which message an object asks for
abbrev pub which_of : Data → Option Which2
which_of d = which_from (get (codes "seq") d) (get (codes "last_by_subj") d)

-- ---- requests

-- the purge of a stream that an object asks for
abbrev pub purge_of : List ℕ → Data → Option ApiCall
purge_of name d =
    if keeps_none d then
    option_and_then (λ below. option_map (λ pattern. call.Purge name pattern below)
    (maybe pattern_of (get (codes "filter") d))) (maybe whole_of (get (codes "seq") d))
    else None

-- the deletion of a message that an object asks for
abbrev pub deletion_of : List ℕ → Data → Option ApiCall
deletion_of name d = option_map (λ n. call.Delete name n) (option_and_then whole_of (get (codes "seq") d))

-- the member `name` of a configuration is this name
abbrev pub is_named : List ℕ → Data → Bool
is_named name d = option_map_or (λ t. bytes_eq t name) (option_and_then as_str (get (codes "name") d)) false

-- the configuration of a stream of this name
abbrev pub config_named : List ℕ → Data → Result Config ApiFault
config_named name d = if is_named name d then config_in d else Err (BadConfig (codes "name"))

-- a request with a configuration
abbrev pub with_config : (Config → ApiCall) → Result Config ApiFault → Result ApiCall ApiFault
with_config request (Ok config) = Ok (request config)
with_config request (Err fault) = Err fault

-- a request, or a bad one
abbrev pub or_bad : Option ApiCall → Result ApiCall ApiFault
or_bad None = Err BadRequest
or_bad (Some request) = Ok request

-- the request about a stream, of an object
abbrev pub read_about : Verb → List ℕ → Data → Result ApiCall ApiFault
read_about Create name d = with_config (λ c. call.Create c) (config_named name d)
read_about Update name d = with_config (λ c. call.Update c) (config_named name d)
read_about Remove name d = Ok (call.Remove name)
read_about Info name d = Ok (call.Info name)
read_about Purge name d = or_bad (purge_of name d)
read_about Get name d = or_bad (option_map (λ which. call.Get name which) (which_of d))
read_about Delete name d = or_bad (deletion_of name d)
read_about Consumer name d = Err NotForClients

-- the request of an object
abbrev pub read_object : Topic → Data → Result ApiCall ApiFault
read_object Names d = or_bad (option_map (λ n. call.Names n) (offset_of d))
read_object (Stream verb name) d = read_about verb name d

-- consumers are made for the copies of other nodes alone
abbrev pub makes_consumer : Verb → Bool
makes_consumer Create = false
makes_consumer Update = false
makes_consumer Remove = false
makes_consumer Info = false
makes_consumer Purge = false
makes_consumer Get = false
makes_consumer Delete = false
makes_consumer Consumer = true

-- the subject isn't for clients
abbrev pub is_internal : Topic → Bool
is_internal Names = false
is_internal (Stream verb name) = makes_consumer verb

-- the object that a payload is
abbrev pub if_payload : Option Data → Result Data ApiFault
if_payload None = Err BadRequest
if_payload (Some d) = Ok d

-- the object that a payload is, where its subject is one for clients
abbrev pub payload_of : Topic → List ℕ → Result Data ApiFault
payload_of topic payload = if is_internal topic then Err NotForClients else if_payload (object_of payload)

-- the request that a payload is, under a subject of the API
abbrev pub read_topic : Topic → List ℕ → Result ApiCall ApiFault
read_topic topic payload = and_then (payload_of topic payload) (read_object topic)

-- the request that a subject and a payload are
abbrev pub request_of : List ℕ → List ℕ → Result ApiCall ApiFault
request_of subject payload = option_map_or (λ topic. read_topic topic payload) (topic_of subject) (Err NotApi)

-- a value was read that is seen as what it should be, unless there was no memory
abbrev pub IsReadAs : {T V : Type 0} → (T → V) → Result T ApiFault → Result V ApiFault → Type 0
IsReadAs view (Ok value) expected = expected ≡ Ok (view value)
IsReadAs view (Err BadRequest) expected = expected ≡ Err BadRequest
IsReadAs view (Err (BadConfig name)) expected = (expected ≡ Err (BadConfig name)) × IsUtf8 name
IsReadAs view (Err NotForClients) expected = expected ≡ Err NotForClients
IsReadAs view (Err NotApi) expected = expected ≡ Err NotApi
IsReadAs view (Err NoMemory) expected = Unit {0}
