-- The JSON of the packets that ask for a consumer and that answer (the JetStream API of NATS).
use Rattle.std.specs.Prelude.{ℕ, true, List, [], ◌∷◌, codes, map}
use Rattle.serde_json.specs.Data.{Data, number, unsigned, boolean, string, array, object, Items, Members, no_members, member, put}
use Rattle.serde_json.specs.View.{items_of}
use Rattle.nats_text.specs.declared.message.Stamp.{Stamp}
use Rattle.nats_text.specs.declared.message.Start.{Start}
use Rattle.nats_text.specs.declared.message.Start.TheVariants.{Seq, Time}
use Rattle.js_wire.specs.Moments.{moment_text}
use Rattle.js_wire.specs.Words.{consumer_name}

-- a number in JSON
abbrev pub whole : ℕ → Data
whole n = number (unsigned n)

-- the type of an answer to the request for a consumer
abbrev pub response_type : Data
response_type = string (codes "io.nats.jetstream.api.v1.consumer_create_response")

-- an answer: the consumer's name, which creation of the stream it reads, and from which number on
abbrev pub answer_data : Stamp → ℕ → ℕ → Data
answer_data consumer incarnation start = object
    (member (codes "incarnation") (whole incarnation)
    (member (codes "name") (string (consumer_name consumer))
    (member (codes "start") (whole start)
    (member (codes "type") response_type no_members))))

-- a refusal, with its two numbers
abbrev pub refusal_data : ℕ → ℕ → Data
refusal_data code err_code = object
    (member (codes "error") (object
    (member (codes "code") (whole code)
    (member (codes "err_code") (whole err_code) no_members)))
    (member (codes "type") response_type no_members))

-- texts as the items of an array
abbrev pub texts : List (List ℕ) → Items
texts ts = items_of (map string ts)

-- the policy by which a consumer starts
abbrev pub policy : Start → List ℕ
policy (Seq n) = codes "by_start_sequence"
policy (Time t) = codes "by_start_time"

-- the member of a start
abbrev pub start_member : Start → Members
start_member (Seq n) = member (codes "opt_start_seq") (whole n) no_members
start_member (Time t) = member (codes "opt_start_time") (string (moment_text t)) no_members

-- the heartbeats of an idle consumer come after 5 seconds, in nanoseconds
abbrev pub behind_filters : Start → Members
behind_filters start = member (codes "flow_control") (boolean true)
    (member (codes "idle_heartbeat") (whole 5_000_000_000) (start_member start))

-- the filters, where there are some
abbrev pub filter_member : List (List ℕ) → Members → Members
filter_member [] others = others
filter_member (filter ∷ filters) others = member (codes "filter_subjects") (array (texts (filter ∷ filters))) others

-- the configuration of the consumer that is asked for
abbrev pub config_data : List ℕ → Start → List (List ℕ) → Data
config_data deliver_subject start filters = object
    (member (codes "ack_policy") (string (codes "none"))
    (member (codes "deliver_policy") (string (policy start))
    (member (codes "deliver_subject") (string deliver_subject)
    (filter_member filters (behind_filters start)))))

-- a request for a consumer of a stream
abbrev pub ask_data : List ℕ → List ℕ → Start → List (List ℕ) → Data
ask_data deliver_subject stream start filters = object
    (member (codes "config") (config_data deliver_subject start filters)
    (member (codes "stream_name") (string stream) no_members))

-- ---- the members of a configuration as they are put, one after another

-- with those that say where a consumer starts
abbrev pub with_start : Start → Members → Members
with_start (Seq n) members = put (codes "opt_start_seq") (whole n) (put (codes "deliver_policy") (string (codes "by_start_sequence")) members)
with_start (Time t) members = put (codes "opt_start_time") (string (moment_text t)) (put (codes "deliver_policy") (string (codes "by_start_time")) members)

-- with the filters, where there are some
abbrev pub with_filters : List (List ℕ) → Members → Members
with_filters [] members = members
with_filters (filter ∷ filters) members = put (codes "filter_subjects") (array (texts (filter ∷ filters))) members
