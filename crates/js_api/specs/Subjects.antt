-- Which subjects are requests of the API, and which request each is (the JetStream API of NATS).
use Rattle.std.specs.Prelude.{ℕ, List, [], ◌∷◌, ◌++◌, ◌&&◌, if◌then◌else◌, Option, None, Some, codes, option_and_then, IsTrue}
use Rattle.std.specs.Str.{bytes_eq}
use Rattle.nats_text.specs.Text.{is_name, tokens}
use Rattle.js_api.specs.declared.topic.Verb.{Verb}
use Rattle.js_api.specs.declared.topic.Verb.TheVariants.{Create, Update, Remove, Info, Purge, Get, Delete, Consumer}
use Rattle.js_api.specs.declared.topic.Topic.{Topic}
use Rattle.js_api.specs.declared.topic.Topic.TheVariants.{Names, Stream}

-- what the subject of a request about a stream begins with
abbrev pub beginning : Verb → List ℕ
beginning Create = codes "$JS.API.STREAM.CREATE."
beginning Update = codes "$JS.API.STREAM.UPDATE."
beginning Remove = codes "$JS.API.STREAM.DELETE."
beginning Info = codes "$JS.API.STREAM.INFO."
beginning Purge = codes "$JS.API.STREAM.PURGE."
beginning Get = codes "$JS.API.STREAM.MSG.GET."
beginning Delete = codes "$JS.API.STREAM.MSG.DELETE."
beginning Consumer = codes "$JS.API.CONSUMER.CREATE."

-- the subject of a request: one about a stream ends in the stream's name
abbrev pub subject_of : Topic → List ℕ
subject_of Names = codes "$JS.API.STREAM.NAMES"
subject_of (Stream verb name) = beginning verb ++ name

-- a request, whose stream has a name
abbrev pub IsTopic : Topic → Type 0
IsTopic Names = Unit {0}
IsTopic (Stream verb name) = IsTrue (is_name name)

-- ---- reading

-- the request of the word behind `STREAM`
abbrev pub stream_verb : List ℕ → Option Verb
stream_verb word =
    if bytes_eq word (codes "CREATE") then Some Create
    else (if bytes_eq word (codes "UPDATE") then Some Update
    else (if bytes_eq word (codes "DELETE") then Some Remove
    else (if bytes_eq word (codes "INFO") then Some Info
    else (if bytes_eq word (codes "PURGE") then Some Purge else None))))

-- the request of the word behind `STREAM.MSG`
abbrev pub message_verb : List ℕ → Option Verb
message_verb word =
    if bytes_eq word (codes "GET") then Some Get
    else (if bytes_eq word (codes "DELETE") then Some Delete else None)

-- the request of two words
abbrev pub short_verb : List ℕ → List ℕ → Option Verb
short_verb group word =
    if bytes_eq group (codes "STREAM") then stream_verb word
    else (if bytes_eq group (codes "CONSUMER") && bytes_eq word (codes "CREATE") then Some Consumer else None)

-- the request of three words
abbrev pub long_verb : List ℕ → List ℕ → List ℕ → Option Verb
long_verb group word more = if bytes_eq group (codes "STREAM") && bytes_eq word (codes "MSG") then message_verb more else None

-- a request about a stream, where the last word is a name
abbrev pub about : Option Verb → List ℕ → Option Topic
about verb name = option_and_then (λ v. if is_name name then Some (Stream v name) else None) verb

-- the request of the words behind `$JS.API`
abbrev pub topic_behind : List (List ℕ) → Option Topic
topic_behind [] = None
topic_behind (group ∷ []) = None
topic_behind (group ∷ word ∷ []) = if bytes_eq group (codes "STREAM") && bytes_eq word (codes "NAMES") then Some Names else None
topic_behind (group ∷ word ∷ name ∷ []) = about (short_verb group word) name
topic_behind (group ∷ word ∷ more ∷ name ∷ []) = about (long_verb group word more) name
topic_behind (group ∷ word ∷ more ∷ name ∷ other ∷ others) = None

-- the request of a subject's words
abbrev pub topic_in : List (List ℕ) → Option Topic
topic_in [] = None
topic_in (system ∷ []) = None
topic_in (system ∷ api ∷ words) = if bytes_eq system (codes "$JS") && bytes_eq api (codes "API") then topic_behind words else None

-- the request that a subject is, if it is one
abbrev pub topic_of : List ℕ → Option Topic
topic_of subject = topic_in (tokens subject)
