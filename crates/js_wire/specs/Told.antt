-- The packet that a message's JSON tells of. It is compared with the message after it is written again.
use Rattle.std.specs.Prelude.{ℕ, ◌^◌, List, [], ◌∷◌, nat_lt, if◌then◌else◌, Option, None, Some, Result, Ok, Err, ℤ, pos, negsuc, codes, option_and_then, option_map}
use Rattle.std.specs.Option.{option_map_or}
use Rattle.std.specs.Str.{is_utf8}
use Rattle.jiff_core.specs.declared.error.Error.{Error}
use Rattle.jiff_fmt.specs.Temporal.{parse_timestamp}
use Rattle.serde_json.specs.Data.{Data, Items, no_items, item}
use Rattle.serde_json.specs.Find.{get, as_number, as_str, as_array, as_u64}
use Rattle.serde_json.specs.Read.{read}
use Rattle.nats_text.specs.Pieces.{pieces}
use Rattle.nats_text.specs.Text.{is_pattern}
use Rattle.nats_text.specs.declared.message.Parcel.{Parcel}
use Rattle.nats_text.specs.declared.message.Start.{Start}
use Rattle.nats_text.specs.declared.message.Start.TheVariants.{Seq, Time}
use Rattle.js_wire.specs.declared.packet.Packet.{Packet}
use Rattle.js_wire.specs.declared.packet.Packet.TheVariants.{Ask, Answer, Refuse}
use Rattle.js_wire.specs.declared.words.Attempt.{Attempt}
use Rattle.js_wire.specs.declared.words.Create.{Create}
use Rattle.js_wire.specs.Reading.{consumer_of, attempt_of, create_of}
use Rattle.js_wire.specs.Words.{answers}

-- the JSON of a text in UTF-8
abbrev pub data_of : List ℕ → Option Data
data_of text = if is_utf8 text then read text else None

-- the whole number under a name
abbrev pub whole_at : List ℕ → Data → Option ℕ
whole_at name d = option_and_then as_u64 (option_and_then as_number (get name d))

-- the whole number of 32 bits under a name
abbrev pub small_at : List ℕ → Data → Option ℕ
small_at name d = option_and_then (λ n. if nat_lt n (2 ^ 32) then Some n else None) (whole_at name d)

-- the text under a name
abbrev pub text_at : List ℕ → Data → Option (List ℕ)
text_at name d = option_and_then as_str (get name d)

-- an answer
abbrev pub answer_told : Attempt → Data → Option Packet
answer_told a d =
    option_and_then (λ i. option_and_then (λ c. option_map (λ s. Answer a.asker a.attempt c i s)
    (whole_at (codes "start") d)) (option_and_then consumer_of (text_at (codes "name") d))) (whole_at (codes "incarnation") d)

-- a refusal with these numbers
abbrev pub refusal_told : Attempt → Data → Option Packet
refusal_told a e = option_and_then (λ c. option_map (λ n. Refuse a.asker a.attempt c n) (small_at (codes "err_code") e)) (small_at (codes "code") e)

-- an answer or a refusal, which has an error
abbrev pub reply_told : Attempt → Data → Option Packet
reply_told a d = option_map_or (refusal_told a) (get (codes "error") d) (answer_told a d)

-- the answer or the refusal of a message
abbrev pub tell_reply : Parcel → Option Packet
tell_reply m = option_and_then (λ a. option_and_then (reply_told a) (data_of m.payload)) (attempt_of answers (pieces 46 m.subject))

-- ---- requests for a consumer

-- a moment from 1970 on, below 2^64 nanoseconds
abbrev pub natural_of : Result ℤ Error → Option ℕ
natural_of (Ok (pos n)) = if nat_lt n (2 ^ 64) then Some n else None
natural_of (Ok (negsuc n)) = None
natural_of (Err e) = None

-- the moment that a text writes
abbrev pub moment_told : List ℕ → Option ℕ
moment_told text = natural_of (parse_timestamp text)

-- where the consumer starts
abbrev pub start_told : Data → Option Start
start_told d = option_map_or (λ n. Some (Seq n)) (whole_at (codes "opt_start_seq") d)
    (option_map (λ t. Time t) (option_and_then moment_told (text_at (codes "opt_start_time") d)))

-- a pattern
abbrev pub pattern_told : Data → Option (List ℕ)
pattern_told d = option_and_then (λ t. if is_pattern t then Some t else None) (as_str d)

-- patterns
abbrev pub patterns_told : Items → Option (List (List ℕ))
patterns_told no_items = Some []
patterns_told (item d ds) = option_and_then (λ p. option_map (λ ps. p ∷ ps) (patterns_told ds)) (pattern_told d)

-- the filters, if any
abbrev pub filters_told : Data → Option (List (List ℕ))
filters_told d = option_map_or (λ f. option_and_then patterns_told (as_array f)) (get (codes "filter_subjects") d) (Some [])

-- a request with this configuration
abbrev pub config_told : Attempt → Create → Data → Option Packet
config_told a c d = option_and_then (λ s. option_map (λ fs. Ask a.asker a.attempt c.origin c.stream s fs) (filters_told d)) (start_told d)

-- a request, which has a configuration
abbrev pub ask_told : Attempt → Create → Data → Option Packet
ask_told a c d = option_and_then (config_told a c) (get (codes "config") d)

-- the request of a message whose answer is awaited
abbrev pub tell_ask : Parcel → List ℕ → Option Packet
tell_ask m reply = option_and_then (λ a. option_and_then (λ c. option_and_then (ask_told a c) (data_of m.payload)) (create_of (pieces 46 m.subject))) (attempt_of answers (pieces 46 reply))

-- the packet that a message tells of
abbrev pub tell : Parcel → Option (List ℕ) → Option Packet
tell m None = tell_reply m
tell m (Some reply) = tell_ask m reply
