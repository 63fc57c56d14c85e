-- What the words of a message's texts say, word by word.
use Rattle.std.specs.Prelude.{ℕ, ◌^◌, List, [], ◌∷◌, ◌&&◌, ◌==◌, nat_lt, if◌then◌else◌, Option, None, Some, codes, decimal, option_and_then, option_map}
use Rattle.std.specs.Str.{bytes_eq}
use Rattle.std.specs.Str.Parse.{digits_value}
use Rattle.nats_text.specs.Pieces.{pieces}
use Rattle.nats_text.specs.Text.{is_name}
use Rattle.nats_text.specs.declared.message.Stamp.{Stamp}
use Rattle.js_wire.specs.declared.words.Attempt.{Attempt}
use Rattle.js_wire.specs.declared.words.Beater.{Beater}
use Rattle.js_wire.specs.declared.words.Create.{Create}
use Rattle.js_wire.specs.declared.words.Flow.{Flow}
use Rattle.js_wire.specs.declared.words.Receipt.{Receipt}

-- the number of 64 bits that a text writes, without leading zeros
abbrev pub numeral : List ℕ → Option ℕ
numeral t = if bytes_eq (decimal (digits_value 10 t)) t && nat_lt (digits_value 10 t) (2 ^ 64) then Some (digits_value 10 t) else None

-- the same of 32 bits
abbrev pub small_numeral : List ℕ → Option ℕ
small_numeral t = option_and_then (λ n. if nat_lt n (2 ^ 32) then Some n else None) (numeral t)

-- a boot and a count
abbrev pub stamp_from : List ℕ → List ℕ → Option Stamp
stamp_from boot count = option_and_then (λ b. option_map (λ c. record { boot = b; count = c }) (numeral count)) (numeral boot)

-- the boot and the count that stand on both sides of a `C`
abbrev pub stamp_of : List (List ℕ) → Option Stamp
stamp_of [] = None
stamp_of (boot ∷ []) = None
stamp_of (boot ∷ count ∷ []) = stamp_from boot count
stamp_of (boot ∷ count ∷ more ∷ others) = None

-- the consumer of a name `B<boot>C<count>`
abbrev pub consumer_of : List ℕ → Option Stamp
consumer_of [] = None
consumer_of (b ∷ bs) = if b == 66 then stamp_of (pieces 67 bs) else None

-- a name
abbrev pub name_of : List ℕ → Option (List ℕ)
name_of t = if is_name t then Some t else None

-- the asker and the attempt of a node, a stream, an index, a boot and a count
abbrev pub attempt_from : List ℕ → List ℕ → List ℕ → List ℕ → List ℕ → Option Attempt
attempt_from node stream index boot count =
    option_and_then (λ i. option_and_then (λ s. option_and_then (λ n. option_map
    (λ m. record { asker = record { node = n; stream = m; index = i }; attempt = s })
    (name_of stream)) (name_of node)) (stamp_from boot count)) (small_numeral index)

-- the same of the last four words of a subject, of which the last has to be this one
abbrev pub attempt_behind : List ℕ → List ℕ → List ℕ → List (List ℕ) → Option Attempt
attempt_behind end node stream (index ∷ boot ∷ count ∷ last ∷ []) = if bytes_eq last end then attempt_from node stream index boot count else None
attempt_behind end node stream words = None

-- the asker and the attempt of the words of a subject that ends in this word
abbrev pub attempt_of : List ℕ → List (List ℕ) → Option Attempt
attempt_of end (js ∷ m ∷ node ∷ stream ∷ numbers) = if bytes_eq js (codes "$JS") && bytes_eq m (codes "M") then attempt_behind end node stream numbers else None
attempt_of end words = None

-- the flow request of a node, a stream, a consumer and a token
abbrev pub flow_from : List ℕ → List ℕ → List ℕ → List ℕ → Option Flow
flow_from origin stream consumer token =
    option_and_then (λ c. option_and_then (λ t. option_and_then (λ o. option_map
    (λ s. record { origin = o; stream = s; consumer = c; token = t })
    (name_of stream)) (name_of origin)) (numeral token)) (consumer_of consumer)

-- the flow request of the words of a subject
abbrev pub flow_of : List (List ℕ) → Option Flow
flow_of (js ∷ fc ∷ origin ∷ stream ∷ consumer ∷ token ∷ []) =
    if bytes_eq js (codes "$JS") && bytes_eq fc (codes "FC") then flow_from origin stream consumer token else None
flow_of words = None

-- the receipt of a stream, a consumer and four numbers
abbrev pub receipt_from : List ℕ → List ℕ → List ℕ → List ℕ → List ℕ → List ℕ → Option Receipt
receipt_from stream consumer seq number time pending =
    option_and_then (λ c. option_and_then (λ q. option_and_then (λ n. option_and_then (λ t. option_and_then (λ p. option_map
    (λ s. record { stream = s; consumer = c; seq = q; number = n; time = t; pending = p })
    (name_of stream)) (numeral pending)) (numeral time)) (numeral number)) (numeral seq)) (consumer_of consumer)

-- the receipt of a stream, a consumer and the words of four numbers
abbrev pub receipt_behind : List ℕ → List ℕ → List (List ℕ) → Option Receipt
receipt_behind stream consumer (seq ∷ number ∷ time ∷ pending ∷ []) = receipt_from stream consumer seq number time pending
receipt_behind stream consumer words = None

-- the receipt of the words of a subject
abbrev pub receipt_of : List (List ℕ) → Option Receipt
receipt_of (js ∷ ack ∷ stream ∷ consumer ∷ once ∷ numbers) =
    if bytes_eq js (codes "$JS") && bytes_eq ack (codes "ACK") && bytes_eq once (codes "1") then receipt_behind stream consumer numbers else None
receipt_of words = None

-- the node, the stream and the consumer of the words of a heartbeat's header
abbrev pub beater_of : List (List ℕ) → Option Beater
beater_of (origin ∷ stream ∷ consumer ∷ []) =
    option_and_then (λ c. option_and_then (λ o. option_map (λ s. record { origin = o; stream = s; consumer = c }) (name_of stream)) (name_of origin)) (consumer_of consumer)
beater_of words = None

-- the node and the stream of the words of a subject on which a consumer is asked for
abbrev pub create_of : List (List ℕ) → Option Create
create_of (js ∷ origin ∷ api ∷ consumer ∷ create ∷ stream ∷ []) =
    if bytes_eq js (codes "$JS") && bytes_eq api (codes "API") && bytes_eq consumer (codes "CONSUMER") && bytes_eq create (codes "CREATE")
    then option_and_then (λ o. option_map (λ s. record { origin = o; stream = s }) (name_of stream)) (name_of origin) else None
create_of words = None
