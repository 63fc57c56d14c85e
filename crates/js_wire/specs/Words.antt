-- The texts that name askers, attempts and consumers: words that are joined by dots.
use Rattle.std.specs.Prelude.{ℕ, List, [], ◌∷◌, ◌++◌, codes, decimal}
use Rattle.std.specs.List.{join_with_byte}
use Rattle.nats_text.specs.declared.message.Stamp.{Stamp}
use Rattle.js_wire.specs.declared.packet.AskerId.{AskerId}

-- words with a dot between each two
abbrev pub dotted : List (List ℕ) → List ℕ
dotted words = join_with_byte 46 words

-- the name of a consumer, `B<boot>C<count>`
abbrev pub consumer_name : Stamp → List ℕ
consumer_name stamp = 66 ∷ (decimal stamp.boot ++ 67 ∷ decimal stamp.count)

-- the word behind the subject on which an attempt is answered
abbrev pub answers : List ℕ
answers = codes "A"

-- the word behind the subject to which an attempt's deliveries go
abbrev pub deliveries : List ℕ
deliveries = codes "D"

-- the words of a subject of one attempt of an asker, which end in this word
abbrev pub attempt_words : AskerId → Stamp → List ℕ → List (List ℕ)
attempt_words asker attempt end =
    codes "$JS" ∷ codes "M" ∷ asker.node ∷ asker.stream ∷ decimal asker.index ∷ decimal attempt.boot ∷ decimal attempt.count ∷ end ∷ []

-- the subject of one attempt of an asker for answers or for deliveries
abbrev pub attempt_subject : AskerId → Stamp → List ℕ → List ℕ
attempt_subject asker attempt end = dotted (attempt_words asker attempt end)

-- the words of the subject on which a stream's node is asked for a consumer
abbrev pub create_words : List ℕ → List ℕ → List (List ℕ)
create_words origin stream = codes "$JS" ∷ origin ∷ codes "API" ∷ codes "CONSUMER" ∷ codes "CREATE" ∷ stream ∷ []

-- the words of the subject on which a flow request of a consumer is answered
abbrev pub flow_words : List ℕ → List ℕ → Stamp → ℕ → List (List ℕ)
flow_words origin stream consumer token = codes "$JS" ∷ codes "FC" ∷ origin ∷ stream ∷ consumer_name consumer ∷ decimal token ∷ []

-- the subject on which a flow request of a consumer is answered
abbrev pub flow_subject : List ℕ → List ℕ → Stamp → ℕ → List ℕ
flow_subject origin stream consumer token = dotted (flow_words origin stream consumer token)

-- the words of the subject on which a delivery is told as taken: the stream, the consumer, that it was
-- delivered once, the numbers in the stream and of the delivery, its moment, and how many are pending
abbrev pub delivery_words : List ℕ → Stamp → ℕ → ℕ → ℕ → ℕ → List (List ℕ)
delivery_words stream consumer seq number time pending =
    codes "$JS" ∷ codes "ACK" ∷ stream ∷ consumer_name consumer ∷ codes "1" ∷ decimal seq ∷ decimal number ∷ decimal time ∷ decimal pending ∷ []
