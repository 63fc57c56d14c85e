-- The packets of a pump: deliveries of the rows that it sends, and flow requests.
use Rattle.std.proofs.Common.{◌≡◌, ℕ, zero, suc, ◌+◌, ◌-◌, Bool, true, false, cond, ◌||◌, eqb, List, [], ◌∷◌, ◌++◌, length, Some, refl, sym, ◌∙◌, subst, arith, inl, inr}
use Rattle.std.specs.Prelude.{slice_get, Contains}
use Rattle.std.proofs.lemmas.List.Elements.{Contains-append_cases}
use Rattle.nats_text.specs.declared.message.Message.{Message}
use Rattle.nats_text.specs.declared.message.Stamp.{Stamp}
use Rattle.js_wire.specs.declared.packet.AskerId.{AskerId}
use Rattle.js_wire.specs.declared.packet.Packet.{Packet}
use Rattle.js_wire.specs.declared.packet.Packet.TheVariants.{Ask, Answer, Refuse, Delivery, Beat, FlowAsk, FlowReply}
use Rattle.stream_fold.specs.declared.entry.Numbered.{Numbered}
use Rattle.stream_fold.specs.Histories.{History, put, kept, NumbersRise}
use Rattle.stream_fold.specs.Publishing.{is_next}
use Rattle.stream_fold.specs.RowLists.{EachRow}
use Rattle.stream_fold.proofs.KeptRows.{EachRow-filter, kept-put}
use Rattle.push_consumer.specs.Progress.{ConsumerState, Progress, is_spent, asks, delivered as more_delivered, requested, after_row, next_number, latest_token}
use Rattle.push_consumer.specs.Pumps.{pump_packets, pump_rows, rows_sent, packets_sent, packets_of, flow_request}
use Rattle.push_consumer.specs.Sends.{to_send}
use Rattle.run_soundness.specs.Below.{Laws}
use Rattle.run_soundness.proofs.Lists.{cons-cases, Contains-none}

-- ---- the deliveries of a pump

-- a packet of a consumer: the delivery of this row as this number, or a flow request
pub record IsSentBy (c : ConsumerState) (first : ℕ) (rows : List Numbered) (asker : AskerId) (attempt : Stamp) (stream : List ℕ) (consumer : Stamp) (number seq : ℕ) (message : Message) : Type 0 where
  pub asker_is : asker ≡ c.wanted.asker
  pub attempt_is : attempt ≡ c.wanted.attempt
  pub stream_is : stream ≡ c.stream
  pub name_is : consumer ≡ c.name
  pub place : ℕ
  pub number_is : number ≡ suc (first + place)
  pub row : slice_get rows place ≡ Some (record { seq = seq; message = message })

-- what the packets are of which one is meant
abbrev pub Said : ConsumerState → ℕ → List Numbered → Packet → Type 0
Said c first rows (Ask asker attempt origin stream start filters) = ⊥
Said c first rows (Answer asker attempt consumer incarnation start) = ⊥
Said c first rows (Refuse asker attempt code err_code) = ⊥
Said c first rows (Delivery asker attempt stream consumer number seq pending message) = IsSentBy c first rows asker attempt stream consumer number seq message
Said c first rows (Beat asker attempt origin stream consumer last_number last_seq stalled) = ⊥
Said c first rows (FlowAsk asker attempt origin stream consumer token) = Unit {0}
Said c first rows (FlowReply origin stream consumer token) = ⊥

-- the count of deliveries behind one more
count-row : (q : Progress) (row : Numbered) → (after_row q row).count ≡ q.count + 1
count-row q row = by (asks (more_delivered q row))
  where
    by : (b : Bool) → (cond b (requested (more_delivered q row)) (more_delivered q row)).count ≡ q.count + 1
    by true = refl
    by false = refl

request-said : (c : ConsumerState) (q : Progress) (first : ℕ) (rows : List Numbered) (p : Packet) → Contains (flow_request c q) p → Said c first rows p
request-said c q first rows p h = by (asks q) h
  where
    by : (b : Bool) → Contains (cond b (FlowAsk c.wanted.asker c.wanted.attempt c.wanted.origin c.stream c.name (latest_token q + 1) ∷ []) []) p → Said c first rows p
    by true g = elim (cons-cases (FlowAsk c.wanted.asker c.wanted.attempt c.wanted.origin c.stream c.name (latest_token q + 1)) [] p g) [ inl e ↦ subst (Said c first rows) e tt | inr none ↦ absurd (Contains-none p none) ]
    by false g = absurd (Contains-none p g)

later-said : (c : ConsumerState) (first : ℕ) (row : Numbered) (rows : List Numbered) (p : Packet) → Said c (first + 1) rows p → Said c first (row ∷ rows) p
later-said c first row rows (Ask asker attempt origin stream start filters) h = absurd h
later-said c first row rows (Answer asker attempt consumer incarnation start) h = absurd h
later-said c first row rows (Refuse asker attempt code err_code) h = absurd h
later-said c first row rows (Delivery asker attempt stream consumer number seq pending message) h = record {
  asker_is = h.asker_is;
  attempt_is = h.attempt_is;
  stream_is = h.stream_is;
  name_is = h.name_is;
  place = suc h.place;
  number_is = h.number_is ∙ (let z : suc (first + 1 + h.place) ≡ suc (first + suc h.place) = omega arith in z);
  row = h.row;
}
later-said c first row rows (Beat asker attempt origin stream consumer last_number last_seq stalled) h = absurd h
later-said c first row rows (FlowAsk asker attempt origin stream consumer token) h = tt
later-said c first row rows (FlowReply origin stream consumer token) h = absurd h

own-said : (c : ConsumerState) (q : Progress) (waiting : ℕ) (row : Numbered) (rows : List Numbered) (p : Packet) → Contains (packets_of c q waiting row) p → Said c q.count (row ∷ rows) p
own-said c q waiting row rows p h = elim (cons-cases (Delivery c.wanted.asker c.wanted.attempt c.stream c.name (q.count + 1) row.seq waiting row.message) (flow_request c (more_delivered q row)) p h) [
  | inl e ↦ subst (Said c q.count (row ∷ rows)) e (record { asker_is = refl; attempt_is = refl; stream_is = refl; name_is = refl; place = 0; number_is = omega arith; row = refl })
  | inr more ↦ request-said c (more_delivered q row) q.count (row ∷ rows) p more
]

said-step : (c : ConsumerState) (q : Progress) (b : Bool) (own rest : List Packet) (row : Numbered) (rows : List Numbered) (p : Packet) → (Contains own p → Said c q.count (row ∷ rows) p) → (Contains rest p → Said c (q.count + 1) rows p) →
    Contains (cond b [] (own ++ rest)) p → Said c q.count (cond b [] (row ∷ rows)) p
said-step c q true own rest row rows p f g h = absurd (Contains-none p h)
said-step c q false own rest row rows p f g h = elim (Contains-append_cases own rest p h) [ inl o ↦ f o | inr r ↦ later-said c q.count row rows p (g r) ]

-- each packet that a consumer sends is a delivery of one of the rows, or a flow request
sent-said : (c : ConsumerState) (budget : ℕ) (q : Progress) (rows : List Numbered) (p : Packet) → Contains (packets_sent c budget q rows) p → Said c q.count (rows_sent budget q rows) p
sent-said c budget q [] p h = absurd (Contains-none p h)
sent-said c budget q (row ∷ rows) p h =
    said-step c q (eqb budget 0 || is_spent q) (packets_of c q (length rows) row) (packets_sent c (budget - 1) (after_row q row) rows) row (rows_sent (budget - 1) (after_row q row) rows) p
    (own-said c q (length rows) row (rows_sent (budget - 1) (after_row q row) rows) p)
    (λ r. subst (λ n. Said c n (rows_sent (budget - 1) (after_row q row) rows) p) (count-row q row) (sent-said c (budget - 1) (after_row q row) rows p r)) h

pub pump-said : (c : ConsumerState) (rows : List Numbered) (budget : ℕ) (p : Packet) → Contains (pump_packets rows budget c) p → Said c c.progress.count (pump_rows rows budget c) p
pump-said c rows budget p h = by c.paused h
  where
    by : (b : Bool) → Contains (cond b [] (packets_sent c budget c.progress (to_send rows c))) p → Said c c.progress.count (cond b [] (rows_sent budget c.progress (to_send rows c))) p
    by true g = absurd (Contains-none p g)
    by false g = sent-said c budget c.progress (to_send rows c) p g

-- ---- the rows of a pump were put

each-step : (P : Numbered → Type 0) (b : Bool) (row : Numbered) (rows : List Numbered) → P row → EachRow P rows → EachRow P (cond b [] (row ∷ rows))
each-step P true row rows p h = tt
each-step P false row rows p h = (p, h)

each-sent : (P : Numbered → Type 0) (budget : ℕ) (q : Progress) (rows : List Numbered) → EachRow P rows → EachRow P (rows_sent budget q rows)
each-sent P budget q [] h = tt
each-sent P budget q (row ∷ rows) h = each-step P (eqb budget 0 || is_spent q) row (rows_sent (budget - 1) (after_row q row) rows) h.0 (each-sent P (budget - 1) (after_row q row) rows h.1)

each-get : (P : Numbered → Type 0) (rows : List Numbered) (i : ℕ) (row : Numbered) → EachRow P rows → slice_get rows i ≡ Some row → P row
each-get P [] i row h e = absurd (cc)
each-get P (r ∷ rows) zero row h e = (let same : r ≡ row = cc in subst P same h.0)
each-get P (r ∷ rows) (suc i) row h e = each-get P rows i row h.1 e

-- the rows that a pump sends were put as they are sent
pub pump-put : Laws → (h : History) (c : ConsumerState) (budget i : ℕ) (row : Numbered) → NumbersRise h.entries → slice_get (pump_rows (kept h) budget c) i ≡ Some row → put row.seq h.entries ≡ Some row.message
pump-put laws h c budget i row rise e = each-get P (pump_rows (kept h) budget c) i row (by c.paused) e
  where
    P : Numbered → Type 0
    P r = put r.seq h.entries ≡ Some r.message

    all : EachRow P (to_send (kept h) c)
    all =
        subst (EachRow P) (sym (laws.wanted (next_number c.wanted.start c.progress) c.wanted.filters (kept h) (laws.kept_rise h rise)))
        (EachRow-filter P (is_next (next_number c.wanted.start c.progress) c.wanted.filters) (kept h) (kept-put h rise))

    by : (b : Bool) → EachRow P (cond b [] (rows_sent budget c.progress (to_send (kept h) c)))
    by true = tt
    by false = each-sent P budget c.progress (to_send (kept h) c) all
