-- The messages of packets without JSON are read as these packets.
use Rattle.std.proofs.Common.{◌≡◌, ℕ, ◌^◌, ◌<◌, List, [], ◌∷◌, true, ◌&&◌, not, ◌==◌, cond, Option, None, Some, refl, ap, ◌∙◌, arith}
use Rattle.std.specs.Prelude.{decimal, codes, option_and_then, option_map}
use Rattle.std.specs.List.{list_all}
use Rattle.std.specs.Option.{option_map_or}
use Rattle.std.specs.Str.{bytes_eq}
use Rattle.std.proofs.lemmas.Bool.{and_parts, and_from, eq-eqb, ne_eqb}
use Rattle.nats_text.specs.Pieces.{pieces}
use Rattle.nats_text.specs.Text.{is_name, is_name_byte, is_subject}
use Rattle.nats_text.specs.declared.message.Message.{Message}
use Rattle.nats_text.specs.declared.message.Stamp.{Stamp}
use Rattle.js_wire.specs.declared.beats.Beats.{Beats}
use Rattle.js_wire.specs.declared.packet.AskerId.{AskerId}
use Rattle.js_wire.specs.declared.packet.Packet.TheVariants.{Delivery, Beat, FlowAsk, FlowReply}
use Rattle.js_wire.specs.declared.words.Attempt.{Attempt}
use Rattle.js_wire.specs.declared.words.Beater.{Beater}
use Rattle.js_wire.specs.declared.words.Flow.{Flow}
use Rattle.js_wire.specs.Legal.{IsPacket, IsStamp, IsAsker, IsConsumer, IsToken}
use Rattle.js_wire.specs.Messages.{message_of, consumer_value, stalled_pairs, beat_pairs, delivery_headers}
use Rattle.js_wire.specs.Reading.{numeral, attempt_of, flow_of, beater_of}
use Rattle.js_wire.specs.Received.{read_flow_reply, read_flow_ask, message_behind, read_delivery, token_for, stalled_of, beats_of, read_beat, read_request, read_plain}
use Rattle.js_wire.specs.Words.{dotted, consumer_name, deliveries, attempt_words, attempt_subject, flow_words, flow_subject, delivery_words}
use Rattle.js_wire.proofs.Bytes.{not_false, name_byte, name_parts, consumer_is_name}
use Rattle.js_wire.proofs.Dotted.{dotted_pieces}
use Rattle.js_wire.proofs.Legality.{attempt_names, flow_names, delivery_names}
use Rattle.js_wire.proofs.Numerals.{same_bytes, numeral_decimal}
use Rattle.js_wire.proofs.Pieces.{free_of, pieces_join}
use Rattle.js_wire.proofs.Readings.{attempt_read, flow_read, receipt_read, beater_read}

-- ---- the words of what is written

pub attempt_pieces : (asker : AskerId) (attempt : Stamp) (end : List ℕ) → IsAsker asker → IsStamp attempt → is_name end ≡ true → pieces 46 (attempt_subject asker attempt end) ≡ attempt_words asker attempt end
attempt_pieces asker attempt end a s e =
    let wide : asker.index < 2 ^ 64 = omega (arith, a.index) in
    dotted_pieces (codes "$JS") (codes "M" ∷ asker.node ∷ asker.stream ∷ decimal asker.index ∷ decimal attempt.boot ∷ decimal attempt.count ∷ end ∷ [])
    (attempt_names asker attempt end a.node a.stream wide s.boot s.count e)

pub flow_pieces : (origin stream : List ℕ) (consumer : Stamp) (token : ℕ) → IsConsumer origin stream consumer → token < 2 ^ 64 → pieces 46 (flow_subject origin stream consumer token) ≡ flow_words origin stream consumer token
flow_pieces origin stream consumer token c t =
    dotted_pieces (codes "$JS") (codes "FC" ∷ origin ∷ stream ∷ consumer_name consumer ∷ decimal token ∷ [])
    (flow_names origin stream consumer token c.origin_is c.stream_is c.consumer_is.boot c.consumer_is.count t)

pub delivery_pieces : (stream : List ℕ) (consumer : Stamp) (seq number time pending : ℕ) → is_name stream ≡ true → IsStamp consumer → seq < 2 ^ 64 → number < 2 ^ 64 → time < 2 ^ 64 → pending < 2 ^ 64
    → pieces 46 (dotted (delivery_words stream consumer seq number time pending)) ≡ delivery_words stream consumer seq number time pending
delivery_pieces stream consumer seq number time pending s c q n t p =
    dotted_pieces (codes "$JS") (codes "ACK" ∷ stream ∷ consumer_name consumer ∷ codes "1" ∷ decimal seq ∷ decimal number ∷ decimal time ∷ decimal pending ∷ [])
    (delivery_names stream consumer seq number time pending s c.boot c.count q n t p)

deliveries_read : (asker : AskerId) (attempt : Stamp) → IsAsker asker → IsStamp attempt → attempt_of deliveries (pieces 46 (attempt_subject asker attempt deliveries)) ≡ Some (record { asker = asker; attempt = attempt })
deliveries_read asker attempt a s = ap (attempt_of deliveries) (attempt_pieces asker attempt deliveries a s refl) ∙ attempt_read asker attempt deliveries a s

flow_told : (origin stream : List ℕ) (consumer : Stamp) (token : ℕ) → IsConsumer origin stream consumer → token < 2 ^ 64
    → flow_of (pieces 46 (flow_subject origin stream consumer token)) ≡ Some (record { origin = origin; stream = stream; consumer = consumer; token = token })
flow_told origin stream consumer token c t = ap flow_of (flow_pieces origin stream consumer token c t) ∙ flow_read origin stream consumer token c.origin_is c.stream_is c.consumer_is t

-- ---- flow requests and their answers

pub flow_reply_read : (origin stream : List ℕ) (consumer : Stamp) (token : ℕ) → IsPacket (FlowReply origin stream consumer token) → read_plain (message_of (FlowReply origin stream consumer token)) None ≡ Some (FlowReply origin stream consumer token)
flow_reply_read origin stream consumer token h =
    let m = message_of (FlowReply origin stream consumer token) in
    ap (λ o. option_map_or (read_flow_reply m) o (read_beat m)) (flow_told origin stream consumer token h.0 h.1)

pub flow_ask_read : (asker : AskerId) (attempt : Stamp) (origin stream : List ℕ) (consumer : Stamp) (token : ℕ) → IsPacket (FlowAsk asker attempt origin stream consumer token)
    → read_plain (message_of (FlowAsk asker attempt origin stream consumer token)) (Some (flow_subject origin stream consumer token)) ≡ Some (FlowAsk asker attempt origin stream consumer token)
flow_ask_read asker attempt origin stream consumer token h =
    let m = message_of (FlowAsk asker attempt origin stream consumer token) in
    let words = flow_pieces origin stream consumer token h.1 h.2 in
    ap (read_request m) words
    ∙ (ap (λ o. option_map_or (read_flow_ask m) o None) (flow_read origin stream consumer token h.1.origin_is h.1.stream_is h.1.consumer_is h.2)
    ∙ ap (option_map (λ (a : Attempt). FlowAsk a.asker a.attempt origin stream consumer token)) (deliveries_read asker attempt h.0.0 h.0.1))

-- ---- deliveries

message_told : (m : Message) → is_subject m.subject ≡ true → message_behind m.time m.headers.status m.payload (delivery_headers m).pairs ≡ Some m
message_told m h = ap (λ b. cond b (Some m) None) h

pub delivery_read : (asker : AskerId) (attempt : Stamp) (stream : List ℕ) (consumer : Stamp) (number seq pending : ℕ) (message : Message) → IsPacket (Delivery asker attempt stream consumer number seq pending message)
    → read_plain (message_of (Delivery asker attempt stream consumer number seq pending message)) (Some (dotted (delivery_words stream consumer seq number message.time pending))) ≡ Some (Delivery asker attempt stream consumer number seq pending message)
delivery_read asker attempt stream consumer number seq pending message h =
    let m = message_of (Delivery asker attempt stream consumer number seq pending message) in
    let d = h.1 in
    let words = delivery_pieces stream consumer seq number message.time pending d.stream_is d.consumer_is d.seq_is d.number_is d.message_is.time d.pending_is in
    ap (read_request m) words
    ∙ (ap (λ o. option_map_or (read_delivery m) o (option_map_or (read_flow_ask m) (flow_of (delivery_words stream consumer seq number message.time pending)) None)) (receipt_read stream consumer seq number message.time pending d.stream_is d.consumer_is d.seq_is d.number_is d.message_is.time d.pending_is)
    ∙ (ap (option_and_then (λ (a : Attempt). option_map (λ (x : Message). Delivery a.asker a.attempt stream consumer number seq pending x) (message_behind message.time m.headers.status m.payload m.headers.pairs))) (deliveries_read asker attempt h.0.0 h.0.1)
    ∙ ap (option_map (λ (x : Message). Delivery asker attempt stream consumer number seq pending x)) (message_told message d.message_is.subject)))

-- ---- heartbeats

space_free : (w : List ℕ) → list_all is_name_byte w ≡ true → free_of 32 w ≡ true
space_free [] h = refl
space_free (b ∷ bs) h =
    let p = and_parts (is_name_byte b) (list_all is_name_byte bs) h in
    let low : 32 < b = (name_byte b p.0).low in
    and_from (not (b == 32)) (free_of 32 bs) (not_false (b == 32) (ne_eqb b 32 (λ e. omega (arith, low, e)))) (space_free bs p.1)

value_pieces : (origin stream : List ℕ) (consumer : Stamp) → IsConsumer origin stream consumer → pieces 32 (consumer_value origin stream consumer) ≡ origin ∷ stream ∷ consumer_name consumer ∷ []
value_pieces origin stream consumer c =
    let one = space_free origin (name_parts origin c.origin_is).all in
    let two = space_free stream (name_parts stream c.stream_is).all in
    let three = space_free (consumer_name consumer) (name_parts (consumer_name consumer) (consumer_is_name consumer c.consumer_is.boot c.consumer_is.count)).all in
    pieces_join 32 origin (stream ∷ consumer_name consumer ∷ [])
    (and_from (free_of 32 origin) (list_all (free_of 32) (stream ∷ consumer_name consumer ∷ [])) one (and_from (free_of 32 stream) (list_all (free_of 32) (consumer_name consumer ∷ [])) two (and_from (free_of 32 (consumer_name consumer)) true three refl)))

abbrev beats_by : List ℕ → List ℕ → Stamp → Beater
beats_by origin stream consumer = record { origin = origin; stream = stream; consumer = consumer }

same_consumer : (o s : List ℕ) (b n t : ℕ) → cond (bytes_eq o o && bytes_eq s s && b == b && n == n) (Some t) None ≡ Some t
same_consumer o s b n t =
    let x : (b == b) ≡ true = eq-eqb b b refl in
    let y : (n == n) ≡ true = eq-eqb n n refl in
    rw (same_bytes o, same_bytes s, x, y) refl

stalled_told : (origin stream : List ℕ) (consumer : Stamp) (t : Option ℕ) → IsConsumer origin stream consumer → IsToken t → stalled_of (beats_by origin stream consumer) (stalled_pairs origin stream consumer t) ≡ Some t
stalled_told origin stream consumer None c h = refl
stalled_told origin stream consumer (Some t) c h =
    let b = beats_by origin stream consumer in
    ap (λ o. option_and_then (λ (f : Flow). option_map (λ (x : ℕ). Some x) (token_for b f)) o) (flow_told origin stream consumer t c h)
    ∙ ap (option_map (λ (x : ℕ). Some x)) (same_consumer origin stream consumer.boot consumer.count t)

beats_told : (origin stream : List ℕ) (consumer : Stamp) (last_number last_seq : ℕ) (t : Option ℕ) → IsConsumer origin stream consumer → last_number < 2 ^ 64 → last_seq < 2 ^ 64 → IsToken t
    → beats_of (beat_pairs origin stream consumer last_number last_seq t) ≡ Some (record { beater = beats_by origin stream consumer; last_number = last_number; last_seq = last_seq; stalled = t })
beats_told origin stream consumer number seq t c n s h =
    let b = beats_by origin stream consumer in
    let others = stalled_pairs origin stream consumer t in
    let told = ap beater_of (value_pieces origin stream consumer c) ∙ beater_read origin stream consumer c.origin_is c.stream_is c.consumer_is in
    ap (λ o. option_and_then (λ (b : Beater). option_and_then (λ (n : ℕ). option_and_then (λ (q : ℕ). option_map (λ (t : Option ℕ). record { beater = b; last_number = n; last_seq = q; stalled = t }) (stalled_of b others)) (numeral (decimal seq))) (numeral (decimal number))) o) told
    ∙ (ap (λ o. option_and_then (λ (n : ℕ). option_and_then (λ (q : ℕ). option_map (λ (t : Option ℕ). record { beater = b; last_number = n; last_seq = q; stalled = t }) (stalled_of b others)) (numeral (decimal seq))) o) (numeral_decimal number n)
    ∙ (ap (λ o. option_and_then (λ (q : ℕ). option_map (λ (t : Option ℕ). record { beater = b; last_number = number; last_seq = q; stalled = t }) (stalled_of b others)) o) (numeral_decimal seq s)
    ∙ ap (λ o. option_map (λ (t : Option ℕ). record { beater = b; last_number = number; last_seq = seq; stalled = t }) o) (stalled_told origin stream consumer t c h)))

pub beat_read : (asker : AskerId) (attempt : Stamp) (origin stream : List ℕ) (consumer : Stamp) (last_number last_seq : ℕ) (stalled : Option ℕ) → IsPacket (Beat asker attempt origin stream consumer last_number last_seq stalled)
    → read_plain (message_of (Beat asker attempt origin stream consumer last_number last_seq stalled)) None ≡ Some (Beat asker attempt origin stream consumer last_number last_seq stalled)
beat_read asker attempt origin stream consumer number seq stalled h =
    let m = message_of (Beat asker attempt origin stream consumer number seq stalled) in
    let words = attempt_pieces asker attempt deliveries h.0.0 h.0.1 refl in
    ap (λ ws. option_map_or (read_flow_reply m) (flow_of ws) (read_beat m)) words
    ∙ (ap (option_and_then (λ (a : Attempt). option_map (λ (b : Beats). Beat a.asker a.attempt b.beater.origin b.beater.stream b.beater.consumer b.last_number b.last_seq b.stalled) (beats_of m.headers.pairs))) (deliveries_read asker attempt h.0.0 h.0.1)
    ∙ ap (option_map (λ (b : Beats). Beat asker attempt b.beater.origin b.beater.stream b.beater.consumer b.last_number b.last_seq b.stalled)) (beats_told origin stream consumer number seq stalled h.1 h.2 h.3 h.4))
