-- The messages of packets without JSON are read as these packets, and no others are.
use Rattle.std.proofs.Common.{◌≡◌, ℕ, List, [], ◌∷◌, length, true, ◌&&◌, ◌==◌, Option, None, Some, refl, sym, ap, ◌∙◌, subst, arith}
use Rattle.std.specs.Prelude.{decimal, codes, option_and_then, option_map, is_none}
use Rattle.std.specs.List.{join_with_byte}
use Rattle.std.specs.Str.{bytes_eq}
use Rattle.std.proofs.lemmas.Bool.{false≢true, and_parts, eqb-true}
use Rattle.std.proofs.lemmas.Option.{none-some, same_Some}
use Rattle.nats_text.specs.Headers.{HeaderBlock, no_headers, has_none}
use Rattle.nats_text.specs.Pieces.{pieces}
use Rattle.nats_text.specs.SameHeaders.{same_bytes_decides}
use Rattle.nats_text.specs.Text.{is_subject}
use Rattle.nats_text.specs.declared.headers.Pair.{Pair}
use Rattle.nats_text.specs.declared.message.Message.{Message}
use Rattle.nats_text.specs.declared.message.Parcel.{Parcel}
use Rattle.nats_text.specs.declared.message.Stamp.{Stamp}
use Rattle.js_wire.specs.declared.beats.Beats.{Beats}
use Rattle.js_wire.specs.declared.packet.Packet.{Packet}
use Rattle.js_wire.specs.declared.packet.Packet.TheVariants.{Delivery, Beat, FlowAsk, FlowReply}
use Rattle.js_wire.specs.declared.words.Attempt.{Attempt}
use Rattle.js_wire.specs.declared.words.Beater.{Beater}
use Rattle.js_wire.specs.declared.words.Flow.{Flow}
use Rattle.js_wire.specs.declared.words.Receipt.{Receipt}
use Rattle.js_wire.specs.Messages.{message_of, pair, idle_status, flow_status, consumer_value, stalled_pairs, beat_pairs, delivery_headers}
use Rattle.js_wire.specs.Reading.{numeral, attempt_of, flow_of, receipt_of, beater_of}
use Rattle.js_wire.specs.Received.{is_empty, has_status, read_flow_reply, read_flow_ask, message_behind, read_delivery, token_for, stalled_of, are_beat_names, beats_from, beats_of, read_beat}
use Rattle.js_wire.specs.Words.{dotted, consumer_name, deliveries, attempt_words, flow_words, flow_subject, delivery_words}
use Rattle.js_wire.proofs.Numerals.{equal_bytes, chosen}
use Rattle.js_wire.proofs.Pieces.{join_pieces}
use Rattle.js_wire.proofs.Readings.{gave, mapped, tested, number_is, attempt_words_are, flow_words_are, receipt_words_are, beater_words_are}

-- ---- parts of messages

parcels : (a b : Parcel) → a.subject ≡ b.subject → a.reply ≡ b.reply → a.headers ≡ b.headers → a.payload ≡ b.payload → a ≡ b
parcels a b s r h p = λ i. record { subject = s i; reply = r i; headers = h i; payload = p i }

blocks : (a b : HeaderBlock) → a.status ≡ b.status → a.pairs ≡ b.pairs → a ≡ b
blocks a b s p = λ i. record { status = s i; pairs = p i }

pairs_from : (p : Pair) (name value : List ℕ) → p.name ≡ name → p.value ≡ value → p ≡ pair name value
pairs_from p name value n v = λ i. record { name = n i; value = v i }

empty_is : (bs : List ℕ) → is_empty bs ≡ true → bs ≡ []
empty_is [] h = refl
empty_is (b ∷ bs) h = let e : length (b ∷ bs) ≡ 0 = eqb-true (length (b ∷ bs)) 0 h in absurd (omega (arith, e))

no_pairs : (ps : List Pair) → (length ps == 0) ≡ true → ps ≡ []
no_pairs [] h = refl
no_pairs (p ∷ ps) h = let e : length (p ∷ ps) ≡ 0 = eqb-true (length (p ∷ ps)) 0 h in absurd (omega (arith, e))

no_status : (s : Option (List ℕ)) → is_none s ≡ true → s ≡ None
no_status None h = refl
no_status (Some x) h = absurd (false≢true h)

none_are : (h : HeaderBlock) → has_none h ≡ true → h ≡ no_headers
none_are h e =
    let p = and_parts (is_none h.status) (length h.pairs == 0) e in
    blocks h no_headers (no_status h.status p.0) (no_pairs h.pairs p.1)

status_is : (s : List ℕ) (h : HeaderBlock) → has_status s h ≡ true → h.status ≡ Some s
status_is s h e = (same_bytes_decides h.status (Some s)).0 e

-- a text whose words are known
text_is : (t : List ℕ) (ws : List (List ℕ)) → pieces 46 t ≡ ws → t ≡ dotted ws
text_is t ws e = sym (join_pieces 46 t) ∙ ap (join_with_byte 46) e

-- ---- what was read is what is written

pub flow_reply_is : (m : Parcel) (f : Flow) (q : Packet) → m.reply ≡ None → flow_of (pieces 46 m.subject) ≡ Some f → read_flow_reply m f ≡ Some q → message_of q ≡ m
flow_reply_is m f q alone e h =
    let k = chosen (has_none m.headers && is_empty m.payload) (FlowReply f.origin f.stream f.consumer f.token) q h in
    let p = and_parts (has_none m.headers) (is_empty m.payload) k.0 in
    let subject = text_is m.subject (flow_words f.origin f.stream f.consumer f.token) (flow_words_are (pieces 46 m.subject) f e) in
    ap message_of (sym k.1) ∙ parcels (message_of (FlowReply f.origin f.stream f.consumer f.token)) m (sym subject) (sym alone) (sym (none_are m.headers p.0)) (sym (empty_is m.payload p.1))

pub flow_ask_is : (m : Parcel) (r : List ℕ) (f : Flow) (q : Packet) → m.reply ≡ Some r → flow_of (pieces 46 r) ≡ Some f → read_flow_ask m f ≡ Some q → message_of q ≡ m
flow_ask_is m r f q asked e h =
    let k = tested (has_status flow_status m.headers && length m.headers.pairs == 0 && is_empty m.payload) (option_map (λ (a : Attempt). FlowAsk a.asker a.attempt f.origin f.stream f.consumer f.token) (attempt_of deliveries (pieces 46 m.subject))) q h in
    let p = and_parts (has_status flow_status m.headers && length m.headers.pairs == 0) (is_empty m.payload) k.0 in
    let s = and_parts (has_status flow_status m.headers) (length m.headers.pairs == 0) p.0 in
    let g = mapped (λ (a : Attempt). FlowAsk a.asker a.attempt f.origin f.stream f.consumer f.token) (attempt_of deliveries (pieces 46 m.subject)) q k.1 in
    let a = g.inner in
    let subject = text_is m.subject (attempt_words a.asker a.attempt deliveries) (attempt_words_are deliveries (pieces 46 m.subject) a g.was) in
    let reply = text_is r (flow_words f.origin f.stream f.consumer f.token) (flow_words_are (pieces 46 r) f e) in
    let packet = FlowAsk a.asker a.attempt f.origin f.stream f.consumer f.token in
    ap message_of (sym g.gives) ∙ parcels (message_of packet) m (sym subject) (sym (asked ∙ ap (λ t. Some t) reply))
    (blocks (message_of packet).headers m.headers (sym (status_is flow_status m.headers s.0)) (sym (no_pairs m.headers.pairs s.1))) (sym (empty_is m.payload p.1))

record IsMessageOf (time : ℕ) (status : Option (List ℕ)) (payload : List ℕ) (pairs : List Pair) (m : Message) : Type 0 where
  time_is : time ≡ m.time
  status_same : status ≡ m.headers.status
  payload_is : payload ≡ m.payload
  pairs_are : pairs ≡ pair (codes "Nats-Subject") m.subject ∷ m.headers.pairs

message_is : (time : ℕ) (status : Option (List ℕ)) (payload : List ℕ) (pairs : List Pair) (m : Message) → message_behind time status payload pairs ≡ Some m → IsMessageOf time status payload pairs m
message_is time status payload [] m h = absurd (none-some m h)
message_is time status payload (first ∷ others) m h =
    let k = chosen (bytes_eq first.name (codes "Nats-Subject") && is_subject first.value) (record { subject = first.value; headers = record { status = status; pairs = others }; payload = payload; time = time }) m h in
    let p = and_parts (bytes_eq first.name (codes "Nats-Subject")) (is_subject first.value) k.0 in
    let named = pairs_from first (codes "Nats-Subject") m.subject (equal_bytes first.name (codes "Nats-Subject") p.0) (ap (λ (x : Message). x.subject) k.1) in
    record {
      time_is = ap (λ (x : Message). x.time) k.1;
      status_same = ap (λ (x : Message). x.headers.status) k.1;
      payload_is = ap (λ (x : Message). x.payload) k.1;
      pairs_are = ap (λ x. x ∷ others) named ∙ ap (λ (x : Message). pair (codes "Nats-Subject") m.subject ∷ x.headers.pairs) k.1;
    }

pub delivery_is : (m : Parcel) (r : List ℕ) (w : Receipt) (q : Packet) → m.reply ≡ Some r → receipt_of (pieces 46 r) ≡ Some w → read_delivery m w ≡ Some q → message_of q ≡ m
delivery_is m r w q asked e h =
    let f = λ (a : Attempt). option_map (λ (message : Message). Delivery a.asker a.attempt w.stream w.consumer w.number w.seq w.pending message) (message_behind w.time m.headers.status m.payload m.headers.pairs) in
    let g = gave f (attempt_of deliveries (pieces 46 m.subject)) q h in
    let a = g.inner in
    let k = mapped (λ (message : Message). Delivery a.asker a.attempt w.stream w.consumer w.number w.seq w.pending message) (message_behind w.time m.headers.status m.payload m.headers.pairs) q g.gives in
    let message = k.inner in
    let i = message_is w.time m.headers.status m.payload m.headers.pairs message k.was in
    let subject = text_is m.subject (attempt_words a.asker a.attempt deliveries) (attempt_words_are deliveries (pieces 46 m.subject) a g.was) in
    let reply = text_is r (delivery_words w.stream w.consumer w.seq w.number w.time w.pending) (receipt_words_are (pieces 46 r) w e) in
    let timed : dotted (delivery_words w.stream w.consumer w.seq w.number w.time w.pending) ≡ dotted (delivery_words w.stream w.consumer w.seq w.number message.time w.pending) = ap (λ t. dotted (delivery_words w.stream w.consumer w.seq w.number t w.pending)) i.time_is in
    let packet = Delivery a.asker a.attempt w.stream w.consumer w.number w.seq w.pending message in
    ap message_of (sym k.gives) ∙ parcels (message_of packet) m (sym subject) (sym (asked ∙ ap (λ t. Some t) (reply ∙ timed)))
    (blocks (delivery_headers message) m.headers (sym i.status_same) (sym i.pairs_are)) (sym i.payload_is)

-- ---- heartbeats

stamps : (a b : Stamp) → a.boot ≡ b.boot → a.count ≡ b.count → a ≡ b
stamps a b x y = λ i. record { boot = x i; count = y i }

token_is : (b : Beater) (f : Flow) (t : ℕ) → token_for b f ≡ Some t → flow_subject f.origin f.stream f.consumer f.token ≡ flow_subject b.origin b.stream b.consumer t
token_is b f t h =
    let k = chosen (bytes_eq f.origin b.origin && bytes_eq f.stream b.stream && f.consumer.boot == b.consumer.boot && f.consumer.count == b.consumer.count) f.token t h in
    let p = and_parts (bytes_eq f.origin b.origin && bytes_eq f.stream b.stream && f.consumer.boot == b.consumer.boot) (f.consumer.count == b.consumer.count) k.0 in
    let q = and_parts (bytes_eq f.origin b.origin && bytes_eq f.stream b.stream) (f.consumer.boot == b.consumer.boot) p.0 in
    let s = and_parts (bytes_eq f.origin b.origin) (bytes_eq f.stream b.stream) q.0 in
    let consumer : f.consumer ≡ b.consumer = stamps f.consumer b.consumer (eqb-true f.consumer.boot b.consumer.boot q.1) (eqb-true f.consumer.count b.consumer.count p.1) in
    λ i. flow_subject (equal_bytes f.origin b.origin s.0 i) (equal_bytes f.stream b.stream s.1 i) (consumer i) (k.1 i)

stalled_is : (b : Beater) (ps : List Pair) (t : Option ℕ) → stalled_of b ps ≡ Some t → ps ≡ stalled_pairs b.origin b.stream b.consumer t
stalled_is b [] t h = subst (λ (o : Option ℕ). [] ≡ stalled_pairs b.origin b.stream b.consumer o) (same_Some None t h) refl
stalled_is b (p ∷ []) t h =
    let k = tested (bytes_eq p.name (codes "Nats-Consumer-Stalled")) (option_and_then (λ (f : Flow). option_map (λ (x : ℕ). Some x) (token_for b f)) (flow_of (pieces 46 p.value))) t h in
    let g = gave (λ (f : Flow). option_map (λ (x : ℕ). Some x) (token_for b f)) (flow_of (pieces 46 p.value)) t k.1 in
    let f = g.inner in
    let n = mapped (λ (x : ℕ). Some x) (token_for b f) t g.gives in
    let value = text_is p.value (flow_words f.origin f.stream f.consumer f.token) (flow_words_are (pieces 46 p.value) f g.was) ∙ token_is b f n.inner n.was in
    let here : p ≡ pair (codes "Nats-Consumer-Stalled") (flow_subject b.origin b.stream b.consumer n.inner) = pairs_from p (codes "Nats-Consumer-Stalled") (flow_subject b.origin b.stream b.consumer n.inner) (equal_bytes p.name (codes "Nats-Consumer-Stalled") k.0) value in
    ap (λ x. x ∷ []) here ∙ ap (stalled_pairs b.origin b.stream b.consumer) n.gives
stalled_is b (p ∷ q ∷ others) t h = absurd (none-some t h)

-- a value whose words are known
value_is : (t : List ℕ) (b : Beater) → pieces 32 t ≡ b.origin ∷ b.stream ∷ consumer_name b.consumer ∷ [] → t ≡ consumer_value b.origin b.stream b.consumer
value_is t b e = sym (join_pieces 32 t) ∙ ap (join_with_byte 32) e

beats_are : (ps : List Pair) (b : Beats) → beats_of ps ≡ Some b → ps ≡ beat_pairs b.beater.origin b.beater.stream b.beater.consumer b.last_number b.last_seq b.stalled
beats_are [] b h = absurd (none-some b h)
beats_are (x ∷ []) b h = absurd (none-some b h)
beats_are (x ∷ y ∷ []) b h = absurd (none-some b h)
beats_are (first ∷ second ∷ third ∷ others) b h =
    let k = tested (are_beat_names first second third) (beats_from first.value second.value third.value others) b h in
    let p = and_parts (bytes_eq first.name (codes "Leafd-Consumer") && bytes_eq second.name (codes "Nats-Last-Consumer")) (bytes_eq third.name (codes "Nats-Last-Stream")) k.0 in
    let q = and_parts (bytes_eq first.name (codes "Leafd-Consumer")) (bytes_eq second.name (codes "Nats-Last-Consumer")) p.0 in
    let g = gave (λ (b : Beater). option_and_then (λ (n : ℕ). option_and_then (λ (s : ℕ). option_map (λ (t : Option ℕ). record { beater = b; last_number = n; last_seq = s; stalled = t }) (stalled_of b others)) (numeral third.value)) (numeral second.value)) (beater_of (pieces 32 first.value)) b k.1 in
    let w = g.inner in
    let i = gave (λ (n : ℕ). option_and_then (λ (s : ℕ). option_map (λ (t : Option ℕ). record { beater = w; last_number = n; last_seq = s; stalled = t }) (stalled_of w others)) (numeral third.value)) (numeral second.value) b g.gives in
    let n = i.inner in
    let j = gave (λ (s : ℕ). option_map (λ (t : Option ℕ). record { beater = w; last_number = n; last_seq = s; stalled = t }) (stalled_of w others)) (numeral third.value) b i.gives in
    let s = j.inner in
    let l = mapped (λ (t : Option ℕ). record { beater = w; last_number = n; last_seq = s; stalled = t }) (stalled_of w others) b j.gives in
    let one = pairs_from first (codes "Leafd-Consumer") (consumer_value w.origin w.stream w.consumer) (equal_bytes first.name (codes "Leafd-Consumer") q.0) (value_is first.value w (beater_words_are (pieces 32 first.value) w g.was)) in
    let two = pairs_from second (codes "Nats-Last-Consumer") (decimal n) (equal_bytes second.name (codes "Nats-Last-Consumer") q.1) (number_is second.value n i.was) in
    let three = pairs_from third (codes "Nats-Last-Stream") (decimal s) (equal_bytes third.name (codes "Nats-Last-Stream") p.1) (number_is third.value s j.was) in
    let four = stalled_is w others l.inner l.was in
    (λ x. one x ∷ two x ∷ three x ∷ four x) ∙ ap (λ (r : Beats). beat_pairs r.beater.origin r.beater.stream r.beater.consumer r.last_number r.last_seq r.stalled) l.gives

pub beat_is : (m : Parcel) (q : Packet) → m.reply ≡ None → read_beat m ≡ Some q → message_of q ≡ m
beat_is m q alone h =
    let f = λ (a : Attempt). option_map (λ (b : Beats). Beat a.asker a.attempt b.beater.origin b.beater.stream b.beater.consumer b.last_number b.last_seq b.stalled) (beats_of m.headers.pairs) in
    let k = tested (has_status idle_status m.headers && is_empty m.payload) (option_and_then f (attempt_of deliveries (pieces 46 m.subject))) q h in
    let p = and_parts (has_status idle_status m.headers) (is_empty m.payload) k.0 in
    let g = gave f (attempt_of deliveries (pieces 46 m.subject)) q k.1 in
    let a = g.inner in
    let i = mapped (λ (b : Beats). Beat a.asker a.attempt b.beater.origin b.beater.stream b.beater.consumer b.last_number b.last_seq b.stalled) (beats_of m.headers.pairs) q g.gives in
    let b = i.inner in
    let subject = text_is m.subject (attempt_words a.asker a.attempt deliveries) (attempt_words_are deliveries (pieces 46 m.subject) a g.was) in
    let packet = Beat a.asker a.attempt b.beater.origin b.beater.stream b.beater.consumer b.last_number b.last_seq b.stalled in
    ap message_of (sym i.gives) ∙ parcels (message_of packet) m (sym subject) (sym alone)
    (blocks (message_of packet).headers m.headers (sym (status_is idle_status m.headers p.0)) (sym (beats_are m.headers.pairs b i.was))) (sym (empty_is m.payload p.1))
