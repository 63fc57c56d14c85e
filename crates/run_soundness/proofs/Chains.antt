-- What a consumer has sent stays right: over a pump, and as its stream grows.
use Rattle.std.proofs.Common.{◌≡◌, ◌≢◌, ℕ, ◌+◌, ◌-◌, max, Bool, true, false, cond, ◌||◌, eqb, List, [], ◌∷◌, ◌++◌, length, Option, Some, None, refl, sym, ap, ◌∙◌, subst, append-nil, inl, inr}
use Rattle.std.specs.Prelude.{flat_map, filter, option_map, codes, Contains}
use Rattle.std.specs.Str.{bytes_eq}
use Rattle.std.specs.Cmp.Lexicographic.{bytes_decides}
use Rattle.std.proofs.lemmas.Grind.{flat_map-append}
use Rattle.nats_text.specs.Headers.{first_value}
use Rattle.nats_text.specs.declared.message.Message.{Message}
use Rattle.nats_text.specs.declared.message.Stamp.{Stamp}
use Rattle.js_wire.specs.declared.packet.Packet.{Packet}
use Rattle.js_wire.specs.declared.packet.Packet.TheVariants.{FlowAsk}
use Rattle.stream_fold.specs.declared.entry.Entry.{Entry}
use Rattle.stream_fold.specs.declared.entry.Entry.TheVariants.{Put, Del, Purge, Expire, Bind, Limits}
use Rattle.stream_fold.specs.declared.entry.Mark.{Mark}
use Rattle.stream_fold.specs.declared.entry.Numbered.{Numbered}
use Rattle.stream_fold.specs.declared.parts.Sent.{Sent as SentById}
use Rattle.stream_fold.specs.Histories.{History, either, mark_of, stands, kept, last, clock, NumbersRise}
use Rattle.stream_fold.specs.Copying.{bindings, mark_by, last_mark, mark_in}
use Rattle.stream_fold.specs.Publishing.{is_value, sent_by, latest_sent, in_window}
use Rattle.stream_fold.specs.Held.{State, StandsFor, latest_in, number_in, id_of}
use Rattle.stream_fold.specs.Facts.{sends}
use Rattle.push_consumer.specs.Chains.{Sendings, IsRight, with_rows}
use Rattle.push_consumer.specs.Progress.{ConsumerState, Progress, is_spent, asks, latest_token, delivered as more_delivered, after_row}
use Rattle.push_consumer.specs.Pumps.{pumped, pump_rows, pump_packets, rows_sent, packets_sent, packets_of, flow_request}
use Rattle.push_consumer.specs.Sends.{to_send}
use Rattle.replica_ask.specs.Orders.{same_stamp}
use Rattle.run_soundness.specs.Shards.{delivered_by, delivered}
use Rattle.run_soundness.proofs.Histories.{GoesOn, GoesOn-is}
use Rattle.run_soundness.specs.Below.{Laws}
use Rattle.run_soundness.proofs.Lists.{cons-cases, Contains-head, Contains-tail, Contains-none}
use Rattle.run_soundness.proofs.Stamps.{Apart, same_stamp-refl, same_stamp-other}

-- ---- a state that stands for a history

mark_list : Option Mark → List Mark
mark_list None = []
mark_list (Some mark) = mark ∷ []

marks_of : List Entry → List Mark
marks_of [] = []
marks_of (e ∷ es) = marks_of es ++ mark_list (mark_of e)

mark-either : (b : Bool) (seq : ℕ) (x y z : Option ℕ) → x ≡ either y z → cond b (Some seq) x ≡ either (cond b (Some seq) y) z
mark-either true seq x y z e = refl
mark-either false seq x y z e = e

mark_in-append : (index : ℕ) (xs ys : List Mark) → mark_in index (xs ++ ys) ≡ either (mark_in index xs) (mark_in index ys)
mark_in-append index [] ys = refl
mark_in-append index (m ∷ ms) ys = mark-either (eqb m.index index) m.seq (mark_in index (ms ++ ys)) (mark_in index ms) (mark_in index ys) (mark_in-append index ms ys)

mark_list-is : (index : ℕ) (o : Option Mark) → mark_in index (mark_list o) ≡ mark_by index o
unfolding mark_list
mark_list-is index None = refl
mark_list-is index (Some mark) = refl

marks-are : (index : ℕ) (es : List Entry) → mark_in index (marks_of es) ≡ last_mark index es
unfolding marks_of
marks-are index [] = refl
marks-are index (e ∷ es) =
    mark_in-append index (marks_of es) (mark_list (mark_of e))
    ∙ (ap (λ o. either o (mark_in index (mark_list (mark_of e)))) (marks-are index es)
    ∙ ap (either (last_mark index es)) (mark_list-is index (mark_of e)))

sent_of : List Entry → List SentById
sent_of [] = []
sent_of (e ∷ es) = sends (id_of e) e ++ sent_of es

sent_as : List ℕ → Numbered → SentById
sent_as id row = record { id = id; seq = row.seq; time = row.message.time }

either_assoc : {A : Type 0} (a b c : Option A) → either (either a b) c ≡ either a (either b c)
either_assoc (Some x) b c = refl
either_assoc None b c = refl

either-None : {A : Type 0} (a : Option A) → either a None ≡ a
either-None (Some x) = refl
either-None None = refl

latest-append : (id : List ℕ) (xs ys : List SentById) → latest_in id (xs ++ ys) ≡ either (latest_in id ys) (latest_in id xs)
latest-append id [] ys = sym (either-None (latest_in id ys))
latest-append id (s ∷ ss) ys = ap (λ o. either o (cond (bytes_eq s.id id) (Some s) None)) (latest-append id ss ys) ∙ either_assoc (latest_in id ys) (latest_in id ss) (cond (bytes_eq s.id id) (Some s) None)

sent-other : (id other : List ℕ) (number : ℕ) (message : Message) (b : Bool) → bytes_eq other id ≡ b →
    cond b (Some (record { id = other; seq = number; time = message.time })) None ≡ option_map (sent_as id) (cond b (Some (record { seq = number; message = message })) None)
unfolding sent_as
sent-other id other number message true e = ap (λ i. Some (record { id = i; seq = number; time = message.time })) ((bytes_decides other id).0 e)
sent-other id other number message false e = refl

sent-put : (id : List ℕ) (o : Option (List ℕ)) (number : ℕ) (message : Message) →
    latest_in id (sends o (Put number message None)) ≡ option_map (sent_as id) (cond (is_value id o) (Some (record { seq = number; message = message })) None)
sent-put id None number message = refl
sent-put id (Some other) number message = sent-other id other number message (bytes_eq other id) refl

sent-entry : (id : List ℕ) (e : Entry) → latest_in id (sends (id_of e) e) ≡ option_map (sent_as id) (sent_by id e)
sent-entry id (Put number message None) = sent-put id (first_value (codes "Nats-Msg-Id") message.headers) number message
sent-entry id (Put number message (Some mark)) = refl
sent-entry id (Del number) = refl
sent-entry id (Purge pattern below) = refl
sent-entry id (Expire at) = refl
sent-entry id (Bind index incarnation start) = refl
sent-entry id (Limits config) = refl

map-either : {A B : Type 0} (f : A → B) (x y : Option A) → option_map f (either x y) ≡ either (option_map f x) (option_map f y)
map-either f (Some x) y = refl
map-either f None y = refl

sent-are : (id : List ℕ) (es : List Entry) → latest_in id (sent_of es) ≡ option_map (sent_as id) (latest_sent id es)
unfolding sent_of
sent-are id [] = refl
sent-are id (e ∷ es) =
    latest-append id (sends (id_of e) e) (sent_of es)
    ∙ (ap (λ o. either o (latest_in id (sends (id_of e) e))) (sent-are id es)
    ∙ (ap (either (option_map (sent_as id) (latest_sent id es))) (sent-entry id e)
    ∙ sym (map-either (sent_as id) (latest_sent id es) (sent_by id e))))

in-window : (window moment : ℕ) (id : List ℕ) (o : Option Numbered) → number_in window moment (option_map (sent_as id) o) ≡ in_window window moment o
unfolding sent_as
in-window window moment id None = refl
in-window window moment id (Some row) = refl

-- what a stream's state would be after a history
pub state_for : History → State
state_for h = record {
  held = record {
    limits = (stands h).limits;
    window = h.config.window;
    rows = kept h;
    last = last h.entries;
    clock = clock h.entries;
    bindings = bindings h.entries;
    marks = marks_of h.entries;
    sent = sent_of h.entries;
  };
  room = 0;
  spare = None;
  coming = None;
}

state-stands : (h : History) → StandsFor (state_for h) h
unfolding state_for
state-stands h = record {
  limits = refl;
  window = refl;
  rows = refl;
  last = refl;
  clock = refl;
  bound = λ index. refl;
  marks = λ index. marks-are index h.entries;
  repeats = λ id now.
      ap (number_in h.config.window (max now (clock h.entries))) (sent-are id h.entries)
      ∙ in-window h.config.window (max now (clock h.entries)) id (latest_sent id h.entries);
}

-- a pump of what a history keeps leaves a consumer right
pub right-pump : Laws → (h : History) (c : ConsumerState) (s : Sendings) (budget now : ℕ) → NumbersRise h.entries → IsRight h c s → IsRight h (pumped (kept h) budget now c) (with_rows s (pump_rows (kept h) budget c))
unfolding state_for
right-pump laws h c s budget now rise right = laws.pumps_right h (state_for h) c s budget now rise (state-stands h) right

-- what is right for a history is right as it goes on
pub right-on : Laws → (h h' : History) (c : ConsumerState) (s : Sendings) → GoesOn h h' → NumbersRise h'.entries → IsRight h c s → IsRight h' c s
right-on laws h h' c s g rise right =
    subst (λ (k : History). IsRight k c s) (sym (GoesOn-is h h' g)) (laws.longer_right h g.rest c s (subst NumbersRise g.entries rise) right)

-- the answered token is the one that the consumer has
pub answered-is : (h : History) (c : ConsumerState) (s : Sendings) → IsRight h c s → record s { answered = c.progress.answered } ≡ s
answered-is h c s right = λ i. record { sent = s.sent; answered = right.stands.answer i }

-- ---- what is delivered in a name

pub delivered-append : (name : Stamp) (xs ys : List Packet) → delivered name (xs ++ ys) ≡ delivered name xs ++ delivered name ys
delivered-append name xs ys = flat_map-append (delivered_by name) xs ys

-- a flow request delivers nothing
request-none : (name : Stamp) (c : ConsumerState) (q : Progress) → delivered name (flow_request c q) ≡ []
request-none name c q = by (asks q)
  where
    by : (b : Bool) → delivered name (cond b (FlowAsk c.wanted.asker c.wanted.attempt c.wanted.origin c.stream c.name (latest_token q + 1) ∷ []) []) ≡ []
    by true = refl
    by false = refl

own-row : (b : Bool) (row : Numbered) (rest : List Numbered) → b ≡ true → rest ≡ [] → cond b (row ∷ []) [] ++ rest ≡ row ∷ []
own-row true row rest e f = ap (λ (l : List Numbered). row ∷ l) f
own-row false row rest e f = absurd (cc)

other-row : (b : Bool) (row : Numbered) (rest : List Numbered) → b ≡ false → rest ≡ [] → cond b (row ∷ []) [] ++ rest ≡ []
other-row true row rest e f = absurd (cc)
other-row false row rest e f = f

packets-own : (c : ConsumerState) (q : Progress) (waiting : ℕ) (row : Numbered) → delivered c.name (packets_of c q waiting row) ≡ row ∷ []
packets-own c q waiting row = own-row (same_stamp c.name c.name) row (delivered c.name (flow_request c (more_delivered q row))) (same_stamp-refl c.name) (request-none c.name c (more_delivered q row))

packets-other : (name : Stamp) (c : ConsumerState) (q : Progress) (waiting : ℕ) (row : Numbered) → c.name ≢ name → delivered name (packets_of c q waiting row) ≡ []
packets-other name c q waiting row f = other-row (same_stamp c.name name) row (delivered name (flow_request c (more_delivered q row))) (same_stamp-other c.name name f) (request-none name c (more_delivered q row))

sent-own-step : (c : ConsumerState) (b : Bool) (own rest : List Packet) (row : Numbered) (rows : List Numbered) → delivered c.name own ≡ row ∷ [] → delivered c.name rest ≡ rows → delivered c.name (cond b [] (own ++ rest)) ≡ cond b [] (row ∷ rows)
sent-own-step c true own rest row rows e f = refl
sent-own-step c false own rest row rows e f = delivered-append c.name own rest ∙ (ap (λ (l : List Numbered). l ++ delivered c.name rest) e ∙ ap (λ (l : List Numbered). row ∷ l) f)

-- a consumer's packets deliver in its name the rows that it sends
sent-own : (c : ConsumerState) (budget : ℕ) (q : Progress) (rows : List Numbered) → delivered c.name (packets_sent c budget q rows) ≡ rows_sent budget q rows
sent-own c budget q [] = refl
sent-own c budget q (row ∷ rows) =
    sent-own-step c (eqb budget 0 || is_spent q) (packets_of c q (length rows) row) (packets_sent c (budget - 1) (after_row q row) rows) row (rows_sent (budget - 1) (after_row q row) rows)
    (packets-own c q (length rows) row) (sent-own c (budget - 1) (after_row q row) rows)

sent-other-step : (name : Stamp) (b : Bool) (own rest : List Packet) → delivered name own ≡ [] → delivered name rest ≡ [] → delivered name (cond b [] (own ++ rest)) ≡ []
sent-other-step name true own rest e f = refl
sent-other-step name false own rest e f = delivered-append name own rest ∙ (ap (λ (l : List Numbered). l ++ delivered name rest) e ∙ f)

-- and in other names nothing
sent-else : (name : Stamp) (c : ConsumerState) (budget : ℕ) (q : Progress) (rows : List Numbered) → c.name ≢ name → delivered name (packets_sent c budget q rows) ≡ []
sent-else name c budget q [] f = refl
sent-else name c budget q (row ∷ rows) f =
    sent-other-step name (eqb budget 0 || is_spent q) (packets_of c q (length rows) row) (packets_sent c (budget - 1) (after_row q row) rows)
    (packets-other name c q (length rows) row f) (sent-else name c (budget - 1) (after_row q row) rows f)

pub pump-own : (c : ConsumerState) (rows : List Numbered) (budget : ℕ) → delivered c.name (pump_packets rows budget c) ≡ pump_rows rows budget c
pump-own c rows budget = by c.paused
  where
    by : (b : Bool) → delivered c.name (cond b [] (packets_sent c budget c.progress (to_send rows c))) ≡ cond b [] (rows_sent budget c.progress (to_send rows c))
    by true = refl
    by false = sent-own c budget c.progress (to_send rows c)

pub pump-else : (name : Stamp) (c : ConsumerState) (rows : List Numbered) (budget : ℕ) → c.name ≢ name → delivered name (pump_packets rows budget c) ≡ []
pump-else name c rows budget f = by c.paused
  where
    by : (b : Bool) → delivered name (cond b [] (packets_sent c budget c.progress (to_send rows c))) ≡ []
    by true = refl
    by false = sent-else name c budget c.progress (to_send rows c) f

-- ---- the packets of several consumers

module _ (test : ConsumerState → Bool) (f : ConsumerState → List Packet) (name : Stamp) (other : (d : ConsumerState) → d.name ≢ name → delivered name (f d) ≡ []) where
  skip-one : (c : ConsumerState) (cs : List ConsumerState) (b : Bool) → c.name ≢ name → delivered name (flat_map f (cond b (c ∷ cs) cs)) ≡ delivered name (flat_map f cs)
  skip-one c cs true e = delivered-append name (f c) (flat_map f cs) ∙ ap (λ (l : List Numbered). l ++ delivered name (flat_map f cs)) (other c e)
  skip-one c cs false e = refl

  -- nothing is delivered in the name of none of them
  pub delivered-none : (cs : List ConsumerState) → ((c : ConsumerState) → Contains cs c → c.name ≢ name) → delivered name (flat_map f (filter test cs)) ≡ []
  delivered-none [] h = refl
  delivered-none (c ∷ cs) h =
      skip-one c (filter test cs) (test c) (h c (Contains-head c cs))
      ∙ delivered-none cs (λ d q. h d (Contains-tail c cs d q))

  here-one : (c : ConsumerState) (cs : List ConsumerState) (b : Bool) → delivered name (flat_map f cs) ≡ [] → delivered name (flat_map f (cond b (c ∷ cs) cs)) ≡ cond b (delivered name (f c)) []
  here-one c cs true e = delivered-append name (f c) (flat_map f cs) ∙ (ap (λ (l : List Numbered). delivered name (f c) ++ l) e ∙ append-nil (delivered name (f c)))
  here-one c cs false e = e

  -- in the name of one of them what it delivers itself, if it is among those that pass
  pub delivered-one : (cs : List ConsumerState) (c : ConsumerState) → Apart cs → Contains cs c → c.name ≡ name → delivered name (flat_map f (filter test cs)) ≡ cond (test c) (delivered name (f c)) []
  delivered-one [] c apart q named = absurd (Contains-none c q)
  delivered-one (x ∷ cs) c apart q named = elim (cons-cases x cs c q) [
    | inl e ↦ subst (λ (y : ConsumerState). delivered name (flat_map f (cond (test x) (x ∷ filter test cs) (filter test cs))) ≡ cond (test y) (delivered name (f y)) []) e
        (here-one x (filter test cs) (test x) (delivered-none cs (λ d w same. apart.0 d w (same ∙ (sym named ∙ ap (λ (y : ConsumerState). y.name) (sym e))))))
    | inr more ↦ (skip-one x (filter test cs) (test x) (λ same. apart.0 c more (named ∙ sym same)) ∙ delivered-one cs c apart.1 more named)
  ]
