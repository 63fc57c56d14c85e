-- What is shown of streams, and the consumers that read them.
use Rattle.std.proofs.Common.{◌≡◌, ℕ, ◌+◌, Bool, true, false, cond, not, List, [], ◌∷◌, ◌++◌, map, Option, Some, None, refl, sym, ap, ◌∙◌, subst}
use Rattle.std.specs.Prelude.{filter, find, flat_map, count_by, Ok, Err}
use Rattle.std.specs.FinMap.{get}
use Rattle.nats_text.specs.declared.message.Stamp.{Stamp}
use Rattle.nats_text.specs.declared.message.Start.{Start}
use Rattle.js_wire.specs.declared.packet.AskerId.{AskerId}
use Rattle.js_wire.specs.declared.packet.Packet.{Packet}
use Rattle.js_wire.specs.declared.packet.Packet.TheVariants as packet
use Rattle.stream_fold.specs.declared.entry.Numbered.{Numbered}
use Rattle.stream_fold.specs.Facts.{StreamFacts, facts}
use Rattle.stream_fold.specs.FactLaws.{FactsTell}
use Rattle.push_consumer.specs.declared.wanted.Wanted.{Wanted}
use Rattle.push_consumer.specs.Progress.{ConsumerState, new_consumer}
use Rattle.push_consumer.specs.Pumps.{pump_packets, pumped}
use Rattle.log_replay.specs.declared.replay.Standing.{Standing}
use Rattle.replica_ask.specs.Orders.{same_stamp}
use Rattle.shard_machine.specs.declared.call.ShardCall.{ShardCall}
use Rattle.shard_machine.specs.declared.call.ShardCall.TheVariants as call
use Rattle.shard_machine.specs.declared.facts.CopyFact.{CopyFact}
use Rattle.shard_machine.specs.declared.facts.Facts.{Facts}
use Rattle.shard_machine.specs.declared.reply.Outcome.TheVariants as outcome
use Rattle.shard_machine.specs.declared.reply.ShardRefusal.{ShardRefusal}
use Rattle.shard_machine.specs.declared.reply.ShardRefusal.TheVariants as refusal
use Rattle.shard_machine.specs.declared.reply.ShardReply.{ShardReply}
use Rattle.shard_machine.specs.Images.{NameFacts, count_of, if_stands, incarnation_in, live_in}
use Rattle.shard_machine.specs.Views.{View, Effect, copies_of, reads, replied, sends}
use Rattle.shard_machine.specs.Answers.{Answered, Answers, consumer_start, consumers_of, fact_of_copy, facts_shown, for_stream, informs, makes, makes_asked, makes_consumer, makes_for, next_name, pumps, reads_stream, serves, takes_at, takes_reply, takes_token}
use Rattle.shard_copies.specs.Asked.{ShowsAskers}
use Rattle.shard_copies.specs.Standing.{ConsumersState, answer_to, next_stamp, refused_or, with_all}
use Rattle.shard_streams.specs.HeldImages.{HoldsImage, IsStreamOf}
use Rattle.shard_streams.specs.Plans.{Informs, IsShown}
use Rattle.shard_table.specs.declared.table.Table.{Table}
use Rattle.shard_table.specs.Answering.{Does, TurnsDown}
use Rattle.shard_table.specs.Effects.{effected}
use Rattle.shard_table.specs.Holding.{Holds}
use Rattle.shard_table.proofs.Doing.{does-sends, shows-in}

same-known : (x y : NameFacts) → Some x ≡ Some y → x ≡ y
same-known x y e = cc

-- the rows of a stream that stands are those that its state keeps
pub rows-live : (tell : FactsTell) (name : List ℕ) (standing : Standing) (known : NameFacts) → IsStreamOf name standing known → standing.state.held.rows ≡ known.stream.rows
rows-live tell name standing known is = is.state.rows ∙ (sym (tell is.history).rows ∙ ap (λ (f : StreamFacts). f.rows) (sym is.facts_are))

-- ---- facts that are shown

-- the facts of a stream are shown
pub informs-shown : (v : View) (name : List ℕ) (known : NameFacts) (count : ℕ) (copies : List CopyFact) (told : Facts) → live_in v.image name ≡ Some known → count ≡ count_by (reads_stream name) v.consumers → copies ≡ map (fact_of_copy v) (copies_of name known.stream)
    → IsShown v name count copies told → Answers v (call.Info name) (Ok (reads v (outcome.Info told)))
informs-shown v name known count copies told live counted listed shown =
    let same : known ≡ shown.known = same-known known shown.known (sym live ∙ shown.stands) in
    let k : NameFacts = shown.known in
    ap (λ (f : Facts). Ok (reads v (outcome.Info f)))
    (shown.are
    ∙ (ap (λ (n : ℕ). record (facts_shown v name k) { consumers = n; copies = copies }) counted
    ∙ ap (λ (l : List CopyFact). record (facts_shown v name k) { consumers = count_by (reads_stream name) v.consumers; copies = l }) (listed ∙ ap (λ (x : NameFacts). map (fact_of_copy v) (copies_of name x.stream)) same)))
    ∙ sym (ap (informs v name) shown.stands)

-- ---- consumers that are made

-- a copy asks for messages of a stream that stands
pub makes-answer : (v : View) (now : ℕ) (known : NameFacts) (name : List ℕ) (asker : AskerId) (attempt : Stamp) (origin : List ℕ) (start : Start) (from : ℕ) (filters : List (List ℕ)) (a : Answered) → live_in v.image name ≡ Some known → from ≡ consumer_start known.stream start
    → makes_for v now known name (record { asker = asker; attempt = attempt; origin = origin; start = from; filters = filters }) (find (serves name asker) v.consumers) ≡ a → Answers v (call.MakeConsumer (packet.Ask asker attempt origin name start filters) now) a
makes-answer v now known name asker attempt origin start from filters a live is e =
    sym (ap (makes_asked v now name asker attempt origin start filters) live
    ∙ (ap (λ (n : ℕ). makes_for v now known name (record { asker = asker; attempt = attempt; origin = origin; start = n; filters = filters }) (find (serves name asker) v.consumers)) (sym is) ∙ e))

-- the stream doesn't stand
pub makes-gone : (v : View) (now : ℕ) (name : List ℕ) (asker : AskerId) (attempt : Stamp) (origin : List ℕ) (start : Start) (filters : List (List ℕ)) → live_in v.image name ≡ None → Answers v (call.MakeConsumer (packet.Ask asker attempt origin name start filters) now) (Err refusal.NoStream)
makes-gone v now name asker attempt origin start filters gone = sym (ap (makes_asked v now name asker attempt origin start filters) gone)

-- the incarnation of a stream that stands
pub incarnation-live : (v : View) (name : List ℕ) (known : NameFacts) → live_in v.image name ≡ Some known → incarnation_in v.image name ≡ known.incarnation
incarnation-live v name known live = by (get v.image.names name) live
  where
    if-so : (n : NameFacts) (b : Bool) → cond b (Some n) None ≡ Some known → n.incarnation ≡ known.incarnation
    if-so n true e = ap (λ (x : NameFacts). x.incarnation) (same-known n known e)
    if-so n false e = absurd (cc)

    by : (o : Option NameFacts) → if_stands o ≡ Some known → count_of o ≡ known.incarnation
    by None e = absurd (cc)
    by (Some n) e = if-so n n.stands e

-- a consumer was made
pub makes-does : (v : View) (called : ShardCall) (now : ℕ) (known : NameFacts) (name : List ℕ) (what : Wanted) (incarnation : ℕ) (made : Stamp) (sent : List Packet) (reply : ShardReply) (old : ConsumersState) (t : Table)
    → Answers v called (Ok (makes_consumer v now known name what)) → live_in v.image name ≡ Some known → incarnation ≡ incarnation_in v.image name → old ≡ record { boot = v.image.boot; given = v.given; all = v.consumers } → made ≡ next_stamp old → sent ≡ answer_to (next_stamp old) incarnation what ∷ []
    → reply ≡ replied (outcome.Consumer made) None sent [] → HoldsImage t.streams.replay v.image → t.consumers ≡ record { boot = old.boot; given = old.given + 1; all = filter (λ c. not (serves name what.asker c)) old.all ++ new_consumer (next_stamp old) name what now ∷ [] }
    → ShowsAskers t.askers v v.askers → Does v called reply t
makes-does v called now known name what incarnation made sent reply old t a live numbered was made_is sent_is r image are shown =
    let stamp : next_stamp old ≡ next_name v = ap next_stamp was in
    let number : incarnation ≡ known.incarnation = numbered ∙ incarnation-live v name known live in
    let consumers = are ∙ ap (λ (s : ConsumersState). record { boot = s.boot; given = s.given + 1; all = filter (λ c. not (serves name what.asker c)) s.all ++ new_consumer (next_stamp s) name what now ∷ [] }) was in
    record {
      effect = makes_consumer v now known name what;
      answers = a;
      none = refl;
      replies = r ∙ (ap (λ (m : Stamp). replied (outcome.Consumer m) None sent []) (made_is ∙ stamp)
          ∙ ap (λ (l : List Packet). replied (outcome.Consumer (next_name v)) None l []) (sent_is ∙ (ap (λ (m : Stamp). answer_to m incarnation what ∷ []) stamp ∙ ap (λ (n : ℕ). answer_to (next_name v) n what ∷ []) number)));
      becomes = record {
        streams = image;
        boot = ap (λ (s : ConsumersState). s.boot) consumers;
        given = ap (λ (s : ConsumersState). s.given) consumers;
        consumers = ap (λ (s : ConsumersState). s.all) consumers;
        askers = shows-in t.askers v (effected v (makes_consumer v now known name what)) v.askers refl refl shown;
      };
    }

-- ---- consumers that send

-- the consumers of a table
pub held-consumers : (t : Table) (v : View) → Holds t v → t.consumers ≡ record { boot = v.image.boot; given = v.given; all = v.consumers }
held-consumers t v h = λ i. record { boot = h.boot i; given = h.given i; all = h.consumers i }

-- the consumers of a stream send what they may
pub pumps-does : (v : View) (name : List ℕ) (budget now : ℕ) (known : NameFacts) (rows : List Numbered) (sent : List Packet) (reply : ShardReply) (old : ConsumersState) (t : Table) → live_in v.image name ≡ Some known → rows ≡ known.stream.rows
    → old ≡ record { boot = v.image.boot; given = v.given; all = v.consumers } → sent ≡ flat_map (pump_packets rows budget) (consumers_of name old.all) → reply ≡ replied outcome.Sent None sent [] → HoldsImage t.streams.replay v.image
    → t.consumers ≡ with_all old (for_stream name (pumped rows budget now) old.all) → ShowsAskers t.askers v v.askers → Does v (call.Pump name budget now) reply t
pumps-does v name budget now known rows sent reply old t live kept was sent_is r image are shown =
    does-sends v (call.Pump name budget now) (flat_map (pump_packets known.stream.rows budget) (consumers_of name v.consumers)) (for_stream name (pumped known.stream.rows budget now) v.consumers) v.askers reply t
    (sym (ap (pumps v name budget now) live))
    (r ∙ ap (λ (l : List Packet). replied outcome.Sent None l []) (sent_is ∙ (ap (λ (s : ConsumersState). flat_map (pump_packets rows budget) (consumers_of name s.all)) was ∙ ap (λ (l : List Numbered). flat_map (pump_packets l budget) (consumers_of name v.consumers)) kept)))
    image
    (are ∙ (ap (λ (s : ConsumersState). with_all s (for_stream name (pumped rows budget now) s.all)) was ∙ ap (λ (l : List Numbered). record { boot = v.image.boot; given = v.given; all = for_stream name (pumped l budget now) v.consumers }) kept))
    shown

-- the stream doesn't stand
pub pumps-gone : (v : View) (name : List ℕ) (budget now : ℕ) → live_in v.image name ≡ None → Answers v (call.Pump name budget now) (Err refusal.NoStream)
pumps-gone v name budget now gone = sym (ap (pumps v name budget now) gone)

-- a consumer takes the answer to its flow request
pub takes-does : (v : View) (origin name : List ℕ) (consumer : Stamp) (token : ℕ) (known : NameFacts) (reply : ShardReply) (old : ConsumersState) (t : Table) → live_in v.image name ≡ Some known → old ≡ record { boot = v.image.boot; given = v.given; all = v.consumers }
    → reply ≡ replied outcome.Sent None [] [] → HoldsImage t.streams.replay v.image → t.consumers ≡ with_all old (for_stream name (λ c. cond (same_stamp c.name consumer) (takes_token token c) c) old.all) → ShowsAskers t.askers v v.askers
    → Does v (call.FlowReply (packet.FlowReply origin name consumer token)) reply t
takes-does v origin name consumer token known reply old t live was r image are shown =
    does-sends v (call.FlowReply (packet.FlowReply origin name consumer token)) [] (for_stream name (λ c. cond (same_stamp c.name consumer) (takes_token token c) c) v.consumers) v.askers reply t
    (sym (ap (takes_at v name consumer token) live))
    r
    image
    (are ∙ ap (λ (s : ConsumersState). with_all s (for_stream name (λ c. cond (same_stamp c.name consumer) (takes_token token c) c) s.all)) was)
    shown

-- the stream doesn't stand
pub takes-gone : (v : View) (origin name : List ℕ) (consumer : Stamp) (token : ℕ) → live_in v.image name ≡ None → Answers v (call.FlowReply (packet.FlowReply origin name consumer token)) (Err refusal.NoStream)
takes-gone v origin name consumer token gone = sym (ap (takes_at v name consumer token) gone)
