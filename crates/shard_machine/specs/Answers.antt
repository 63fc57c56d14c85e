-- What a shard that is loaded answers, call by call: an effect, or the first refusal. No part of it
-- reads the log.
use Rattle.std.specs.Prelude.{◌≡◌, ◌≢◌, ◌⊎◌, ℕ, ◌+◌, ◌-◌, max, ◌==◌, nat_le, nat_lt, Bool, true, false, not, ◌&&◌, ◌||◌, List, [], ◌∷◌, ◌++◌, length, map, filter, count_by, flat_map, if◌then◌else◌, Option, Some, None, Result, Ok, Err, codes}
use Rattle.std.specs.List.{list_any, find}
use Rattle.std.specs.FinMap.{get}
use Rattle.std.specs.Str.{bytes_eq}
use Rattle.nats_text.specs.Matching.{matches}
use Rattle.nats_text.specs.declared.message.Message.{Message}
use Rattle.nats_text.specs.declared.message.Stamp.{Stamp}
use Rattle.nats_text.specs.declared.message.Start.{Start}
use Rattle.nats_text.specs.declared.message.Start.TheVariants.{Seq, Time}
use Rattle.nats_text.specs.declared.origin.Origin.{Origin}
use Rattle.js_wire.specs.declared.packet.AskerId.{AskerId}
use Rattle.js_wire.specs.declared.packet.Packet.{Packet}
use Rattle.js_wire.specs.declared.packet.Packet.TheVariants.{Ask, Answer, Refuse, Delivery, Beat, FlowAsk, FlowReply}
use Rattle.stream_fold.specs.declared.config.Config.{Config}
use Rattle.stream_fold.specs.declared.config.Copies.{Copies}
use Rattle.stream_fold.specs.declared.config.Copies.TheVariants.{Nothing, Mirror, Sources}
use Rattle.stream_fold.specs.declared.decision.Decision.{Decision}
use Rattle.stream_fold.specs.declared.decision.Decision.TheVariants.{Store, Bind as Binds, Rebind, Skip, Ignore, AskAgain, Reply, Heard as Hears, Refused as IsRefused, Stop}
use Rattle.stream_fold.specs.declared.decision.Reason.TheVariants.{Foreign}
use Rattle.stream_fold.specs.declared.entry.Entry.{Entry}
use Rattle.stream_fold.specs.declared.entry.Entry.TheVariants.{Put, Del, Purge, Expire, Bind, Limits}
use Rattle.stream_fold.specs.declared.entry.Numbered.{Numbered}
use Rattle.stream_fold.specs.declared.verdict.Refusal.{Refusal}
use Rattle.stream_fold.specs.declared.verdict.Verdict.{Verdict}
use Rattle.stream_fold.specs.declared.verdict.Verdict.TheVariants.{Fresh, Duplicate as IsDuplicate}
use Rattle.stream_fold.specs.Checking.{config_fault, is_mirror}
use Rattle.stream_fold.specs.Copying.{number_since}
use Rattle.stream_fold.specs.Facts.{StreamFacts, new_facts, verdict_by_facts}
use Rattle.stream_fold.specs.Fits.{KeepsMembers}
use Rattle.stream_fold.specs.Held.{first_of}
use Rattle.stream_fold.specs.Histories.{is_purged, is_expired, message_at, size_of}
use Rattle.stream_fold.specs.Publishing.{last_of}
use Rattle.stream_fold.specs.Transforming.{stored_subject}
use Rattle.push_consumer.specs.declared.wanted.Wanted.{Wanted}
use Rattle.push_consumer.specs.Progress.{ConsumerState, new_consumer, answered_by, beat_at, after_beat}
use Rattle.push_consumer.specs.Pumps.{pump_packets, pumped}
use Rattle.replica_ask.specs.Askers.{AskerState, with_phase, bound_phase, took_phase, heard_phase, is_due}
use Rattle.replica_ask.specs.Orders.{order, same_stamp}
use Rattle.replica_ask.specs.declared.phase.Phase.{Phase}
use Rattle.replica_ask.specs.declared.phase.Phase.TheVariants.{Idle, Asking, Bound, Stopped as IsStopped}
use Rattle.mirror_core.specs.Decisions.{mirror_decision}
use Rattle.source_core.specs.Decisions.{source_decision, at_time}
use Rattle.record_codec.specs.declared.records.Rec.{Rec}
use Rattle.record_codec.specs.declared.records.Rec.TheVariants.{Create, Remove, Of}
use Rattle.tap_row.specs.declared.notice.Notice.{Notice}
use Rattle.tap_row.specs.declared.notice.Notice.TheVariants.{Bound as BoundNotice, AskedAgain, Stopped as StoppedNotice}
use Rattle.shard_machine.specs.declared.call.ShardCall.{ShardCall}
use Rattle.shard_machine.specs.declared.call.ShardCall.TheVariants as call
use Rattle.shard_machine.specs.declared.call.Which.{Which}
use Rattle.shard_machine.specs.declared.call.Which.TheVariants.{Seq as BySeq, LastOf}
use Rattle.shard_machine.specs.declared.facts.CopyFact.{CopyFact}
use Rattle.shard_machine.specs.declared.facts.Facts.{Facts}
use Rattle.shard_machine.specs.declared.reply.Outcome.{Outcome}
use Rattle.shard_machine.specs.declared.reply.Outcome.TheVariants as outcome
use Rattle.shard_machine.specs.declared.reply.ShardRefusal.{ShardRefusal}
use Rattle.shard_machine.specs.declared.reply.ShardRefusal.TheVariants as refusal
use Rattle.shard_machine.specs.Images.{LogImage, NameFacts, next, live_in, live_names}
use Rattle.shard_machine.specs.Views.{View, Effect, Askers, Copy, copies_of, copies_under, all_copies, reached, node_or, id_of, asker_of, with_asker, idle_askers, idle_under, asks_of, with_all_asked, ask_of, with_asked, entry_notices, replied, reads, writes, sends}

-- what a call is answered
abbrev pub Answered : Type 0
Answered = Result Effect ShardRefusal

-- ---- streams

-- the view once a record has joined the log
abbrev pub with_record : View → Rec → View
with_record v r = record v { image = next v.image r }

-- a stream is made, and its copies ask
abbrev pub creates : View → Config → ℕ → Effect
creates v c now = creates_in (with_record v (Create now c)) where
  creates_in : View → Effect
  creates_in w = record {
    reply = replied (outcome.Made true) None (asks_of w (copies_under w.image c.name)) [];
    records = Create now c ∷ [];
    given = v.given;
    consumers = v.consumers;
    askers = with_all_asked w now (copies_under w.image c.name) v.askers;
  }

-- a stream of the name stands: it has this configuration, or another one
abbrev pub CreatesAgain : View → Config → NameFacts → Answered → Type 0
CreatesAgain v c known answer =
    ((known.stream.config ≡ c) × (answer ≡ Ok (reads v (outcome.Made false))))
    ⊎ ((known.stream.config ≢ c) × (answer ≡ Err refusal.NameTaken))

-- a shard has at most 256 streams
abbrev pub creates_new : View → Config → ℕ → Answered
creates_new v c now = if nat_le 256 (length (live_names v.image)) then Err refusal.TooManyStreams else Ok (creates v c now)

-- a stream is made: its configuration is right, and its name is free
abbrev pub Creates : View → Config → ℕ → Option (List ℕ) → Option NameFacts → Answered → Type 0
Creates v c now (Some member) known answer = answer ≡ Err (refusal.BadConfig member)
Creates v c now None (Some known) answer = CreatesAgain v c known answer
Creates v c now None None answer = answer ≡ creates_new v c now

-- the member that changed of those that can't change: the duplicate window comes before the copies
abbrev pub changed_member : Config → Config → List ℕ
changed_member old new =
    if not (old.window == new.window) then codes "duplicate_window"
    else (if is_mirror old.copies || is_mirror new.copies then codes "mirror" else codes "sources")

-- the limits of a stream change: its configuration is right, and what can't change stays
abbrev pub Updates : View → Config → Option (List ℕ) → Option NameFacts → Answered → Type 0
Updates v c fault None answer = answer ≡ Err refusal.NoStream
Updates v c (Some member) (Some known) answer = answer ≡ Err (refusal.BadConfig member)
Updates v c None (Some known) answer =
    (KeepsMembers known.stream.config c × (answer ≡ Ok (writes v c.name known.stream (Limits c) outcome.Updated)))
    ⊎ ((KeepsMembers known.stream.config c → ⊥) × (answer ≡ Err (refusal.BadConfig (changed_member known.stream.config c))))

-- a consumer reads this stream
abbrev pub reads_stream : List ℕ → ConsumerState → Bool
reads_stream name c = bytes_eq c.stream name

-- a stream goes, with its consumers, and its askers are idle
abbrev pub removes : View → List ℕ → Option NameFacts → Answered
removes v name None = Err refusal.NoStream
removes v name (Some known) = Ok (record {
  reply = replied outcome.Removed None [] [];
  records = Remove name ∷ [];
  given = v.given;
  consumers = filter (λ c. not (reads_stream name c)) v.consumers;
  askers = idle_under name v.askers;
})

-- ---- messages

-- a message is new, repeats another one, or is refused
abbrev pub publishes_by : View → List ℕ → StreamFacts → Message → ℕ → Result Verdict Refusal → Answered
publishes_by v name f m now (Ok Fresh) = Ok (writes v name f (Put (f.last + 1) (at_time (max now f.clock) m) None) (outcome.Stored (f.last + 1)))
publishes_by v name f m now (Ok (IsDuplicate seq)) = Ok (reads v (outcome.Duplicate seq))
publishes_by v name f m now (Err why) = Err (refusal.Of why)

-- the stream takes the subject
abbrev pub takes_subject : Config → List ℕ → Bool
takes_subject c subject = list_any (λ pattern. matches pattern subject) c.subjects

-- the message under the subject that the stream's own transform makes of its own
abbrev pub transformed : Config → Message → Message
transformed c m = record m { subject = stored_subject c.transform m.subject }

-- a message is published into a stream, which has to take its subject as it was published
abbrev pub publishes : View → List ℕ → Message → ℕ → Option NameFacts → Answered
publishes v name m now None = Err refusal.NoStream
publishes v name m now (Some known) =
    if takes_subject known.stream.config m.subject
    then publishes_by v name known.stream (transformed known.stream.config m) now (verdict_by_facts known.stream (transformed known.stream.config m) now)
    else Err refusal.NoStream

-- the message of a number goes, if it is kept
abbrev pub deletes : View → List ℕ → ℕ → Option NameFacts → Answered
deletes v name seq None = Err refusal.NoStream
deletes v name seq (Some known) = deletes_if (message_at seq known.stream.rows) where
  deletes_if : Option Message → Answered
  deletes_if None = Err refusal.NoMessage
  deletes_if (Some m) = Ok (writes v name known.stream (Del seq) outcome.Deleted)

-- the entry is written where it takes a message; how many it takes is told either way
abbrev pub takes : View → List ℕ → StreamFacts → Entry → ℕ → Outcome → Answered
takes v name f e count what = if count == 0 then Ok (reads v what) else Ok (writes v name f e what)

-- the number below which a purge takes, one past the last where none is named
abbrev pub below_or_all : Option ℕ → ℕ → ℕ
below_or_all None last = last + 1
below_or_all (Some below) last = below

-- what matches and has a number below goes
abbrev pub purges : View → List ℕ → List ℕ → Option ℕ → Option NameFacts → Answered
purges v name pattern below None = Err refusal.NoStream
purges v name pattern below (Some known) = purges_to (below_or_all below known.stream.last) where
  purges_to : ℕ → Answered
  purges_to end = takes v name known.stream (Purge pattern end) (count_by (is_purged pattern end) known.stream.rows) (outcome.Purged (count_by (is_purged pattern end) known.stream.rows))

-- what is as old as the limit on age says goes
abbrev pub expires : View → List ℕ → ℕ → Option NameFacts → Answered
expires v name now None = Err refusal.NoStream
expires v name now (Some known) = takes v name known.stream (Expire now) (count_by (is_expired known.stream.config.max_age now) known.stream.rows) (outcome.Expired (count_by (is_expired known.stream.config.max_age now) known.stream.rows))

-- ---- what is shown

-- a message with its number, where it is kept
abbrev pub numbered : ℕ → Option Message → Option Numbered
numbered n None = None
numbered n (Some m) = Some (record { seq = n; message = m })

-- the message of a number, where there is one
abbrev pub row_numbered : List Numbered → Option ℕ → Option Numbered
row_numbered rows None = None
row_numbered rows (Some n) = numbered n (message_at n rows)

-- the message that is meant
abbrev pub row_by : List Numbered → Which → Option Numbered
row_by rows (BySeq n) = numbered n (message_at n rows)
row_by rows (LastOf subject) = row_numbered rows (last_of subject rows)

-- a message is shown, if it is kept
abbrev pub gets : View → Which → Option NameFacts → Answered
gets v which None = Err refusal.NoStream
gets v which (Some known) = gets_if (row_by known.stream.rows which) where
  gets_if : Option Numbered → Answered
  gets_if None = Err refusal.NoMessage
  gets_if (Some row) = Ok (reads v (outcome.Found row))

-- where a copy stopped: the incarnation that it is bound to, and the one that it saw
abbrev pub stopped_at : Phase → Option (ℕ × ℕ)
stopped_at Idle = None
stopped_at (Asking attempt since) = None
stopped_at (Bound attempt consumer next heard) = None
stopped_at (IsStopped kept seen) = Some (kept, seen)

-- the consumer from which a copy is sent its messages
abbrev pub consumer_of : Phase → Option Stamp
consumer_of Idle = None
consumer_of (Asking attempt since) = None
consumer_of (Bound attempt consumer next heard) = Some consumer
consumer_of (IsStopped kept seen) = None

-- how far a copy has come
abbrev pub fact_of_copy : View → Copy → CopyFact
fact_of_copy v c = record { node = c.want.node; stream = c.want.stream; mark = reached c; stopped = stopped_at (asker_of v c).phase; consumer = consumer_of (asker_of v c).phase }

-- the facts of a stream
abbrev pub facts_shown : View → List ℕ → NameFacts → Facts
facts_shown v name known = record {
  config = known.stream.config;
  created = known.created;
  incarnation = known.incarnation;
  first = first_of known.stream.rows known.stream.last;
  last = known.stream.last;
  count = length known.stream.rows;
  bytes = size_of known.stream.rows;
  consumers = count_by (reads_stream name) v.consumers;
  copies = map (fact_of_copy v) (copies_of name known.stream);
}

-- the facts of a stream are shown
abbrev pub informs : View → List ℕ → Option NameFacts → Answered
informs v name None = Err refusal.NoStream
informs v name (Some known) = Ok (reads v (outcome.Info (facts_shown v name known)))

-- ---- consumers

-- one asker is the other
abbrev pub same_asker : AskerId → AskerId → Bool
same_asker a b = bytes_eq a.node b.node && bytes_eq a.stream b.stream && (a.index == b.index)

-- the consumer reads the stream for the asker
abbrev pub serves : List ℕ → AskerId → ConsumerState → Bool
serves stream asker c = reads_stream stream c && same_asker c.wanted.asker asker

-- one name was given before the other
abbrev pub is_earlier : Stamp → Stamp → Bool
is_earlier a b = nat_lt a.boot b.boot || ((a.boot == b.boot) && nat_lt a.count b.count)

-- where a consumer starts: at a number, at least 1, or at the first message since a moment
abbrev pub consumer_start : StreamFacts → Start → ℕ
consumer_start f (Seq n) = max 1 n
consumer_start f (Time moment) = max 1 (number_since moment f.rows (f.last + 1))

-- the name of the next consumer
abbrev pub next_name : View → Stamp
next_name v = record { boot = v.image.boot; count = v.given + 1 }

-- a consumer is made, in place of an earlier one of the asker
abbrev pub makes_consumer : View → ℕ → NameFacts → List ℕ → Wanted → Effect
makes_consumer v now known name what = record {
  reply = replied (outcome.Consumer (next_name v)) None (Answer what.asker what.attempt (next_name v) known.incarnation what.start ∷ []) [];
  records = [];
  given = v.given + 1;
  consumers = filter (λ c. not (serves name what.asker c)) v.consumers ++ new_consumer (next_name v) name what now ∷ [];
  askers = v.askers;
}

-- an attempt is taken that is later than the one which the asker's consumer has, if it has one; a stream
-- has at most 1,024 consumers
abbrev pub makes_for : View → ℕ → NameFacts → List ℕ → Wanted → Option ConsumerState → Answered
makes_for v now known name what None = if nat_le 1024 (count_by (reads_stream name) v.consumers) then Err refusal.TooManyConsumers else Ok (makes_consumer v now known name what)
makes_for v now known name what (Some present) = if is_earlier present.wanted.attempt what.attempt then Ok (makes_consumer v now known name what) else Err (refusal.OldAttempt present.wanted.attempt what.attempt)

-- a copy asks for messages of a stream
abbrev pub makes_asked : View → ℕ → List ℕ → AskerId → Stamp → List ℕ → Start → List (List ℕ) → Option NameFacts → Answered
makes_asked v now name asker attempt origin start filters None = Err refusal.NoStream
makes_asked v now name asker attempt origin start filters (Some known) = makes_for v now known name (record { asker = asker; attempt = attempt; origin = origin; start = consumer_start known.stream start; filters = filters }) (find (serves name asker) v.consumers)

-- a consumer is made for an Ask; no other packet is handed in
abbrev pub makes : View → ℕ → Packet → Answered
makes v now (Ask asker attempt origin stream start filters) = makes_asked v now stream asker attempt origin start filters (live_in v.image stream)
makes v now (Answer asker attempt consumer incarnation start) = Err refusal.NoStream
makes v now (Refuse asker attempt code err_code) = Err refusal.NoStream
makes v now (Delivery asker attempt stream consumer number seq pending message) = Err refusal.NoStream
makes v now (Beat asker attempt origin stream consumer last_number last_seq stalled) = Err refusal.NoStream
makes v now (FlowAsk asker attempt origin stream consumer token) = Err refusal.NoStream
makes v now (FlowReply origin stream consumer token) = Err refusal.NoStream

-- the consumers of a stream change so, the others stay
abbrev pub for_stream : List ℕ → (ConsumerState → ConsumerState) → List ConsumerState → List ConsumerState
for_stream name change consumers = map (λ c. if reads_stream name c then change c else c) consumers

-- the consumers of a stream, in the order of their names
abbrev pub consumers_of : List ℕ → List ConsumerState → List ConsumerState
consumers_of name consumers = filter (reads_stream name) consumers

-- the consumers of a stream send what they may
abbrev pub pumps : View → List ℕ → ℕ → ℕ → Option NameFacts → Answered
pumps v name budget now None = Err refusal.NoStream
pumps v name budget now (Some known) = Ok (sends v
    (flat_map (pump_packets known.stream.rows budget) (consumers_of name v.consumers))
    (for_stream name (pumped known.stream.rows budget now) v.consumers)
    v.askers)

-- a consumer takes the answer to a flow request
abbrev pub takes_token : ℕ → ConsumerState → ConsumerState
takes_token token c = record c { progress = answered_by token c.progress }

-- the consumer of this name takes the token, where the stream stands
abbrev pub takes_at : View → List ℕ → Stamp → ℕ → Option NameFacts → Answered
takes_at v name consumer token None = Err refusal.NoStream
takes_at v name consumer token (Some known) = Ok (sends v [] (for_stream name (λ c. if same_stamp c.name consumer then takes_token token c else c) v.consumers) v.askers)

-- the answer to a flow request comes; no other packet is handed in
abbrev pub takes_reply : View → Packet → Answered
takes_reply v (Ask asker attempt origin stream start filters) = Err refusal.NoStream
takes_reply v (Answer asker attempt consumer incarnation start) = Err refusal.NoStream
takes_reply v (Refuse asker attempt code err_code) = Err refusal.NoStream
takes_reply v (Delivery asker attempt stream consumer number seq pending message) = Err refusal.NoStream
takes_reply v (Beat asker attempt origin stream consumer last_number last_seq stalled) = Err refusal.NoStream
takes_reply v (FlowAsk asker attempt origin stream consumer token) = Err refusal.NoStream
takes_reply v (FlowReply origin stream consumer token) = takes_at v stream consumer token (live_in v.image stream)

-- ---- the other end of a link

-- the consumers of a node's askers pause, or go on
abbrev pub paused_for : List ℕ → Bool → ConsumerState → ConsumerState
paused_for node there c = if bytes_eq c.wanted.asker.node node then record c { paused = not there } else c

-- the copies of streams of this node
abbrev pub copies_of_node : View → List ℕ → List Copy
copies_of_node v node = filter (λ c. bytes_eq (node_or v.node c.want.node) node) (all_copies v.image)

-- a node comes into reach: its copies go on here, and the copies of its streams ask; or it goes out of it
abbrev pub reaches : View → List ℕ → Bool → ℕ → Effect
reaches v node true now = sends v (asks_of v (copies_of_node v node)) (map (paused_for node true) v.consumers) (with_all_asked v now (copies_of_node v node) v.askers)
reaches v node false now = sends v [] (map (paused_for node false) v.consumers) v.askers

-- the beats of a stream's consumers, in the order of their names
abbrev pub beats_of : View → ℕ → List ℕ → List Packet
beats_of v now name = flat_map (λ c. beat_list (beat_at now c)) (consumers_of name v.consumers) where
  beat_list : Option Packet → List Packet
  beat_list None = []
  beat_list (Some packet) = packet ∷ []

-- the copies whose askers are due
abbrev pub due_copies : View → ℕ → List Copy
due_copies v now = filter (λ c. is_due now (asker_of v c).phase) (all_copies v.image)

-- time passes: first the beats, by the names of the streams, then the copies that are due ask
abbrev pub ticks : View → ℕ → Effect
ticks v now = sends v (flat_map (beats_of v now) (live_names v.image) ++ asks_of v (due_copies v now)) (map (after_beat now) v.consumers) (with_all_asked v now (due_copies v now) v.askers)

-- ---- packets for copies

-- the asker that a packet names
abbrev pub addressee : Packet → Option AskerId
addressee (Ask asker attempt origin stream start filters) = None
addressee (Answer asker attempt consumer incarnation start) = Some asker
addressee (Refuse asker attempt code err_code) = Some asker
addressee (Delivery asker attempt stream consumer number seq pending message) = Some asker
addressee (Beat asker attempt origin stream consumer last_number last_seq stalled) = Some asker
addressee (FlowAsk asker attempt origin stream consumer token) = Some asker
addressee (FlowReply origin stream consumer token) = None

-- the copy of an asker, if it is one of this node and its stream stands
abbrev pub copy_of_asker : View → Option AskerId → Option Copy
copy_of_asker v None = None
copy_of_asker v (Some id) = if bytes_eq id.node v.node then find (λ c. c.index == id.index) (copies_under v.image id.stream) else None

-- what a copy decides
abbrev pub decided_by : Copies → View → Copy → ℕ → Packet → Decision
decided_by Nothing v c now packet = Ignore Foreign
decided_by (Mirror origin) v c now packet = mirror_decision (get c.facts.bindings 0) (reached c) (order (asker_of v c).phase packet) packet
decided_by (Sources origins) v c now packet = source_decision c.want c.index (get c.facts.bindings c.index) (record { mark = reached c; last = c.facts.last; clock = c.facts.clock }) now (order (asker_of v c).phase packet) packet

-- a name that no consumer has
abbrev pub no_name : Stamp
no_name = record { boot = 0; count = 0 }

-- the consumer that an answer names; no other packet binds
abbrev pub consumer_named : Packet → Stamp
consumer_named (Ask asker attempt origin stream start filters) = no_name
consumer_named (Answer asker attempt consumer incarnation start) = consumer
consumer_named (Refuse asker attempt code err_code) = no_name
consumer_named (Delivery asker attempt stream consumer number seq pending message) = no_name
consumer_named (Beat asker attempt origin stream consumer last_number last_seq stalled) = no_name
consumer_named (FlowAsk asker attempt origin stream consumer token) = no_name
consumer_named (FlowReply origin stream consumer token) = no_name

-- the answer to a flow request that stands in a packet
abbrev pub flow_answer : Packet → List Packet
flow_answer (Ask asker attempt origin stream start filters) = []
flow_answer (Answer asker attempt consumer incarnation start) = []
flow_answer (Refuse asker attempt code err_code) = []
flow_answer (Delivery asker attempt stream consumer number seq pending message) = []
flow_answer (Beat asker attempt origin stream consumer last_number last_seq None) = []
flow_answer (Beat asker attempt origin stream consumer last_number last_seq (Some token)) = FlowReply origin stream consumer token ∷ []
flow_answer (FlowAsk asker attempt origin stream consumer token) = FlowReply origin stream consumer token ∷ []
flow_answer (FlowReply origin stream consumer token) = []

-- what a decision does: the entry, the packets, the notices, and the asker in another phase
abbrev pub hears_with : View → Copy → Decision → Option Entry → List Packet → List Notice → Phase → Effect
hears_with v c d made sent told phase = record {
  reply = replied (outcome.Heard d) made sent told;
  records = records_of made;
  given = v.given;
  consumers = v.consumers;
  askers = with_asker c.stream c.index (with_phase (asker_of v c) phase) v.askers;
} where
  records_of : Option Entry → List Rec
  records_of None = []
  records_of (Some e) = Of c.stream e ∷ []

-- a copy follows its decision
abbrev pub follows : View → Copy → ℕ → Packet → Phase → Decision → Effect
follows v c now packet phase (Store e) = hears_with v c (Store e) (Some e) [] (entry_notices c.stream c.facts e) (took_phase now phase)
follows v c now packet phase (Binds e) = hears_with v c (Binds e) (Some e) [] (BoundNotice c.stream c.index ∷ []) (bound_phase (consumer_named packet) now phase)
follows v c now packet phase Rebind = hears_with v c Rebind None [] [] (bound_phase (consumer_named packet) now phase)
follows v c now packet phase Skip = hears_with v c Skip None [] [] (took_phase now phase)
follows v c now packet phase (Ignore why) = reads v (outcome.Heard (Ignore why))
follows v c now packet phase (AskAgain why) = record {
  reply = replied (outcome.Heard (AskAgain why)) None (ask_of v c ∷ []) (AskedAgain c.stream c.index ∷ []);
  records = [];
  given = v.given;
  consumers = v.consumers;
  askers = with_asked v now c v.askers;
}
follows v c now packet phase Reply = hears_with v c Reply None (flow_answer packet) [] (heard_phase now phase)
follows v c now packet phase Hears = hears_with v c Hears None [] [] (heard_phase now phase)
follows v c now packet phase IsRefused = reads v (outcome.Heard IsRefused)
follows v c now packet phase (Stop kept seen) = hears_with v c (Stop kept seen) None [] (StoppedNotice c.stream c.index kept seen ∷ []) (IsStopped kept seen)

-- a packet for a copy that isn't here is ignored
abbrev pub hears : View → ℕ → Packet → Option Copy → Effect
hears v now packet None = reads v (outcome.Heard (Ignore Foreign))
hears v now packet (Some c) = follows v c now packet (asker_of v c).phase (decided_by c.facts.config.copies v c now packet)

-- ---- the table

-- What a call is answered. Every row but the first two is a function of the view and the call; in those a
-- configuration is compared with another one.
abbrev pub Answers : View → ShardCall → Answered → Type 0
Answers v (call.Create config now) answer = Creates v config now (config_fault config) (live_in v.image config.name) answer
Answers v (call.Update config) answer = Updates v config (config_fault config) (live_in v.image config.name) answer
Answers v (call.Remove name) answer = answer ≡ removes v name (live_in v.image name)
Answers v (call.Publish name message now) answer = answer ≡ publishes v name message now (live_in v.image name)
Answers v (call.Delete name seq) answer = answer ≡ deletes v name seq (live_in v.image name)
Answers v (call.Purge name pattern below) answer = answer ≡ purges v name pattern below (live_in v.image name)
Answers v (call.Expire name now) answer = answer ≡ expires v name now (live_in v.image name)
Answers v (call.Get name which) answer = answer ≡ gets v which (live_in v.image name)
Answers v (call.Info name) answer = answer ≡ informs v name (live_in v.image name)
Answers v call.Names answer = answer ≡ Ok (reads v (outcome.Listed (live_names v.image)))
Answers v (call.MakeConsumer ask now) answer = answer ≡ makes v now ask
Answers v (call.Pump name budget now) answer = answer ≡ pumps v name budget now (live_in v.image name)
Answers v (call.FlowReply packet) answer = answer ≡ takes_reply v packet
Answers v (call.Reach node there now) answer = answer ≡ Ok (reaches v node there now)
Answers v (call.Heard packet now) answer = answer ≡ Ok (hears v now packet (copy_of_asker v (addressee packet)))
Answers v (call.Tick now) answer = answer ≡ Ok (ticks v now)
Answers v call.LinkLost answer = answer ≡ Ok (sends v [] v.consumers (idle_askers v.askers))
