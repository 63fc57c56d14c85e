-- What is answered is an outcome, or one of the refusals that depend on the call alone.
use Rattle.js_wire.specs.declared.packet.AskerId.{AskerId}
use Rattle.js_wire.specs.declared.packet.Packet.TheVariants.{Answer, Ask, Beat, Delivery, FlowAsk, FlowReply, Refuse}
use Rattle.js_wire.specs.declared.packet.Packet.{Packet}
use Rattle.nats_text.specs.declared.message.Message.{Message}
use Rattle.nats_text.specs.declared.message.Stamp.{Stamp}
use Rattle.nats_text.specs.declared.message.Start.{Start}
use Rattle.push_consumer.specs.Progress.{ConsumerState}
use Rattle.push_consumer.specs.declared.wanted.Wanted.{Wanted}
use Rattle.shard_machine.specs.Answers.{Answered, Answers, Creates, Updates, addressee, below_or_all, consumer_start, copy_of_asker, creates, decided_by, deletes, expires, follows, gets, hears, informs, is_earlier, makes, makes_asked, makes_consumer, makes_for, publishes, publishes_by, pumps, purges, reaches, reads_stream, removes, row_by, serves, takes, takes_at, takes_reply, takes_subject, transformed}
use Rattle.shard_machine.specs.Images.{NameFacts, live_in}
use Rattle.shard_machine.specs.Views.{Copy, Effect, View, asker_of, reads, writes}
use Rattle.shard_machine.specs.declared.call.ShardCall.TheVariants as call
use Rattle.shard_machine.specs.declared.call.ShardCall.{ShardCall}
use Rattle.shard_machine.specs.declared.call.Which.{Which}
use Rattle.shard_machine.specs.declared.reply.Outcome.TheVariants as outcome
use Rattle.shard_machine.specs.declared.reply.Outcome.{Outcome}
use Rattle.shard_machine.specs.declared.reply.ShardRefusal.TheVariants as refusal
use Rattle.shard_machine.specs.declared.reply.ShardRefusal.{ShardRefusal}
use Rattle.std.proofs.Common.{Bool, Err, List, None, Ok, Option, Result, Some, cond, false, inl, inr, leb, subst, sym, true, ℕ, ◌==◌}
use Rattle.std.specs.List.{find}
use Rattle.std.specs.Prelude.{count_by, ⊤}
use Rattle.stream_fold.specs.Checking.{config_fault}
use Rattle.stream_fold.specs.Facts.{StreamFacts, verdict_by_facts}
use Rattle.stream_fold.specs.Histories.{is_expired, is_purged, message_at}
use Rattle.stream_fold.specs.declared.config.Config.{Config}
use Rattle.stream_fold.specs.declared.decision.Decision.TheVariants.{AskAgain, Ignore, Rebind, Reply, Skip, Stop, Store}
use Rattle.stream_fold.specs.declared.decision.Decision.TheVariants.{Bind as Binds, Heard as Hears, Refused as IsRefused}
use Rattle.stream_fold.specs.declared.decision.Decision.{Decision}
use Rattle.stream_fold.specs.declared.entry.Entry.TheVariants.{Del, Expire, Purge}
use Rattle.stream_fold.specs.declared.entry.Entry.{Entry}
use Rattle.stream_fold.specs.declared.entry.Numbered.{Numbered}
use Rattle.stream_fold.specs.declared.verdict.Refusal.{Refusal}
use Rattle.stream_fold.specs.declared.verdict.Verdict.TheVariants.{Duplicate as IsDuplicate}
use Rattle.stream_fold.specs.declared.verdict.Verdict.TheVariants.{Fresh}
use Rattle.stream_fold.specs.declared.verdict.Verdict.{Verdict}

-- something came of the call
abbrev pub IsDone : Outcome → Type 0
IsDone (outcome.Made fresh) = ⊤
IsDone outcome.Updated = ⊤
IsDone outcome.Removed = ⊤
IsDone (outcome.Stored seq) = ⊤
IsDone (outcome.Duplicate seq) = ⊤
IsDone outcome.Deleted = ⊤
IsDone (outcome.Purged count) = ⊤
IsDone (outcome.Expired count) = ⊤
IsDone (outcome.Found row) = ⊤
IsDone (outcome.Info facts) = ⊤
IsDone (outcome.Listed names) = ⊤
IsDone (outcome.Consumer name) = ⊤
IsDone outcome.Sent = ⊤
IsDone (outcome.Heard decision) = ⊤
IsDone (outcome.Refused why) = ⊥

-- the refusal depends on the call and on what is held
abbrev pub IsGround : ShardRefusal → Type 0
IsGround (refusal.Of why) = ⊤
IsGround refusal.NoStream = ⊤
IsGround (refusal.BadConfig member) = ⊤
IsGround refusal.NameTaken = ⊤
IsGround refusal.TooManyStreams = ⊤
IsGround (refusal.OldAttempt kept seen) = ⊤
IsGround refusal.TooManyConsumers = ⊤
IsGround refusal.NoMessage = ⊤
IsGround (refusal.JournalFull end need) = ⊥
IsGround (refusal.BadJournal place) = ⊥
IsGround refusal.NoMemory = ⊥
IsGround refusal.DiskFault = ⊥

abbrev Kind : Answered → Type 0
Kind (Ok does) = IsDone does.reply.outcome
Kind (Err why) = IsGround why

either-kind : (t : Bool) (a b : Answered) → Kind a → Kind b → Kind (cond t a b)
either-kind true a b x y = x
either-kind false a b x y = y

module _ (v : View) where
  takes-kind : (name : List ℕ) (f : StreamFacts) (e : Entry) (count : ℕ) (o : Outcome) → IsDone o → Kind (takes v name f e count o)
  takes-kind name f e count o done = either-kind (count == 0) (Ok (reads v o)) (Ok (writes v name f e o)) done done

  creates-kind : (c : Config) (now : ℕ) (fault : Option (List ℕ)) (known : Option NameFacts) (a : Answered) → Creates v c now fault known a → Kind a
  creates-kind c now (Some member) known a u = subst Kind (sym u) tt
  creates-kind c now None (Some known) a (inl u) = subst Kind (sym u.1) tt
  creates-kind c now None (Some known) a (inr u) = subst Kind (sym u.1) tt
  creates-kind c now None None a u = subst Kind (sym u) (either-kind _ (Err refusal.TooManyStreams) (Ok (creates v c now)) tt tt)

  updates-kind : (c : Config) (fault : Option (List ℕ)) (known : Option NameFacts) (a : Answered) → Updates v c fault known a → Kind a
  updates-kind c fault None a u = subst Kind (sym u) tt
  updates-kind c (Some member) (Some known) a u = subst Kind (sym u) tt
  updates-kind c None (Some known) a (inl u) = subst Kind (sym u.1) tt
  updates-kind c None (Some known) a (inr u) = subst Kind (sym u.1) tt

  publish-kind : (name : List ℕ) (f : StreamFacts) (m : Message) (now : ℕ) (o : Result Verdict Refusal) → Kind (publishes_by v name f m now o)
  publish-kind name f m now (Ok Fresh) = tt
  publish-kind name f m now (Ok (IsDuplicate seq)) = tt
  publish-kind name f m now (Err why) = tt

  publishes-kind : (name : List ℕ) (m : Message) (now : ℕ) (o : Option NameFacts) → Kind (publishes v name m now o)
  publishes-kind name m now None = tt
  publishes-kind name m now (Some known) = either-kind (takes_subject known.stream.config m.subject) _ (Err refusal.NoStream) (publish-kind name known.stream (transformed known.stream.config m) now (verdict_by_facts known.stream (transformed known.stream.config m) now)) tt

  deletes-kind : (name : List ℕ) (seq : ℕ) (o : Option NameFacts) → Kind (deletes v name seq o)
  deletes-kind name seq None = tt
  deletes-kind name seq (Some known) = by (message_at seq known.stream.rows)
    where
      deleted : Option Message → Answered
      deleted None = Err refusal.NoMessage
      deleted (Some m) = Ok (writes v name known.stream (Del seq) outcome.Deleted)

      by : (m : Option Message) → Kind (deleted m)
      by None = tt
      by (Some m) = tt

  purges-kind : (name pattern : List ℕ) (below : Option ℕ) (o : Option NameFacts) → Kind (purges v name pattern below o)
  purges-kind name pattern below None = tt
  purges-kind name pattern below (Some known) = takes-kind name known.stream (Purge pattern (below_or_all below known.stream.last)) (count_by (is_purged pattern (below_or_all below known.stream.last)) known.stream.rows) (outcome.Purged (count_by (is_purged pattern (below_or_all below known.stream.last)) known.stream.rows)) tt

  expires-kind : (name : List ℕ) (now : ℕ) (o : Option NameFacts) → Kind (expires v name now o)
  expires-kind name now None = tt
  expires-kind name now (Some known) = takes-kind name known.stream (Expire now) (count_by (is_expired known.stream.config.max_age now) known.stream.rows) (outcome.Expired (count_by (is_expired known.stream.config.max_age now) known.stream.rows)) tt

  gets-kind : (which : Which) (o : Option NameFacts) → Kind (gets v which o)
  gets-kind which None = tt
  gets-kind which (Some known) = by (row_by known.stream.rows which)
    where
      got : Option Numbered → Answered
      got None = Err refusal.NoMessage
      got (Some row) = Ok (reads v (outcome.Found row))

      by : (r : Option Numbered) → Kind (got r)
      by None = tt
      by (Some row) = tt

  informs-kind : (name : List ℕ) (o : Option NameFacts) → Kind (informs v name o)
  informs-kind name None = tt
  informs-kind name (Some known) = tt

  removes-kind : (name : List ℕ) (o : Option NameFacts) → Kind (removes v name o)
  removes-kind name None = tt
  removes-kind name (Some known) = tt

  makes_for-kind : (now : ℕ) (known : NameFacts) (name : List ℕ) (what : Wanted) (o : Option ConsumerState) → Kind (makes_for v now known name what o)
  makes_for-kind now known name what None = either-kind (leb 1024 (count_by (reads_stream name) v.consumers)) (Err refusal.TooManyConsumers) (Ok (makes_consumer v now known name what)) tt tt
  makes_for-kind now known name what (Some present) = either-kind (is_earlier present.wanted.attempt what.attempt) (Ok (makes_consumer v now known name what)) (Err (refusal.OldAttempt present.wanted.attempt what.attempt)) tt tt

  makes_asked-kind : (now : ℕ) (name : List ℕ) (asker : AskerId) (attempt : Stamp) (origin : List ℕ) (from : Start) (filters : List (List ℕ)) (o : Option NameFacts) → Kind (makes_asked v now name asker attempt origin from filters o)
  makes_asked-kind now name asker attempt origin from filters None = tt
  makes_asked-kind now name asker attempt origin from filters (Some known) = makes_for-kind now known name (record { asker = asker; attempt = attempt; origin = origin; start = consumer_start known.stream from; filters = filters }) (find (serves name asker) v.consumers)

  makes-kind : (now : ℕ) (p : Packet) → Kind (makes v now p)
  makes-kind now (Ask asker attempt origin stream from filters) = makes_asked-kind now stream asker attempt origin from filters (live_in v.image stream)
  makes-kind now (Answer a b c d e) = tt
  makes-kind now (Refuse a b c d) = tt
  makes-kind now (Delivery a b c d e f g h) = tt
  makes-kind now (Beat a b c d e f g h) = tt
  makes-kind now (FlowAsk a b c d e f) = tt
  makes-kind now (FlowReply a b c d) = tt

  pumps-kind : (name : List ℕ) (budget now : ℕ) (o : Option NameFacts) → Kind (pumps v name budget now o)
  pumps-kind name budget now None = tt
  pumps-kind name budget now (Some known) = tt

  takes_at-kind : (name : List ℕ) (consumer : Stamp) (token : ℕ) (o : Option NameFacts) → Kind (takes_at v name consumer token o)
  takes_at-kind name consumer token None = tt
  takes_at-kind name consumer token (Some known) = tt

  reply-kind : (p : Packet) → Kind (takes_reply v p)
  reply-kind (Ask a b c d e f) = tt
  reply-kind (Answer a b c d e) = tt
  reply-kind (Refuse a b c d) = tt
  reply-kind (Delivery a b c d e f g h) = tt
  reply-kind (Beat a b c d e f g h) = tt
  reply-kind (FlowAsk a b c d e f) = tt
  reply-kind (FlowReply origin stream consumer token) = takes_at-kind stream consumer token (live_in v.image stream)

  reaches-kind : (node : List ℕ) (there : Bool) (now : ℕ) → Kind (Ok (reaches v node there now))
  reaches-kind node true now = tt
  reaches-kind node false now = tt

  follows-kind : (c : Copy) (now : ℕ) (packet : Packet) (d : Decision) → Kind (Ok (follows v c now packet (asker_of v c).phase d))
  follows-kind c now packet (Store e) = tt
  follows-kind c now packet (Binds e) = tt
  follows-kind c now packet Rebind = tt
  follows-kind c now packet Skip = tt
  follows-kind c now packet (Ignore why) = tt
  follows-kind c now packet (AskAgain why) = tt
  follows-kind c now packet Reply = tt
  follows-kind c now packet Hears = tt
  follows-kind c now packet IsRefused = tt
  follows-kind c now packet (Stop kept seen) = tt

  hears-kind : (now : ℕ) (packet : Packet) (o : Option Copy) → Kind (Ok (hears v now packet o))
  hears-kind now packet None = tt
  hears-kind now packet (Some c) = follows-kind c now packet (decided_by c.facts.config.copies v c now packet)

  answer-kind : (c : ShardCall) (a : Answered) → Answers v c a → Kind a
  answer-kind (call.Create config now) a u = creates-kind config now (config_fault config) (live_in v.image config.name) a u
  answer-kind (call.Update config) a u = updates-kind config (config_fault config) (live_in v.image config.name) a u
  answer-kind (call.Remove name) a u = subst Kind (sym u) (removes-kind name (live_in v.image name))
  answer-kind (call.Publish name message now) a u = subst Kind (sym u) (publishes-kind name message now (live_in v.image name))
  answer-kind (call.Delete name seq) a u = subst Kind (sym u) (deletes-kind name seq (live_in v.image name))
  answer-kind (call.Purge name pattern below) a u = subst Kind (sym u) (purges-kind name pattern below (live_in v.image name))
  answer-kind (call.Expire name now) a u = subst Kind (sym u) (expires-kind name now (live_in v.image name))
  answer-kind (call.Get name which) a u = subst Kind (sym u) (gets-kind which (live_in v.image name))
  answer-kind (call.Info name) a u = subst Kind (sym u) (informs-kind name (live_in v.image name))
  answer-kind call.Names a u = subst Kind (sym u) tt
  answer-kind (call.MakeConsumer ask now) a u = subst Kind (sym u) (makes-kind now ask)
  answer-kind (call.Pump name budget now) a u = subst Kind (sym u) (pumps-kind name budget now (live_in v.image name))
  answer-kind (call.FlowReply packet) a u = subst Kind (sym u) (reply-kind packet)
  answer-kind (call.Reach node there now) a u = subst Kind (sym u) (reaches-kind node there now)
  answer-kind (call.Heard packet now) a u = subst Kind (sym u) (hears-kind now packet (copy_of_asker v (addressee packet)))
  answer-kind (call.Tick now) a u = subst Kind (sym u) tt
  answer-kind call.LinkLost a u = subst Kind (sym u) tt

-- something came of a call that isn't refused
pub done : (v : View) (c : ShardCall) (does : Effect) → Answers v c (Ok does) → IsDone does.reply.outcome
done v c does a = answer-kind v c (Ok does) a

-- a call is refused on such a ground
pub ground : (v : View) (c : ShardCall) (why : ShardRefusal) → Answers v c (Err why) → IsGround why
ground v c why a = answer-kind v c (Err why) a
