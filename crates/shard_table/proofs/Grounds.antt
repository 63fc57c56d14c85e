-- A call is refused by the call and what is held, never for a disk.
use Rattle.std.proofs.Common.{◌≡◌, ◌⊎◌, inl, inr, ℕ, Bool, true, false, cond, List, Option, Some, None, sym, subst}
use Rattle.std.specs.Prelude.{⊤, nat_le, ◌==◌, count_by, length, Result, Ok, Err}
use Rattle.std.specs.List.{find}
use Rattle.nats_text.specs.declared.message.Message.{Message}
use Rattle.nats_text.specs.declared.message.Stamp.{Stamp}
use Rattle.nats_text.specs.declared.message.Start.{Start}
use Rattle.js_wire.specs.declared.packet.AskerId.{AskerId}
use Rattle.js_wire.specs.declared.packet.Packet.{Packet}
use Rattle.js_wire.specs.declared.packet.Packet.TheVariants.{Ask, Answer, Refuse, Delivery, Beat, FlowAsk, FlowReply}
use Rattle.stream_fold.specs.declared.config.Config.{Config}
use Rattle.stream_fold.specs.declared.entry.Entry.{Entry}
use Rattle.stream_fold.specs.declared.entry.Entry.TheVariants.{Del, Purge, Expire}
use Rattle.stream_fold.specs.declared.entry.Numbered.{Numbered}
use Rattle.stream_fold.specs.declared.verdict.Refusal.{Refusal}
use Rattle.stream_fold.specs.declared.verdict.Verdict.{Verdict}
use Rattle.stream_fold.specs.declared.verdict.Verdict.TheVariants.{Fresh, Duplicate as IsDuplicate}
use Rattle.stream_fold.specs.Checking.{config_fault}
use Rattle.stream_fold.specs.Facts.{StreamFacts, verdict_by_facts}
use Rattle.stream_fold.specs.Histories.{is_purged, is_expired, message_at}
use Rattle.push_consumer.specs.declared.wanted.Wanted.{Wanted}
use Rattle.push_consumer.specs.Progress.{ConsumerState}
use Rattle.shard_machine.specs.declared.call.ShardCall.{ShardCall}
use Rattle.shard_machine.specs.declared.call.ShardCall.TheVariants as call
use Rattle.shard_machine.specs.declared.call.Which.{Which}
use Rattle.shard_machine.specs.declared.reply.Outcome.{Outcome}
use Rattle.shard_machine.specs.declared.reply.Outcome.TheVariants as outcome
use Rattle.shard_machine.specs.declared.reply.ShardRefusal.{ShardRefusal}
use Rattle.shard_machine.specs.declared.reply.ShardRefusal.TheVariants as refusal
use Rattle.shard_machine.specs.Images.{NameFacts, live_in, live_names}
use Rattle.shard_machine.specs.Views.{View, Effect, reads, writes}
use Rattle.shard_machine.specs.Answers.{Answered, Answers, Creates, Updates, creates, creates_new, removes, publishes_by, publishes, takes_subject, transformed, deletes, takes, below_or_all, purges, expires, row_by, gets, informs, reads_stream, serves, is_earlier, consumer_start, makes_consumer, makes_for, makes_asked, makes, pumps, takes_at, takes_reply}
use Rattle.shard_streams.specs.Plans.{IsRefused}
use Rattle.shard_table.specs.Answering.{TurnsDown}

-- the refusal depends on the call and on what is held
abbrev IsGround : ShardRefusal → Type 0
IsGround (refusal.Of why) = ⊤
IsGround refusal.NoStream = ⊤
IsGround (refusal.BadConfig member) = ⊤
IsGround refusal.NameTaken = ⊤
IsGround refusal.TooManyStreams = ⊤
IsGround (refusal.OldAttempt kept seen) = ⊤
IsGround refusal.TooManyConsumers = ⊤
IsGround refusal.NoMessage = ⊤
IsGround (refusal.JournalFull end need) = ⊥
IsGround (refusal.BadJournal place) = ⊥
IsGround refusal.NoMemory = ⊥
IsGround refusal.DiskFault = ⊥

abbrev Kind : Answered → Type 0
Kind (Ok does) = ⊤
Kind (Err why) = IsGround why

either-kind : (t : Bool) (a b : Answered) → Kind a → Kind b → Kind (cond t a b)
either-kind true a b x y = x
either-kind false a b x y = y

module _ (v : View) where
  takes-kind : (name : List ℕ) (f : StreamFacts) (e : Entry) (count : ℕ) (o : Outcome) → Kind (takes v name f e count o)
  takes-kind name f e count o = either-kind (count == 0) (Ok (reads v o)) (Ok (writes v name f e o)) tt tt

  creates-kind : (c : Config) (now : ℕ) (fault : Option (List ℕ)) (known : Option NameFacts) (a : Answered) → Creates v c now fault known a → Kind a
  creates-kind c now (Some member) known a u = subst Kind (sym u) tt
  creates-kind c now None (Some known) a (inl u) = subst Kind (sym u.1) tt
  creates-kind c now None (Some known) a (inr u) = subst Kind (sym u.1) tt
  creates-kind c now None None a u = subst Kind (sym u) (either-kind (nat_le 256 (length (live_names v.image))) (Err refusal.TooManyStreams) (Ok (creates v c now)) tt tt)

  updates-kind : (c : Config) (fault : Option (List ℕ)) (known : Option NameFacts) (a : Answered) → Updates v c fault known a → Kind a
  updates-kind c fault None a u = subst Kind (sym u) tt
  updates-kind c (Some member) (Some known) a u = subst Kind (sym u) tt
  updates-kind c None (Some known) a (inl u) = subst Kind (sym u.1) tt
  updates-kind c None (Some known) a (inr u) = subst Kind (sym u.1) tt

  publish-kind : (name : List ℕ) (f : StreamFacts) (m : Message) (now : ℕ) (o : Result Verdict Refusal) → Kind (publishes_by v name f m now o)
  publish-kind name f m now (Ok Fresh) = tt
  publish-kind name f m now (Ok (IsDuplicate seq)) = tt
  publish-kind name f m now (Err why) = tt

  publishes-kind : (name : List ℕ) (m : Message) (now : ℕ) (o : Option NameFacts) → Kind (publishes v name m now o)
  publishes-kind name m now None = tt
  publishes-kind name m now (Some known) =
      let by : Answered = publishes_by v name known.stream (transformed known.stream.config m) now (verdict_by_facts known.stream (transformed known.stream.config m) now) in
      either-kind (takes_subject known.stream.config m.subject) by (Err refusal.NoStream) (publish-kind name known.stream (transformed known.stream.config m) now (verdict_by_facts known.stream (transformed known.stream.config m) now)) tt

  deletes-kind : (name : List ℕ) (seq : ℕ) (o : Option NameFacts) → Kind (deletes v name seq o)
  deletes-kind name seq None = tt
  deletes-kind name seq (Some known) = by (message_at seq known.stream.rows)
    where
      deleted : Option Message → Answered
      deleted None = Err refusal.NoMessage
      deleted (Some m) = Ok (writes v name known.stream (Del seq) outcome.Deleted)

      by : (m : Option Message) → Kind (deleted m)
      by None = tt
      by (Some m) = tt

  purges-kind : (name pattern : List ℕ) (below : Option ℕ) (o : Option NameFacts) → Kind (purges v name pattern below o)
  purges-kind name pattern below None = tt
  purges-kind name pattern below (Some known) =
      let end : ℕ = below_or_all below known.stream.last in
      let count : ℕ = count_by (is_purged pattern end) known.stream.rows in
      takes-kind name known.stream (Purge pattern end) count (outcome.Purged count)

  expires-kind : (name : List ℕ) (now : ℕ) (o : Option NameFacts) → Kind (expires v name now o)
  expires-kind name now None = tt
  expires-kind name now (Some known) =
      let count : ℕ = count_by (is_expired known.stream.config.max_age now) known.stream.rows in
      takes-kind name known.stream (Expire now) count (outcome.Expired count)

  gets-kind : (which : Which) (o : Option NameFacts) → Kind (gets v which o)
  gets-kind which None = tt
  gets-kind which (Some known) = by (row_by known.stream.rows which)
    where
      got : Option Numbered → Answered
      got None = Err refusal.NoMessage
      got (Some row) = Ok (reads v (outcome.Found row))

      by : (r : Option Numbered) → Kind (got r)
      by None = tt
      by (Some row) = tt

  informs-kind : (name : List ℕ) (o : Option NameFacts) → Kind (informs v name o)
  informs-kind name None = tt
  informs-kind name (Some known) = tt

  removes-kind : (name : List ℕ) (o : Option NameFacts) → Kind (removes v name o)
  removes-kind name None = tt
  removes-kind name (Some known) = tt

  makes_for-kind : (now : ℕ) (known : NameFacts) (name : List ℕ) (what : Wanted) (o : Option ConsumerState) → Kind (makes_for v now known name what o)
  makes_for-kind now known name what None = either-kind (nat_le 1024 (count_by (reads_stream name) v.consumers)) (Err refusal.TooManyConsumers) (Ok (makes_consumer v now known name what)) tt tt
  makes_for-kind now known name what (Some present) = either-kind (is_earlier present.wanted.attempt what.attempt) (Ok (makes_consumer v now known name what)) (Err (refusal.OldAttempt present.wanted.attempt what.attempt)) tt tt

  makes_asked-kind : (now : ℕ) (name : List ℕ) (asker : AskerId) (attempt : Stamp) (origin : List ℕ) (from : Start) (filters : List (List ℕ)) (o : Option NameFacts) → Kind (makes_asked v now name asker attempt origin from filters o)
  makes_asked-kind now name asker attempt origin from filters None = tt
  makes_asked-kind now name asker attempt origin from filters (Some known) = makes_for-kind now known name (record { asker = asker; attempt = attempt; origin = origin; start = consumer_start known.stream from; filters = filters }) (find (serves name asker) v.consumers)

  makes-kind : (now : ℕ) (p : Packet) → Kind (makes v now p)
  makes-kind now (Ask asker attempt origin stream from filters) = makes_asked-kind now stream asker attempt origin from filters (live_in v.image stream)
  makes-kind now (Answer a b c d e) = tt
  makes-kind now (Refuse a b c d) = tt
  makes-kind now (Delivery a b c d e f g h) = tt
  makes-kind now (Beat a b c d e f g h) = tt
  makes-kind now (FlowAsk a b c d e f) = tt
  makes-kind now (FlowReply a b c d) = tt

  pumps-kind : (name : List ℕ) (budget now : ℕ) (o : Option NameFacts) → Kind (pumps v name budget now o)
  pumps-kind name budget now None = tt
  pumps-kind name budget now (Some known) = tt

  takes_at-kind : (name : List ℕ) (consumer : Stamp) (token : ℕ) (o : Option NameFacts) → Kind (takes_at v name consumer token o)
  takes_at-kind name consumer token None = tt
  takes_at-kind name consumer token (Some known) = tt

  reply-kind : (p : Packet) → Kind (takes_reply v p)
  reply-kind (Ask a b c d e f) = tt
  reply-kind (Answer a b c d e) = tt
  reply-kind (Refuse a b c d) = tt
  reply-kind (Delivery a b c d e f g h) = tt
  reply-kind (Beat a b c d e f g h) = tt
  reply-kind (FlowAsk a b c d e f) = tt
  reply-kind (FlowReply origin stream consumer token) = takes_at-kind stream consumer token (live_in v.image stream)

  answer-kind : (c : ShardCall) (a : Answered) → Answers v c a → Kind a
  answer-kind (call.Create config now) a u = creates-kind config now (config_fault config) (live_in v.image config.name) a u
  answer-kind (call.Update config) a u = updates-kind config (config_fault config) (live_in v.image config.name) a u
  answer-kind (call.Remove name) a u = subst Kind (sym u) (removes-kind name (live_in v.image name))
  answer-kind (call.Publish name message now) a u = subst Kind (sym u) (publishes-kind name message now (live_in v.image name))
  answer-kind (call.Delete name seq) a u = subst Kind (sym u) (deletes-kind name seq (live_in v.image name))
  answer-kind (call.Purge name pattern below) a u = subst Kind (sym u) (purges-kind name pattern below (live_in v.image name))
  answer-kind (call.Expire name now) a u = subst Kind (sym u) (expires-kind name now (live_in v.image name))
  answer-kind (call.Get name which) a u = subst Kind (sym u) (gets-kind which (live_in v.image name))
  answer-kind (call.Info name) a u = subst Kind (sym u) (informs-kind name (live_in v.image name))
  answer-kind call.Names a u = subst Kind (sym u) tt
  answer-kind (call.MakeConsumer ask now) a u = subst Kind (sym u) (makes-kind now ask)
  answer-kind (call.Pump name budget now) a u = subst Kind (sym u) (pumps-kind name budget now (live_in v.image name))
  answer-kind (call.FlowReply packet) a u = subst Kind (sym u) (reply-kind packet)
  answer-kind (call.Reach node there now) a u = subst Kind (sym u) tt
  answer-kind (call.Heard packet now) a u = subst Kind (sym u) tt
  answer-kind (call.Tick now) a u = subst Kind (sym u) tt
  answer-kind call.LinkLost a u = subst Kind (sym u) tt

ground : (v : View) (c : ShardCall) (why : ShardRefusal) → Answers v c (Err why) → IsGround why
ground v c why a = answer-kind v c (Err why) a

-- a call that is refused is turned down so
pub turned-down : (v : View) (c : ShardCall) (why : ShardRefusal) → IsRefused v c why → TurnsDown v c why
turned-down v c (refusal.Of why) a = a
turned-down v c refusal.NoStream a = a
turned-down v c (refusal.BadConfig member) a = a
turned-down v c refusal.NameTaken a = a
turned-down v c refusal.TooManyStreams a = a
turned-down v c (refusal.OldAttempt kept seen) a = a
turned-down v c refusal.TooManyConsumers a = a
turned-down v c refusal.NoMessage a = a
turned-down v c (refusal.JournalFull end need) a = ground v c (refusal.JournalFull end need) a
turned-down v c (refusal.BadJournal place) a = ground v c (refusal.BadJournal place) a
turned-down v c refusal.NoMemory a = tt
turned-down v c refusal.DiskFault a = ground v c refusal.DiskFault a

-- the same of a refusal that is known to be answered
pub refused-down : (v : View) (c : ShardCall) (why : ShardRefusal) → Answers v c (Err why) → TurnsDown v c why
refused-down v c (refusal.Of why) a = a
refused-down v c refusal.NoStream a = a
refused-down v c (refusal.BadConfig member) a = a
refused-down v c refusal.NameTaken a = a
refused-down v c refusal.TooManyStreams a = a
refused-down v c (refusal.OldAttempt kept seen) a = a
refused-down v c refusal.TooManyConsumers a = a
refused-down v c refusal.NoMessage a = a
refused-down v c (refusal.JournalFull end need) a = ground v c (refusal.JournalFull end need) a
refused-down v c (refusal.BadJournal place) a = ground v c (refusal.BadJournal place) a
refused-down v c refusal.NoMemory a = tt
refused-down v c refusal.DiskFault a = ground v c refusal.DiskFault a
