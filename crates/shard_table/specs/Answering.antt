-- What a table answers, and what it prepares for a call that makes a record.
use Rattle.std.specs.Prelude.{◌≡◌, ◌⊎◌, ⊤, ℕ, ◌≤◌, true, List, [], ◌∷◌, Option, None, Some, Result, Ok, Err, map}
use Rattle.js_wire.specs.declared.packet.Packet.{Packet}
use Rattle.stream_fold.specs.declared.config.Config.{Config}
use Rattle.stream_fold.specs.declared.decision.Decision.{Decision}
use Rattle.stream_fold.specs.declared.decision.Decision.TheVariants.{Store, Bind as Binding}
use Rattle.stream_fold.specs.declared.entry.Entry.{Entry}
use Rattle.record_codec.specs.declared.records.Rec.{Rec}
use Rattle.record_codec.specs.declared.records.Rec.TheVariants.{Create, Remove}
use Rattle.tap_row.specs.declared.notice.Notice.{Notice}
use Rattle.tap_row.specs.declared.notice.Notice.TheVariants.{Bound as BoundNotice}
use Rattle.shard_machine.specs.declared.call.ShardCall.{ShardCall}
use Rattle.shard_machine.specs.declared.call.ShardCall.TheVariants as call
use Rattle.shard_machine.specs.declared.reply.Outcome.{Outcome}
use Rattle.shard_machine.specs.declared.reply.ShardRefusal.{ShardRefusal}
use Rattle.shard_machine.specs.declared.reply.ShardRefusal.TheVariants as refusal
use Rattle.shard_machine.specs.declared.reply.ShardReply.{ShardReply}
use Rattle.shard_machine.specs.Images.{NameFacts, MayFollowImage, live_in}
use Rattle.shard_machine.specs.Views.{View, Effect, Copy, asks_of, copies_under, writes}
use Rattle.shard_machine.specs.Answers.{Answers, addressee, copy_of_asker, creates, decided_by, hears, removes, with_record}
use Rattle.shard_machine.specs.Steps.{has_number}
use Rattle.shard_streams.specs.declared.halves.PreparedCreate.{PreparedCreate}
use Rattle.shard_streams.specs.declared.halves.PreparedEntry.{PreparedEntry}
use Rattle.shard_streams.specs.Halves.{IsMadeReady, IsPrepared as IsEntryReady}
use Rattle.shard_copies.specs.Asked.{AskingState, AreKept, asked_of}
use Rattle.shard_table.specs.declared.answered.Answered.{Answered}
use Rattle.shard_table.specs.declared.answered.Answered.TheVariants.{Done, Append}
use Rattle.shard_table.specs.declared.answered.Prepared.{Prepared}
use Rattle.shard_table.specs.declared.answered.Prepared.TheVariants.{Writes, Stores, Binds, Makes, Takes}
use Rattle.shard_table.specs.declared.table.Table.{Table}
use Rattle.shard_table.specs.Effects.{effected}
use Rattle.shard_table.specs.Holding.{Holds}

-- ---- prepared calls

-- the record that a call is to append
abbrev pub record_in : Prepared → Rec
record_in (Writes entry outcome) = entry.rec
record_in (Stores entry decision) = entry.rec
record_in (Binds entry decision notices) = entry.rec
record_in (Makes stream asking) = stream.rec
record_in (Takes name removal) = removal

-- an entry of a stream that stands is ready, and the call does nothing else
pub record WritesReady (t : Table) (entry : PreparedEntry) (outcome : Outcome) (v : View) (e : Effect) : Type 0 where
  pub name : List ℕ
  pub change : Entry
  pub known : NameFacts
  pub stands : live_in v.image name ≡ Some known
  pub ready : IsEntryReady t.streams.replay entry name change
  pub does : e ≡ writes v name known.stream change outcome

-- a stream is ready, and what its copies ask once it stands
pub record MakesReady (t : Table) (stream : PreparedCreate) (asking : AskingState) (v : View) (e : Effect) : Type 0 where
  pub config : Config
  pub now : ℕ
  pub ready : IsMadeReady t.streams.replay stream config now
  pub kept : AreKept t.askers asking
  pub packets : asking.packets ≡ asks_of (with_record v (Create now config)) (copies_under (with_record v (Create now config)).image config.name)
  pub asked : asking.askers ≡ map (asked_of (with_record v (Create now config)) now) (copies_under (with_record v (Create now config)).image config.name)
  pub does : e ≡ creates v config now

-- a stream stands that is to go
pub record TakesReady (name : List ℕ) (removal : Rec) (v : View) (e : Effect) : Type 0 where
  pub known : NameFacts
  pub stands : live_in v.image name ≡ Some known
  pub record_is : removal ≡ Remove name
  pub does : Ok e ≡ removes v name (Some known)

-- the packet of the call is for this copy, which decided so
pub record IsDecided (decision : Decision) (v : View) (called : ShardCall) (c : Copy) (packet : Packet) (now : ℕ) (e : Effect) : Type 0 where
  pub call_is : called ≡ call.Heard packet now
  pub copy : copy_of_asker v (addressee packet) ≡ Some c
  pub decided : decision ≡ decided_by c.facts.config.copies v c now packet
  pub does : e ≡ hears v now packet (Some c)

-- the entry that a decision brings is ready
pub record HearsReady (t : Table) (entry : PreparedEntry) (decision : Decision) (change : Entry) (v : View) (called : ShardCall) (e : Effect) : Type 0 where
  pub copy : Copy
  pub packet : Packet
  pub now : ℕ
  pub decided : IsDecided decision v called copy packet now e
  pub known : NameFacts
  pub stands : live_in v.image copy.stream ≡ Some known
  pub facts_are : copy.facts ≡ known.stream
  pub ready : IsEntryReady t.streams.replay entry copy.stream change

-- the copy stores a message
pub record StoresReady (t : Table) (entry : PreparedEntry) (decision : Decision) (v : View) (called : ShardCall) (e : Effect) : Type 0 where
  pub change : Entry
  pub brings : decision ≡ Store change
  pub hears : HearsReady t entry decision change v called e

-- the copy binds itself, of which the taps are told
pub record BindsReady (t : Table) (entry : PreparedEntry) (decision : Decision) (notices : List Notice) (v : View) (called : ShardCall) (e : Effect) : Type 0 where
  pub change : Entry
  pub brings : decision ≡ Binding change
  pub hears : HearsReady t entry decision change v called e
  pub told : notices ≡ BoundNotice hears.copy.stream hears.copy.index ∷ []

-- What is prepared for a call is this effect of it, and is ready in the table.
abbrev pub IsPrepared : Table → Prepared → View → ShardCall → Effect → Type 0
IsPrepared t (Writes entry outcome) v called e = WritesReady t entry outcome v e
IsPrepared t (Stores entry decision) v called e = StoresReady t entry decision v called e
IsPrepared t (Binds entry decision notices) v called e = BindsReady t entry decision notices v called e
IsPrepared t (Makes stream asking) v called e = MakesReady t stream asking v e
IsPrepared t (Takes name removal) v called e = TakesReady name removal v e

-- ---- answers

-- the call makes no record, and its effect is done
pub record Does (v : View) (called : ShardCall) (reply : ShardReply) (new : Table) : Type 0 where
  pub effect : Effect
  pub answers : Answers v called (Ok effect)
  pub none : effect.records ≡ []
  pub replies : reply ≡ effect.reply
  pub becomes : Holds new (effected v effect)

-- The call is to append a record, and the rest of its effect is ready. The record may follow where the log
-- was opened and the numbers that it makes are below 2^63.
pub record Prepares (v : View) (called : ShardCall) (prepared : Prepared) (new : Table) : Type 0 where
  pub effect : Effect
  pub answers : Answers v called (Ok effect)
  pub one : effect.records ≡ record_in prepared ∷ []
  pub is_prepared : IsPrepared new prepared v called effect
  pub follows : 1 ≤ v.image.boot → has_number v.image (record_in prepared) ≡ true → MayFollowImage v.image (record_in prepared)
  pub same : Holds new v

-- The call is refused so; want of memory has no cause in the view. What comes of a disk is no refusal of a table.
abbrev pub TurnsDown : View → ShardCall → ShardRefusal → Type 0
TurnsDown v called (refusal.Of why) = Answers v called (Err (refusal.Of why))
TurnsDown v called refusal.NoStream = Answers v called (Err refusal.NoStream)
TurnsDown v called (refusal.BadConfig member) = Answers v called (Err (refusal.BadConfig member))
TurnsDown v called refusal.NameTaken = Answers v called (Err refusal.NameTaken)
TurnsDown v called refusal.TooManyStreams = Answers v called (Err refusal.TooManyStreams)
TurnsDown v called (refusal.OldAttempt kept seen) = Answers v called (Err (refusal.OldAttempt kept seen))
TurnsDown v called refusal.TooManyConsumers = Answers v called (Err refusal.TooManyConsumers)
TurnsDown v called refusal.NoMessage = Answers v called (Err refusal.NoMessage)
TurnsDown v called (refusal.JournalFull end need) = ⊥
TurnsDown v called (refusal.BadJournal place) = ⊥
TurnsDown v called refusal.NoMemory = ⊤
TurnsDown v called refusal.DiskFault = ⊥

-- what a call of a table gives: all is done, a record is to be appended first, or a refusal
abbrev pub Gives : View → ShardCall → Result Answered ShardRefusal → Table → Type 0
Gives v called (Ok (Done reply)) new = Does v called reply new
Gives v called (Ok (Append prepared)) new = Prepares v called prepared new
Gives v called (Err why) new = TurnsDown v called why × Holds new v

-- ---- commits

-- A prepared call may be committed: the table holds the view, and the record may follow its image.
pub record MayCommit (t : Table) (prepared : Prepared) (v : View) (called : ShardCall) (e : Effect) : Type 0 where
  pub is_prepared : IsPrepared t prepared v called e
  pub holds : Holds t v
  pub follows : MayFollowImage v.image (record_in prepared)

-- the call is done
pub record Commits (v : View) (e : Effect) (reply : ShardReply) (new : Table) : Type 0 where
  pub replies : reply ≡ e.reply
  pub becomes : Holds new (effected v e)
