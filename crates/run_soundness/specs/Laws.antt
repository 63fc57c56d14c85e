-- What holds of every run, and of every event.
use Rattle.std.specs.Prelude.{◌≡◌, ℕ, ◌≤◌, ⊤, List, ◌++◌, Option, Some, ◌⊎◌, [], ◌∷◌, None, true}
use Rattle.nats_text.specs.declared.origin.Origin.{Origin}
use Rattle.stream_fold.specs.declared.config.Config.{Config}
use Rattle.stream_fold.specs.declared.config.Copies.{Copies}
use Rattle.stream_fold.specs.declared.config.Copies.TheVariants.{Nothing, Mirror, Sources}
use Rattle.stream_fold.specs.declared.entry.Entry.{Entry}
use Rattle.stream_fold.specs.Copying.{front, mark, origin_named}
use Rattle.stream_fold.specs.Histories.{History}
use Rattle.record_codec.specs.declared.records.Rec.{Rec}
use Rattle.shard_machine.specs.Logs.{Made, made}
use Rattle.run_soundness.specs.Worlds.{World, shard_of, Event, Run, IsEmpty, Call, Cut, Join, Crash, CrashWithin, Begin, MayCall, Calls, Happens}
use Rattle.run_soundness.specs.Soundness.{Sound}
use Rattle.js_wire.specs.declared.packet.AskerId.{AskerId}
use Rattle.js_wire.specs.declared.packet.Packet.{Packet}
use Rattle.shard_machine.specs.declared.call.ShardCall.{ShardCall}
use Rattle.shard_machine.specs.declared.call.ShardCall.TheVariants as call
use Rattle.shard_machine.specs.declared.reply.Outcome.{Outcome}
use Rattle.shard_machine.specs.declared.reply.Outcome.TheVariants as outcome
use Rattle.shard_machine.specs.declared.reply.ShardReply.{ShardReply}
use Rattle.shard_machine.specs.Images.{image, image_after}
use Rattle.shard_machine.specs.Answers.{addressee}
use Rattle.shard_machine.specs.Steps.{IsSettled, next_boot}
use Rattle.run_soundness.specs.Shards.{ShardState}

-- every run from a world without nodes leads to a world that is sound
abbrev pub WorldsSound : Type 0
WorldsSound = (first : World) (events : List Event) (w : World) → IsEmpty first → Run first events w → Sound w

-- ---- how far copies have come

-- a copy has come at least as far: the front of a mirror, the mark of a source
abbrev pub NoLess : Copies → ℕ → Origin → History → History → Type 0
NoLess Nothing index want earlier later = ⊤
NoLess (Mirror origin) index want earlier later = front want.start earlier.entries ≤ front want.start later.entries
NoLess (Sources origins) index want earlier later = mark index earlier ≤ mark index later

-- a stream that was made is there in this log too, its history goes on, and each of its copies has come at
-- least as far
pub record NeverBack (earlier : Made) (log : List Rec) (name : List ℕ) (incarnation : ℕ) : Type 0 where
  pub later : Made
  pub there : made log name incarnation ≡ Some later
  pub rest : List Entry
  pub goes_on : later.history.entries ≡ earlier.history.entries ++ rest
  pub points : (index : ℕ) (want : Origin) → origin_named index earlier.history.config.copies ≡ Some want → NoLess earlier.history.config.copies index want earlier.history later.history

-- no stream that was ever made goes away or back, nor do its copies, whatever happens, crashes included
abbrev pub PointsNeverGoBack : Type 0
PointsNeverGoBack = (first w v : World) (before after : List Event) → IsEmpty first → Run first before w → Run w after v →
    (node : List ℕ) (k : ℕ) (name : List ℕ) (incarnation : ℕ) (m : Made) → made (w.shard node k).log name incarnation ≡ Some m →
    NeverBack m (v.shard node k).log name incarnation

-- ---- what was acknowledged

-- the call was answered, and not refused
abbrev pub IsAccepted : Outcome → Type 0
IsAccepted (outcome.Made fresh) = ⊤
IsAccepted outcome.Updated = ⊤
IsAccepted outcome.Removed = ⊤
IsAccepted (outcome.Stored seq) = ⊤
IsAccepted (outcome.Duplicate seq) = ⊤
IsAccepted outcome.Deleted = ⊤
IsAccepted (outcome.Purged count) = ⊤
IsAccepted (outcome.Expired count) = ⊤
IsAccepted (outcome.Found row) = ⊤
IsAccepted (outcome.Info facts) = ⊤
IsAccepted (outcome.Listed names) = ⊤
IsAccepted (outcome.Consumer name) = ⊤
IsAccepted outcome.Sent = ⊤
IsAccepted (outcome.Heard decision) = ⊤
IsAccepted (outcome.Refused why) = ⊥

-- the stream of an asker
abbrev pub stream_of : Option AskerId → Option (List ℕ)
stream_of None = None
stream_of (Some asker) = Some asker.stream

-- the stream in which a call writes an entry, where it writes one
abbrev pub written_to : ShardCall → Option (List ℕ)
written_to (call.Create config now) = None
written_to (call.Update config) = Some config.name
written_to (call.Remove stream) = None
written_to (call.Publish stream message now) = Some stream
written_to (call.Delete stream seq) = Some stream
written_to (call.Purge stream pattern below) = Some stream
written_to (call.Expire stream now) = Some stream
written_to (call.Get stream which) = None
written_to (call.Info stream) = None
written_to call.Names = None
written_to (call.MakeConsumer ask now) = None
written_to (call.Pump stream budget now) = None
written_to (call.FlowReply packet) = None
written_to (call.Reach node there now) = None
written_to (call.Heard packet now) = stream_of (addressee packet)
written_to (call.Tick now) = None
written_to call.LinkLost = None

-- The entry is the last one of a stream of the first log, and the same stream has it behind the same entries in
-- the later log.
pub record Survives (first later : List Rec) (name : List ℕ) (e : Entry) : Type 0 where
  pub incarnation : ℕ
  pub stream : Made
  pub made_then : made first name incarnation ≡ Some stream
  pub earlier : List Entry
  pub entry : stream.history.entries ≡ earlier ++ e ∷ []
  pub stream_later : Made
  pub made_later : made later name incarnation ≡ Some stream_later
  pub rest : List Entry
  pub entries : stream_later.history.entries ≡ earlier ++ e ∷ rest

-- a load, or what a load that failed leaves, is all that joins the log
pub record OnlyLoads (old new : ShardState) : Type 0 where
  pub settled : List Rec
  pub in_or_out : IsSettled old.held.doubt settled
  pub records : List Rec
  pub log : new.log ≡ old.log ++ records
  pub are : (records ≡ []) ⊎ ((records ≡ settled) ⊎ (records ≡ settled ++ next_boot (image_after old.held.image settled) ∷ []))

-- What a call does to the log of its shard, from before it to any later world: the log only grows, and a shard
-- holds the image of its log; the entry of an accepted call is there in all later worlds, in its stream; and a
-- call that was refused has added no record of its own.
pub record Lasts (c : ShardCall) (reply : ShardReply) (old new later : ShardState) : Type 0 where
  pub more : List Rec
  pub grows : later.log ≡ new.log ++ more
  pub image_is : later.held.image ≡ image later.log
  pub survives : (e : Entry) → IsAccepted reply.outcome → reply.entry ≡ Some e → (name : List ℕ) × (written_to c ≡ Some name) × Survives new.log later.log name e
  pub refused : (IsAccepted reply.outcome → ⊥) → OnlyLoads old new

-- what was acknowledged lasts in each run
abbrev pub AcknowledgedSurvives : Type 0
AcknowledgedSurvives = (first old new later : World) (before after : List Event) (node : List ℕ) (k : ℕ) (c : ShardCall) (reply : ShardReply) →
    IsEmpty first → Run first before old → Calls old node k c reply new → Run new after later → Lasts c reply (old.shard node k) (new.shard node k) (later.shard node k)

-- ---- what is shown

-- Two worlds show the same now: they differ in what was ever sent, in the logs for which their shards stand and in
-- consumers that were made at most.
pub record ShowsSame (w v : World) : Type 0 where
  pub nodes : v.nodes ≡ w.nodes
  pub joined : (n : List ℕ) → v.joined n ≡ w.joined n
  pub held : (n : List ℕ) (k : ℕ) → (v.shard n k).held ≡ (w.shard n k).held

-- the packet that an event takes, if it takes one, is in this bag
abbrev pub TakesFrom : List Packet → Event → Type 0
TakesFrom bag (Call node k c reply) = MayCall bag c node k
TakesFrom bag (Cut node) = ⊤
TakesFrom bag (Join node) = ⊤
TakesFrom bag (Crash node) = ⊤
TakesFrom bag (CrashWithin node k c) = MayCall bag c node k
TakesFrom bag (Begin node) = ⊤

-- the event leads from this world to one that shows the same
pub record LeadsAlike (w : World) (e : Event) (shown : World) : Type 0 where
  pub next : World
  pub happens : Happens w e next
  pub same : ShowsSame shown next

-- An event that takes no packet, or one that was sent, leads from what is shown to the same again, whatever else
-- was ever sent, whichever consumers were made, and whatever the logs are of which the shards hold the images.
abbrev pub ShownIsEnough : Type 0
ShownIsEnough = (w next other : World) (e : Event) → Happens w e next → ShowsSame w other → TakesFrom other.bag e → LeadsAlike other e next

-- ---- a run that happens

-- a run from a world without nodes in which a node is made, makes a stream and crashes
pub record ARun : Type 0 where
  pub first : World
  pub last : World
  pub node : List ℕ
  pub config : Config
  pub reply : ShardReply
  pub empty : IsEmpty first
  pub run : Run first (Begin node ∷ Call node (shard_of config.name) (call.Create config 0) reply ∷ Crash node ∷ []) last
  pub accepted : reply.outcome ≡ outcome.Made true

-- there is one, so that the laws of all runs speak of something
abbrev pub RunsHappen : Type 0
RunsHappen = ARun
