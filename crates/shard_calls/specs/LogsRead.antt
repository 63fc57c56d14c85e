-- What comes of a call whose shard loads first, whatever its disks tell of what they hold.
use Rattle.std.specs.Prelude.{◌≡◌, ◌⊎◌, true, List, Option, Some, None, Result, Ok, Err}
use Rattle.record_codec.specs.declared.records.Rec.{Rec}
use Rattle.stream_fold.specs.declared.entry.Entry.{Entry}
use Rattle.shard_machine.specs.Images.{image}
use Rattle.shard_machine.specs.Legal.{IsLegal}
use Rattle.shard_machine.specs.Steps.{Held, end_after, entry_in_doubt, next_boot, refused}
use Rattle.shard_machine.specs.declared.call.ShardCall.{ShardCall}
use Rattle.shard_machine.specs.declared.reply.ShardRefusal.{ShardRefusal}
use Rattle.shard_machine.specs.declared.reply.ShardRefusal.TheVariants as refusal
use Rattle.shard_machine.specs.declared.reply.ShardReply.{ShardReply}
use Rattle.shard_calls.specs.declared.doubt.Failure.{Failure}
use Rattle.shard_calls.specs.FirstLoads.{has_opening, held_of, opened_log}
use Rattle.shard_calls.specs.Memories.{ShardState}
use Rattle.shard_calls.specs.Shards.{Keeps, StepsFrom}

-- what is held once a disk failed while the next opening of this log was appended
abbrev pub opening_doubted : Held → List Rec → Held
opening_doubted h log = record h { image = image log; doubt = Some (next_boot (image log)); end = end_after 17 log }

-- a shard that could not load holds what it held, or a disk failed while the next opening of a log that it read was appended
abbrev pub StaysUnloaded : Held → Held → Type 0
StaysUnloaded h after = (after ≡ h) ⊎ ((log : List Rec) × IsLegal log × (has_opening log ≡ true) × (after ≡ opening_doubted h log))

-- what keeps a shard from loading, and the entry that is told: where a disk failed, that of the record in doubt
abbrev pub IsLoadFault : Held → ShardRefusal → Option Entry → Type 0
IsLoadFault after (refusal.Of why) doubted = ⊥
IsLoadFault after refusal.NoStream doubted = ⊥
IsLoadFault after (refusal.BadConfig member) doubted = ⊥
IsLoadFault after refusal.NameTaken doubted = ⊥
IsLoadFault after refusal.TooManyStreams doubted = ⊥
IsLoadFault after (refusal.OldAttempt kept seen) doubted = ⊥
IsLoadFault after refusal.TooManyConsumers doubted = ⊥
IsLoadFault after refusal.NoMessage doubted = ⊥
IsLoadFault after (refusal.JournalFull end need) doubted = doubted ≡ None
IsLoadFault after (refusal.BadJournal place) doubted = doubted ≡ None
IsLoadFault after refusal.NoMemory doubted = doubted ≡ None
IsLoadFault after refusal.DiskFault doubted = doubted ≡ entry_in_doubt after.doubt

-- a shard could not load for this cause
pub record CannotRead {D : Type 0} (h : Held) (why : ShardRefusal) (doubted : Option Entry) (new : ShardState D) : Type 0 where
  pub after : Held
  pub stays : StaysUnloaded h after
  pub fault : IsLoadFault after why doubted
  pub keeps : Keeps new after

-- a shard read a log, and holds what it leaves with its next opening
pub record ReadsLog {D : Type 0} (h : Held) (new : ShardState D) : Type 0 where
  pub log : List Rec
  pub legal : IsLegal log
  pub room : has_opening log ≡ true
  pub keeps : Keeps new (held_of h.node (opened_log log))

-- what comes of a load
abbrev pub ReadsOrNot : {D T : Type 0} → Held → ShardState D → Result T Failure → Type 0
ReadsOrNot h new (Ok value) = ReadsLog h new
ReadsOrNot h new (Err failure) = CannotRead h failure.why failure.doubted new

-- A call whose shard loads first is refused by what kept the shard from loading, or it is a step from what the shard holds then: what
-- some log leaves with its next opening.
abbrev pub StepsFromRead : {D : Type 0} → ShardCall → ShardReply → ShardState D → Held → Type 0
StepsFromRead c reply new h = ((why : ShardRefusal) × (doubted : Option Entry) × (reply ≡ refused c why doubted) × CannotRead h why doubted new)
    ⊎ ((log : List Rec) × IsLegal log × (has_opening log ≡ true) × StepsFrom c reply new (held_of h.node (opened_log log)))
