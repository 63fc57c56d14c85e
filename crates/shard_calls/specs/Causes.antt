-- Where a disk failed in a call of a shard, and what its log counts of that.
use Rattle.std.specs.Prelude.{◌≡◌, ◌==◌, ℕ, Bool, true, false, MatchBool, Result, Ok, Err}
use Rattle.leaf_edges.specs.Causes.{RoseByOne}
use Rattle.record_log.specs.LogStates.{LogState}
use Rattle.record_log.specs.Opening.{OneRose, NoneRose}
use Rattle.shard_machine.specs.declared.reply.Outcome.{Outcome}
use Rattle.shard_machine.specs.declared.reply.Outcome.TheVariants as outcome
use Rattle.shard_machine.specs.declared.reply.ShardRefusal.{ShardRefusal}
use Rattle.shard_machine.specs.declared.reply.ShardRefusal.TheVariants as refusal
use Rattle.shard_machine.specs.declared.reply.ShardReply.{ShardReply}
use Rattle.shard_table.specs.declared.answered.Answered.{Answered}
use Rattle.shard_table.specs.declared.answered.Answered.TheVariants.{Done, Append}
use Rattle.shard_calls.specs.declared.adding.AddFault.{AddFault}
use Rattle.shard_calls.specs.declared.adding.AddFault.TheVariants.{Full, NoMemory, DiskFault}
use Rattle.shard_calls.specs.declared.doubt.Failure.{Failure}

-- no call of a disk failed: the counts of both disks stayed, and that of the log
abbrev pub NoneFailed : {D : Type 0} → (D → ℕ) → LogState D → LogState D → Type 0
NoneFailed faults old new = NoneRose faults old.main old.spare new.main new.spare × (new.faults ≡ old.faults)

-- one call of one of the disks failed: its count went up by one, and that of the log
abbrev pub OneFailed : {D : Type 0} → (D → ℕ) → LogState D → LogState D → Type 0
OneFailed faults old new = OneRose faults old.main old.spare new.main new.spare × RoseByOne old.faults new.faults

-- the refusal says that a disk failed
abbrev pub is_disk_fault : ShardRefusal → Bool
is_disk_fault refusal.DiskFault = true
is_disk_fault _ = false

-- the outcome says that a disk failed
abbrev pub is_fault : Outcome → Bool
is_fault (outcome.Refused why) = is_disk_fault why
is_fault _ = false

-- the refusal says that what a disk holds is no journal, or is too long to be read
abbrev pub is_unreadable : ShardRefusal → Bool
is_unreadable (refusal.BadJournal place) = true
is_unreadable (refusal.JournalFull end need) = need == 0
is_unreadable _ = false

-- the outcome says so
abbrev pub is_unread : Outcome → Bool
is_unread (outcome.Refused why) = is_unreadable why
is_unread _ = false

-- one call of one of the disks failed, or none did
abbrev pub FailedIf : {D : Type 0} → Bool → (D → ℕ) → LogState D → LogState D → Type 0
FailedIf failed faults old new = MatchBool failed (OneFailed faults old new) (NoneFailed faults old new)

-- A call is refused by DiskFault exactly where one call of a disk failed in it. Every other answer leaves the counts.
abbrev pub CallCauses : {D : Type 0} → (D → ℕ) → LogState D → LogState D → ShardReply → Type 0
CallCauses faults old new reply = FailedIf (is_fault reply.outcome) faults old new

-- the same of a load before a call
abbrev pub ReadyCauses : {D T : Type 0} → (D → ℕ) → LogState D → LogState D → Result T Failure → Type 0
ReadyCauses faults old new (Ok value) = NoneFailed faults old new
ReadyCauses faults old new (Err failure) = FailedIf (is_disk_fault failure.why) faults old new

-- the same of a record that is added
abbrev pub AddFails : {D T : Type 0} → (D → ℕ) → LogState D → LogState D → Result T AddFault → Type 0
AddFails faults old new (Ok value) = NoneFailed faults old new
AddFails faults old new (Err (Full end need)) = NoneFailed faults old new
AddFails faults old new (Err NoMemory) = NoneFailed faults old new
AddFails faults old new (Err DiskFault) = OneFailed faults old new

-- what a table answers says of no disk that it failed
abbrev pub tells_fault : Result Answered ShardRefusal → Bool
tells_fault (Ok (Done reply)) = is_fault reply.outcome
tells_fault (Ok (Append prepared)) = false
tells_fault (Err why) = is_disk_fault why
