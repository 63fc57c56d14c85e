-- What a call is refused that could not read the disks.
use Rattle.std.specs.Prelude.{Option, None}
use Rattle.stream_fold.specs.declared.entry.Entry.{Entry}
use Rattle.record_log.specs.declared.fault.OpenFault.{OpenFault}
use Rattle.record_log.specs.declared.fault.OpenFault.TheVariants as open_as
use Rattle.shard_machine.specs.declared.reply.ShardRefusal.TheVariants as refusal
use Rattle.shard_calls.specs.declared.doubt.Failure.{Failure}

-- the refusal, and the entry that stays in doubt where a disk failed
abbrev pub failure : OpenFault → Option Entry → Failure
failure open_as.ReadFault doubted = record { why = refusal.DiskFault; doubted = doubted }
failure open_as.SyncFault doubted = record { why = refusal.DiskFault; doubted = doubted }
failure (open_as.BadJournal place) doubted = record { why = refusal.BadJournal place; doubted = None }
failure (open_as.TooLong len) doubted = record { why = refusal.JournalFull len 0; doubted = None }
failure open_as.NoMemory doubted = record { why = refusal.NoMemory; doubted = None }
