use Rattle.std.proofs.Common.{◌≡◌, List, take, map}
use Rattle.record_codec.specs.declared.records.Rec.{Rec}
use Rattle.record_codec.specs.Spelling.{spelling}
use Rattle.shard_machine.specs.Legal.{IsLogOf}
use Rattle.log_replay.specs.Replays.{IsReplayOf}
use Rattle.log_replay.proofs.replay.read_log.Given as goal

-- the bodies so far are a log, and this is held of it
abbrev pub invariant-loop-index : goal.invariant-loop-index
invariant-loop-index l = (log : List Rec) × IsLogOf log (take l.index l.bodies) × IsReplayOf l.replay log × (take l.index l.bodies ≡ map spelling log)
