use Rattle.std.proofs.Common.{All, List}
use Rattle.record_codec.specs.declared.records.Rec.{Rec}
use Rattle.log_replay.specs.Replays.{IsReplayOf}
use Rattle.shard_store.proofs.Listing.{IsFound, SoFar, standing_names}
use Rattle.shard_store.proofs.list.streams.Given as goal

-- each entry that is left is found under its key, and those before it were shown
abbrev pub invariant-loop-known : goal.invariant-loop-known
invariant-loop-known l = record {
  left : All (IsFound l.replay.names) l.known-iterator;
  shown : (log : List Rec) → IsReplayOf l.replay log → SoFar log (standing_names l.known-iterator) (standing_names l.replay.names.entries) l.shown;
}
