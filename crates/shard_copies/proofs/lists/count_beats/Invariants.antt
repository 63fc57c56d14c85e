use Rattle.std.proofs.Common.{◌≡◌, ◌++◌, map, take, drop}
use Rattle.push_consumer.specs.Progress.{after_beat}
use Rattle.shard_copies.proofs.lists.count_beats.Given as goal

-- the beats of those that were looked at count as sent
abbrev pub invariant-loop-consumer : goal.invariant-loop-consumer
invariant-loop-consumer l = l.all ≡ map (after_beat l.now) (take l.consumer-index l.initial.all) ++ drop l.consumer-index l.initial.all
