use Rattle.std.proofs.Common.{◌≡◌, ◌++◌, map, take, drop}
use Rattle.shard_machine.specs.Answers.{paused_for}
use Rattle.shard_copies.proofs.lists.pause_for.Given as goal

-- those that were looked at go on, or pause
abbrev pub invariant-loop-consumer : goal.invariant-loop-consumer
invariant-loop-consumer l = l.all ≡ map (paused_for l.node l.there) (take l.consumer-index l.initial.all) ++ drop l.consumer-index l.initial.all
