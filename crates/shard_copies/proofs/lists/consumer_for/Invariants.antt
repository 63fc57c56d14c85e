use Rattle.std.proofs.Common.{◌≡◌, drop}
use Rattle.std.specs.Prelude.{find}
use Rattle.shard_machine.specs.Answers.{serves}
use Rattle.shard_copies.proofs.lists.consumer_for.Given as goal

-- none of those that were looked at serves the asker
abbrev pub invariant-loop-consumer : goal.invariant-loop-consumer
invariant-loop-consumer l = find (serves l.name l.asker) (drop l.consumer-index l.all) ≡ find (serves l.name l.asker) l.all
