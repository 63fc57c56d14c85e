use Rattle.std.proofs.Common.{◌≡◌, ◌++◌, take}
use Rattle.std.specs.Prelude.{flat_map}
use Rattle.shard_machine.specs.Answers.{consumers_of}
use Rattle.shard_copies.proofs.Beating.{beats_in}
use Rattle.shard_copies.proofs.consumers.Consumers.add_beats.Given as goal

-- the beats of those that were looked at are there
abbrev pub invariant-loop-consumer : goal.invariant-loop-consumer
invariant-loop-consumer l = record {
  whole : l.consumer-items ≡ l.self.all;
  packets : l.packets ≡ l.initial.packets ++ flat_map (beats_in l.now) (consumers_of l.name (take l.consumer-index l.consumer-items));
}
