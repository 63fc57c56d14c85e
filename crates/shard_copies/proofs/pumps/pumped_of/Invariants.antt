use Rattle.std.proofs.Common.{◌≡◌, map, take}
use Rattle.std.specs.Prelude.{flat_map}
use Rattle.push_consumer.specs.Pumps.{pump_packets, pumped}
use Rattle.shard_machine.specs.Answers.{consumers_of}
use Rattle.shard_copies.proofs.pumps.pumped_of.Given as goal

-- those of the stream that were looked at have been pumped
abbrev pub invariant-loop-consumer : goal.invariant-loop-consumer
invariant-loop-consumer l = record {
  packets : l.packets ≡ flat_map (pump_packets l.state.held.rows l.budget) (consumers_of l.name (take l.consumer-index l.all));
  consumers : l.consumers.items ≡ map (pumped l.state.held.rows l.budget l.now) (consumers_of l.name (take l.consumer-index l.all));
}
