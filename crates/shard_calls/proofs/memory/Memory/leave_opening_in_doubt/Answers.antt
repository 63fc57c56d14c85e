use Rattle.shard_machine.specs.Images.{image}
use Rattle.shard_table.specs.Effects.{opened}
use Rattle.shard_table.specs.Holding.{node_in}
use Rattle.shard_calls.proofs.memory.Memory.leave_opening_in_doubt.Goals as goal

pub invariant_of-self : goal.invariant_of-self
invariant_of-self c = let some = c.requires in (opened (node_in c.self.inside.table) (image some.0), c.reload.ensures.held some.0 some.1 some.2)
