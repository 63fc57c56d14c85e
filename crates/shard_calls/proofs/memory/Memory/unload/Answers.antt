use Rattle.shard_calls.proofs.TableKinds.{some-view}
use Rattle.shard_calls.proofs.memory.Memory.unload.Goals as goal

pub invariant_of-self : goal.invariant_of-self
invariant_of-self c = some-view c.self.inside.loaded c.self.inside.table c.self.invariant
