use Rattle.shard_calls.proofs.TableKinds.{some-view}
use Rattle.shard_calls.proofs.memory.Memory.leave_in_doubt.Goals as goal

pub invariant_of-self : goal.invariant_of-self
invariant_of-self c = some-view c.self.inside.loaded c.self.inside.table c.self.invariant

pub returns-clause-entry : goal.returns-clause-entry
returns-clause-entry c = let some = c.requires in c.into_doubt-it.ensures.entry some.0 some.2 some.1 some.3 some.4.is_prepared
