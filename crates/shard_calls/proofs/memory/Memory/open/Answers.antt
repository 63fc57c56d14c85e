use Rattle.std.proofs.Common.{◌+◌, List, ℕ, sym, ap, subst, arith}
use Rattle.record_codec.specs.declared.records.Rec.TheVariants.{Boot}
use Rattle.shard_machine.specs.Images.{image, next}
use Rattle.shard_machine.specs.Logs.{boot}
use Rattle.shard_table.specs.Effects.{opened}
use Rattle.shard_table.specs.Holding.{Holds, node_in}
use Rattle.shard_table.specs.declared.table.Table.{Table}
use Rattle.shard_calls.specs.Memories.{MemoryParts}
use Rattle.shard_calls.proofs.Reopened.{reopened}
use Rattle.shard_calls.proofs.memory.Memory.open.Goals as goal

pub invariant_of-self : goal.invariant_of-self
invariant_of-self c =
    let some = c.requires in
    record {
      view = opened (node_in c.self.inside.table) (next (image some.0) (Boot (boot some.0 + 1)));
      holds = reopened _ _ (node_in c.self.inside.table) some.0 (c.reload.ensures.held some.0 some.1 some.2) c.open.ensures.held some.3;
      booted = omega arith;
    }

pub returns-clause-holds : goal.returns-clause-holds
returns-clause-holds c v log holds legal replayed small =
    let held = subst (λ (t : Table). Holds t v) (sym (ap (λ (m : MemoryParts). m.table) c.self.view_is)) holds in
    subst (λ (node : List ℕ). Holds c.open.new.self (opened node (next (image log) (Boot (boot log + 1))))) held.askers.node (reopened _ _ (node_in c.self.inside.table) log (c.reload.ensures.held log legal replayed) c.open.ensures.held small)
