use Rattle.std.proofs.Common.{sym, ap, subst}
use Rattle.shard_table.specs.Holding.{Holds}
use Rattle.shard_table.specs.declared.table.Table.{Table}
use Rattle.shard_calls.specs.Memories.{MemoryParts}
use Rattle.shard_calls.proofs.memory.Memory.boot.Goals as goal

pub returns : goal.returns
returns c v holds = c.boot.ensures v (subst (λ (t : Table). Holds t v) (sym (ap (λ (m : MemoryParts). m.table) c.self.view_is)) holds)
