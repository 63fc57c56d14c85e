use Rattle.std.proofs.Common.{sym, subst}
use Rattle.shard_machine.specs.Steps.{view_in}
use Rattle.shard_table.specs.Holding.{Holds}
use Rattle.shard_calls.specs.Memories.{ShardState}
use Rattle.shard_calls.proofs.TableKinds.{kept-table}
use Rattle.shard_calls.proofs.shard.Shard.copy.Goals as goal

pub returns-then-is_loaded-clause-loaded : goal.returns-then-is_loaded-clause-loaded
returns-then-is_loaded-clause-loaded g c h keeps on = c.copy.ensures (view_in h) (subst (λ (s : ShardState g.row.D.Denot). Holds s.memory.table (view_in h)) (sym c.self.view_is) (kept-table c.args.self.now h keeps on))
