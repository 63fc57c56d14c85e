use Rattle.std.proofs.Common.{sym, subst}
use Rattle.shard_machine.specs.declared.call.ShardCall.TheVariants as call
use Rattle.shard_table.specs.declared.answered.Prepared.{Prepared}
use Rattle.shard_table.specs.Answering.{Prepares}
use Rattle.shard_table.proofs.Preparing.{prepares-takes}
use Rattle.shard_table.proofs.table.Table.take.Goals as goal

pub returns-in-Ok : goal.returns-in-Ok
returns-in-Ok c = λ v held takes. subst (λ (p : Prepared). Prepares v (call.Remove c.args.name.now) p c.args.self.now) (sym c.in-Ok.ensures) (prepares-takes v c.args.name.now c.args.self.now takes held)

pub returns-in-Err : goal.returns-in-Err
returns-in-Err c = λ v held takes. (tt, held)
