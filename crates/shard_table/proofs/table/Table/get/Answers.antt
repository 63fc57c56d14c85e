use Rattle.shard_machine.specs.declared.call.ShardCall.TheVariants as call
use Rattle.shard_machine.specs.declared.reply.Outcome.TheVariants as outcome
use Rattle.shard_table.proofs.Doing.{does-reads}
use Rattle.shard_table.proofs.Grounds.{turned-down}
use Rattle.shard_table.proofs.table.Table.get.Goals as goal

pub returns-in-Ok : goal.returns-in-Ok
returns-in-Ok c = λ v held. does-reads v (call.Get c.args.name.now c.args.which.now) (outcome.Found c.in-Ok.row) c.with_outcome.result c.args.self.now (c.in-Ok.ensures v held.streams) c.with_outcome.ensures held

pub returns-in-Err : goal.returns-in-Err
returns-in-Err c = λ v held. (turned-down v (call.Get c.args.name.now c.args.which.now) c.in-Err.why (c.in-Err.ensures v held.streams), held)
