use Rattle.shard_machine.specs.declared.call.ShardCall.TheVariants as call
use Rattle.shard_table.proofs.Grounds.{turned-down}
use Rattle.shard_table.proofs.table.Table.remove.Goals as goal

pub returns-in-Ok : goal.returns-in-Ok
returns-in-Ok c = λ v held. c.take.ensures v held (c.in-Ok.ensures v held.streams)

pub returns-in-Err : goal.returns-in-Err
returns-in-Err c = λ v held. (turned-down v (call.Remove c.args.name.now) c.in-Err.why (c.in-Err.ensures v held.streams), held)
