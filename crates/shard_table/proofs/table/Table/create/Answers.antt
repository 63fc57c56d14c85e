use Rattle.shard_machine.specs.declared.call.ShardCall.TheVariants as call
use Rattle.shard_table.proofs.Grounds.{turned-down}
use Rattle.shard_table.proofs.table.Table.create.Goals as goal

pub create_as-requires : goal.create_as-requires
create_as-requires c = let (v, held) = c.requires in (v, held, c.in-Ok.ensures v c.args.now held.streams)

pub returns-in-Ok : goal.returns-in-Ok
returns-in-Ok c = λ v held. c.create_as.ensures v held (c.in-Ok.ensures v c.args.now held.streams)

pub returns-in-Err : goal.returns-in-Err
returns-in-Err c = λ v held. (turned-down v (call.Create c.args.config.now c.args.now) c.in-Err.why (c.in-Err.ensures v c.args.now held.streams), held)
