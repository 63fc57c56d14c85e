use Rattle.shard_machine.specs.declared.call.ShardCall.TheVariants as call
use Rattle.shard_table.proofs.Grounds.{turned-down}
use Rattle.shard_table.proofs.table.Table.purge.Goals as goal

pub write-requires : goal.write-requires
write-requires c = let (v, held) = c.requires in (v, call.Purge c.args.name.now c.args.pattern.now c.args.below, held, c.in-Ok.ensures v held.streams)

pub returns-in-Ok : goal.returns-in-Ok
returns-in-Ok c = λ v held. c.write.ensures v (call.Purge c.args.name.now c.args.pattern.now c.args.below) held (c.in-Ok.ensures v held.streams)

pub returns-in-Err : goal.returns-in-Err
returns-in-Err c = λ v held. (turned-down v (call.Purge c.args.name.now c.args.pattern.now c.args.below) c.in-Err.why (c.in-Err.ensures v held.streams), held)
