use Rattle.std.proofs.Common.{arith, cond}
use Rattle.shard_machine.specs.Answers.{paused_for}
use Rattle.shard_copies.proofs.Steps.{map-step}
use Rattle.shard_copies.proofs.lists.pause_for.Goals as goal

pub loop-consumer-preserved : goal.loop-consumer-preserved
loop-consumer-preserved c = map-step (paused_for c.args.node.now c.args.there) c.args.all.now c.loop-consumer.all c.loop-consumer.consumer-index c.consumer-item.result c.pause_if.new.consumer (omega arith) c.loop-consumer.invariant c.consumer-item.is c.pause_if.ensures
