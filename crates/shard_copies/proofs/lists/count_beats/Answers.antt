use Rattle.std.proofs.Common.{arith, cond}
use Rattle.push_consumer.specs.Progress.{after_beat}
use Rattle.shard_copies.proofs.Steps.{map-step}
use Rattle.shard_copies.proofs.lists.count_beats.Goals as goal

pub loop-consumer-preserved : goal.loop-consumer-preserved
loop-consumer-preserved c = map-step (after_beat c.args.now) c.args.all.now c.loop-consumer.all c.loop-consumer.consumer-index c.consumer-item.result c.beaten.new.self (omega arith) c.loop-consumer.invariant c.consumer-item.is c.beaten.ensures
