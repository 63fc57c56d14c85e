use Rattle.std.proofs.Common.{arith, cond}
use Rattle.push_consumer.specs.Progress.{ConsumerState}
use Rattle.replica_ask.specs.Orders.{same_stamp}
use Rattle.shard_machine.specs.Answers.{reads_stream, takes_token}
use Rattle.shard_copies.proofs.Steps.{map-step}
use Rattle.shard_copies.proofs.lists.take_reply.Goals as goal

pub loop-consumer-preserved : goal.loop-consumer-preserved
loop-consumer-preserved c = map-step (λ (x : ConsumerState). cond (reads_stream c.args.name.now x) (cond (same_stamp x.name c.args.stamp) (takes_token c.args.token x) x) x) c.args.all.now c.loop-consumer.all c.loop-consumer.consumer-index c.consumer-item.result c.take_if_named.new.consumer (omega arith) c.loop-consumer.invariant c.consumer-item.is c.take_if_named.ensures
