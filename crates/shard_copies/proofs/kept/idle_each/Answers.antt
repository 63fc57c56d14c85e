use Rattle.std.proofs.Common.{arith, cond}
use Rattle.replica_ask.specs.Askers.{AskerState, with_phase}
use Rattle.replica_ask.specs.declared.phase.Phase.TheVariants.{Idle}
use Rattle.shard_copies.proofs.Steps.{map-step}
use Rattle.shard_copies.proofs.kept.idle_each.Goals as goal

pub loop-asker-preserved : goal.loop-asker-preserved
loop-asker-preserved c = map-step (λ (a : AskerState). with_phase a Idle) c.args.all.now c.loop-asker.all c.loop-asker.asker-index c.asker-item.result c.lost_link.new.self (omega arith) c.loop-asker.invariant c.asker-item.is c.lost_link.ensures
