use Rattle.std.proofs.Common.{arith, cond}
use Rattle.std.specs.Str.{bytes_eq}
use Rattle.replica_ask.specs.Askers.{AskerState, with_phase}
use Rattle.replica_ask.specs.declared.phase.Phase.TheVariants.{Idle}
use Rattle.shard_copies.proofs.Steps.{map-step}
use Rattle.shard_copies.proofs.kept.idle_of.Goals as goal

pub loop-asker-preserved : goal.loop-asker-preserved
loop-asker-preserved c = map-step (λ (a : AskerState). cond (bytes_eq a.id.stream c.args.name.now) (with_phase a Idle) a) c.args.all.now c.loop-asker.all c.loop-asker.asker-index c.asker-item.result c.idle_if.new.asker (omega arith) c.loop-asker.invariant c.asker-item.is c.idle_if.ensures
