use Rattle.std.proofs.Common.{◌≡◌, ◌++◌, map, take, drop}
use Rattle.replica_ask.specs.Askers.{with_phase}
use Rattle.replica_ask.specs.declared.phase.Phase.TheVariants.{Idle}
use Rattle.shard_copies.proofs.kept.idle_each.Given as goal

-- those that were looked at are idle
abbrev pub invariant-loop-asker : goal.invariant-loop-asker
invariant-loop-asker l = l.all ≡ map (λ a. with_phase a Idle) (take l.asker-index l.initial.all) ++ drop l.asker-index l.initial.all
