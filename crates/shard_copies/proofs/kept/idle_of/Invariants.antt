use Rattle.std.proofs.Common.{◌≡◌, ◌++◌, map, take, drop, cond}
use Rattle.std.specs.Str.{bytes_eq}
use Rattle.replica_ask.specs.Askers.{with_phase}
use Rattle.replica_ask.specs.declared.phase.Phase.TheVariants.{Idle}
use Rattle.shard_copies.proofs.kept.idle_of.Given as goal

-- those of the stream that were looked at are idle
abbrev pub invariant-loop-asker : goal.invariant-loop-asker
invariant-loop-asker l = l.all ≡ map (λ a. cond (bytes_eq a.id.stream l.name) (with_phase a Idle) a) (take l.asker-index l.initial.all) ++ drop l.asker-index l.initial.all
