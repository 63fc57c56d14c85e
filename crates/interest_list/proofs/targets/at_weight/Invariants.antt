use Rattle.std.proofs.Common.{◌≡◌, drop}
use Rattle.interest_list.specs.Targets.{members, at_weight}
use Rattle.interest_list.proofs.targets.at_weight.Given as goal

-- it stands in the rest, at what is left
abbrev pub invariant-loop-sub : goal.invariant-loop-sub
invariant-loop-sub l = at_weight l.left (members l.queue (drop l.sub-index l.live)) ≡ at_weight l.number (members l.queue l.live)
