use Rattle.std.proofs.Common.{◌≡◌, ◌+◌, ◌*◌, ◌≤◌, drop}
use Rattle.interest_list.specs.Targets.{members, weights}
use Rattle.interest_list.proofs.targets.weight_of.Given as goal

-- the weights so far and those of the rest are all
abbrev pub invariant-loop-sub : goal.invariant-loop-sub
invariant-loop-sub l = record {
  all : l.total + weights (members l.queue (drop l.sub-index l.live)) ≡ weights (members l.queue l.live);
  most : l.total ≤ l.sub-index * 4294967295;
}
