use Rattle.std.proofs.Common.{◌≡◌, ◌+◌, ◌≤◌, drop, min}
use Rattle.std.specs.Prelude.{filter, sum_by}
use Rattle.interest_list.specs.Lists.{max_weight}
use Rattle.interest_list.specs.Tellings.{is_same_pair, group_weight}
use Rattle.interest_list.proofs.tellings.group_weight.Given as goal

-- the weights so far and those of the rest are all
abbrev pub invariant-loop-other : goal.invariant-loop-other
invariant-loop-other l = record {
  all : min (l.total + sum_by (λ x. x.weight) (filter (is_same_pair l.sub) (drop l.other-index l.others))) max_weight ≡ group_weight l.others l.sub;
  most : l.total ≤ max_weight;
}
