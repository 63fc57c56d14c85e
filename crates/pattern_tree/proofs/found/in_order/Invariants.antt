use Rattle.std.proofs.Common.{◌≡◌, drop}
use Rattle.interest_list.specs.Orders.{in_order, placed_among}
use Rattle.interest_list.specs.Lists.{subscription_cmp}
use Rattle.pattern_tree.specs.Reached.{seen}
use Rattle.pattern_tree.specs.Standing.{all_of}
use Rattle.pattern_tree.proofs.found.in_order.Given as goal

abbrev pub invariant-loop-set : goal.invariant-loop-set
invariant-loop-set l = placed_among subscription_cmp (all_of (seen (drop l.set-index l.sets))) (seen l.found.keys) ≡ in_order subscription_cmp (all_of (seen l.sets))
