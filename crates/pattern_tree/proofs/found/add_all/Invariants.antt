use Rattle.std.proofs.Common.{◌≡◌}
use Rattle.interest_list.specs.Orders.{placed_among}
use Rattle.interest_list.specs.Lists.{subscription_cmp}
use Rattle.pattern_tree.specs.Reached.{seen}
use Rattle.pattern_tree.proofs.found.add_all.Given as goal

-- what is left of the set is still to be placed
abbrev pub invariant-loop-entry : goal.invariant-loop-entry
invariant-loop-entry l = placed_among subscription_cmp l.entry-iterator (seen l.found.keys) ≡ placed_among subscription_cmp l.set.keys (seen l.initial.found.keys)
