use Rattle.std.proofs.Common.{◌≡◌}
use Rattle.pattern_tree.specs.Reached.{seen}
use Rattle.pattern_tree.proofs.found.listed.Given as goal

abbrev pub invariant-loop-entry : goal.invariant-loop-entry
invariant-loop-entry l = l.list.items ≡ l.yielded
