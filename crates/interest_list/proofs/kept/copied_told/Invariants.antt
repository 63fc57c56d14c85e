use Rattle.std.proofs.Common.{◌≡◌, ◌++◌, drop}
use Rattle.interest_list.proofs.kept.copied_told.Given as goal

-- those that were copied and the rest are all
abbrev pub invariant-loop-to : goal.invariant-loop-to
invariant-loop-to l = l.all.items ++ drop l.to-index l.told_to ≡ l.told_to
