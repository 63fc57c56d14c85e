use Rattle.std.proofs.Common.{◌≡◌, ◌++◌, drop}
use Rattle.interest_list.proofs.kept.copied_pairs.Given as goal

-- those that were copied and the rest are all
abbrev pub invariant-loop-pair : goal.invariant-loop-pair
invariant-loop-pair l = l.all.items ++ drop l.pair-index l.told ≡ l.told
