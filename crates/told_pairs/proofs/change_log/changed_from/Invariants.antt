use Rattle.std.proofs.Common.{drop}
use Rattle.told_pairs.proofs.Loops.{Collected}
use Rattle.told_pairs.proofs.change_log.changed_from.Given as goal

-- those before are in the set
abbrev pub invariant-loop-at : goal.invariant-loop-at
invariant-loop-at l = Collected l.set.keys (drop l.at l.changes.pairs.items) (drop l.from l.changes.pairs.items)
