use Rattle.told_pairs.specs.Wants.{to_tell}
use Rattle.told_pairs.proofs.Loops.{Settles, CanSettle}
use Rattle.told_pairs.proofs.telling.settle.Given as goal

-- those of the rest will have their weights
abbrev pub invariant-loop-pair : goal.invariant-loop-pair
invariant-loop-pair l = record {
  settles : Settles (λ p. to_tell l.link p l.wants.entries) l.pairs.keys l.pair-iterator l.initial.told.entries l.told.entries;
  places : CanSettle (λ p. to_tell l.link p l.wants.entries) l.pair-iterator l.told.entries;
}
