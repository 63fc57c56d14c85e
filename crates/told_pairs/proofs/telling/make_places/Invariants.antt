use Rattle.std.proofs.Common.{◌≡◌}
use Rattle.told_pairs.specs.Tellings.{told_list}
use Rattle.told_pairs.proofs.Loops.{Told-at, Placed}
use Rattle.told_pairs.proofs.telling.make_places.Given as goal

-- those before have places
abbrev pub invariant-loop-pair : goal.invariant-loop-pair
invariant-loop-pair l = record {
  same : Told-at l.initial.told.entries l.told.entries;
  list : told_list l.told.entries ≡ told_list l.initial.told.entries;
  places : Placed l.pairs.keys l.pair-iterator l.told.entries;
}
