use Rattle.std.specs.Map.{keys_of}
use Rattle.told_pairs.proofs.Loops.{Collected, Holds}
use Rattle.told_pairs.proofs.links.add_keys.Given as goal

-- those before are in the set, and those that were
abbrev pub invariant-loop-pair : goal.invariant-loop-pair
invariant-loop-pair g l = record {
  old : Holds l.set.keys l.initial.set.keys;
  keys : Collected l.set.keys l.pair-iterator (keys_of l.map.entries);
}
