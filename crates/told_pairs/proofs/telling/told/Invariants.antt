use Rattle.std.proofs.Common.{◌≡◌, ◌++◌, map}
use Rattle.std.specs.Map.{keys_of}
use Rattle.told_pairs.specs.Tellings.{told_list}
use Rattle.told_pairs.specs.Wants.{to_tell}
use Rattle.told_pairs.proofs.telling.told.Given as goal

-- those that were added and those of the rest are all
abbrev pub invariant-loop-pair : goal.invariant-loop-pair
invariant-loop-pair l = l.all.items ++ map (λ t. t) (told_list (map (λ p. (p, to_tell l.link p l.wants.entries)) l.pair-iterator))
    ≡ map (λ t. t) (told_list (map (λ p. (p, to_tell l.link p l.wants.entries)) (keys_of l.wants.entries)))
