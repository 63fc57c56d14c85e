use Rattle.std.proofs.Common.{◌≡◌, ◌++◌, map}
use Rattle.interest_list.specs.Tellings.{frame_off}
use Rattle.told_pairs.specs.Tellings.{gone, told_at}
use Rattle.told_pairs.specs.Wants.{to_tell}
use Rattle.told_pairs.proofs.telling.add_all_gone.Given as goal

-- those that were added and those of the rest are all
abbrev pub invariant-loop-pair : goal.invariant-loop-pair
invariant-loop-pair l = l.frames.items ++ map frame_off (gone (λ p. told_at p l.told.entries) (λ p. to_tell l.link p l.wants.entries) l.pair-iterator)
    ≡ l.initial.frames.items ++ map frame_off (gone (λ p. told_at p l.told.entries) (λ p. to_tell l.link p l.wants.entries) l.pairs.keys)
