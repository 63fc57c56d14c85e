use Rattle.std.proofs.Common.{◌≡◌, ◌++◌, map, drop, not}
use Rattle.std.specs.Prelude.{filter}
use Rattle.interest_list.specs.Tellings.{frame_on, has_told}
use Rattle.interest_list.proofs.tellings.add_new.Given as goal

-- those that were added and those of the rest are all
abbrev pub invariant-loop-told : goal.invariant-loop-told
invariant-loop-told l = l.frames.items ++ map frame_on (filter (λ t. not (has_told l.old t)) (drop l.told-index l.new))
    ≡ l.initial.frames.items ++ map frame_on (filter (λ t. not (has_told l.old t)) l.new)
