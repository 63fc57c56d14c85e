use Rattle.std.proofs.Common.{◌≡◌, ◌++◌, map, drop, not}
use Rattle.std.specs.Prelude.{filter}
use Rattle.interest_list.specs.Tellings.{frame_off, has_pair}
use Rattle.interest_list.proofs.tellings.add_gone.Given as goal

-- those that were added and those of the rest are all
abbrev pub invariant-loop-told : goal.invariant-loop-told
invariant-loop-told l = l.frames.items ++ map frame_off (filter (λ t. not (has_pair l.new t)) (drop l.told-index l.old))
    ≡ l.initial.frames.items ++ map frame_off (filter (λ t. not (has_pair l.new t)) l.old)
