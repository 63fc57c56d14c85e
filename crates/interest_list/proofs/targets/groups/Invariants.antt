use Rattle.std.proofs.Common.{◌≡◌, drop}
use Rattle.std.specs.List.{filter_map}
use Rattle.interest_list.specs.Orders.{text_cmp, placed_among}
use Rattle.interest_list.specs.Targets.{groups}
use Rattle.interest_list.proofs.targets.groups.Given as goal

-- those of the rest among those that were found
abbrev pub invariant-loop-sub : goal.invariant-loop-sub
invariant-loop-sub l = placed_among text_cmp (filter_map (λ s. s.queue) (drop l.sub-index l.subs)) l.found.items ≡ groups l.subs
