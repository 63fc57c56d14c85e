use Rattle.std.proofs.Common.{◌≡◌, map, drop}
use Rattle.interest_list.specs.Orders.{placed_among, in_order}
use Rattle.interest_list.specs.Lists.{told_cmp}
use Rattle.interest_list.specs.Tellings.{telling}
use Rattle.interest_list.proofs.tellings.tellings.Given as goal

-- those of the rest among those that were found
abbrev pub invariant-loop-sub : goal.invariant-loop-sub
invariant-loop-sub l = placed_among told_cmp (map (telling l.others) (drop l.sub-index l.others)) l.found.items ≡ in_order told_cmp (map (telling l.others) l.others)
