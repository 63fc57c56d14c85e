use Rattle.std.proofs.Common.{◌≡◌, drop}
use Rattle.std.specs.List.{filter_map}
use Rattle.std.specs.Ordering.{nat_cmp}
use Rattle.interest_list.specs.Orders.{placed_among}
use Rattle.interest_list.specs.Targets.{link_of, links}
use Rattle.interest_list.proofs.targets.links.Given as goal

-- those of the rest among those that were found
abbrev pub invariant-loop-sub : goal.invariant-loop-sub
invariant-loop-sub l = placed_among nat_cmp (filter_map link_of (drop l.sub-index l.served)) l.found.items ≡ links l.served
