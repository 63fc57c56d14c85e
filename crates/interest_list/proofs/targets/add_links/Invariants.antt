use Rattle.std.proofs.Common.{◌≡◌, ◌++◌, map, drop}
use Rattle.interest_list.specs.Targets.{link_target}
use Rattle.interest_list.proofs.targets.add_links.Given as goal

-- those that were added and those of the rest are all
abbrev pub invariant-loop-conn : goal.invariant-loop-conn
invariant-loop-conn l = l.found.items ++ map (link_target l.served) (drop l.conn-index l.links) ≡ l.initial.found.items ++ map (link_target l.served) l.links
