use Rattle.std.proofs.Common.{◌≡◌, ◌++◌, drop}
use Rattle.std.specs.Prelude.{filter}
use Rattle.interest_list.specs.Targets.{is_live}
use Rattle.interest_list.proofs.targets.live.Given as goal

-- those that were found and those of the rest are all
abbrev pub invariant-loop-sub : goal.invariant-loop-sub
invariant-loop-sub l = l.found.items ++ filter (is_live l.subject l.outward l.from) (drop l.sub-index l.subs) ≡ filter (is_live l.subject l.outward l.from) l.subs
