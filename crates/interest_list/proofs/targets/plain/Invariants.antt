use Rattle.std.proofs.Common.{◌≡◌, ◌++◌, drop}
use Rattle.std.specs.Prelude.{filter}
use Rattle.interest_list.specs.Targets.{is_plain}
use Rattle.interest_list.proofs.targets.plain.Given as goal

-- those that were found and those of the rest are all
abbrev pub invariant-loop-sub : goal.invariant-loop-sub
invariant-loop-sub l = l.found.items ++ filter is_plain (drop l.sub-index l.live) ≡ filter is_plain l.live
