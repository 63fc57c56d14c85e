use Rattle.std.proofs.Common.{◌≡◌, ◌++◌, drop}
use Rattle.interest_list.specs.Tellings.{of_others}
use Rattle.interest_list.proofs.tellings.of_others.Given as goal

-- those that were found and those of the rest are all
abbrev pub invariant-loop-sub : goal.invariant-loop-sub
invariant-loop-sub l = l.found.items ++ of_others l.link (drop l.sub-index l.subs) ≡ of_others l.link l.subs
