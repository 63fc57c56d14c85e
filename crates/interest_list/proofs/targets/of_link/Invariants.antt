use Rattle.std.proofs.Common.{◌≡◌, ◌++◌, drop}
use Rattle.std.specs.Prelude.{filter}
use Rattle.interest_list.specs.Lists.{is_link}
use Rattle.interest_list.proofs.targets.of_link.Given as goal

-- those that were found and those of the rest are all
abbrev pub invariant-loop-sub : goal.invariant-loop-sub
invariant-loop-sub l = l.found.items ++ filter (λ s. is_link l.conn s.holder) (drop l.sub-index l.served) ≡ filter (λ s. is_link l.conn s.holder) l.served
