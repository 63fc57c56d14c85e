use Rattle.std.proofs.Common.{◌≡◌, drop}
use Rattle.interest_list.specs.Tellings.{told_before}
use Rattle.interest_list.proofs.tellings.told_before.Given as goal

-- it stands in the rest
abbrev pub invariant-loop-to : goal.invariant-loop-to
invariant-loop-to l = told_before l.link (drop l.to-index l.told_to) ≡ told_before l.link l.told_to
