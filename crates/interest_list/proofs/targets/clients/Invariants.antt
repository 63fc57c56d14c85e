use Rattle.std.proofs.Common.{◌≡◌, ◌++◌, drop}
use Rattle.std.specs.List.{filter_map}
use Rattle.interest_list.specs.Targets.{client_target}
use Rattle.interest_list.proofs.targets.clients.Given as goal

-- those that were found and those of the rest are all
abbrev pub invariant-loop-sub : goal.invariant-loop-sub
invariant-loop-sub l = l.found.items ++ filter_map client_target (drop l.sub-index l.served) ≡ filter_map client_target l.served
