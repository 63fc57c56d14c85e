use Rattle.std.proofs.Common.{◌≡◌, ◌++◌, drop}
use Rattle.std.specs.Prelude.{filter}
use Rattle.std.specs.List.{filter_map}
use Rattle.std.specs.Option.{option_copied}
use Rattle.interest_list.specs.Targets.{chosen, is_served}
use Rattle.interest_list.proofs.targets.add_chosen.Given as goal

-- those that were added and those of the rest are all
abbrev pub invariant-loop-queue : goal.invariant-loop-queue
invariant-loop-queue l = l.found.items ++ filter_map (chosen l.pick l.live) (filter (is_served (option_copied l.given)) (drop l.queue-index l.groups))
    ≡ l.initial.found.items ++ filter_map (chosen l.pick l.live) (filter (is_served (option_copied l.given)) l.groups)
