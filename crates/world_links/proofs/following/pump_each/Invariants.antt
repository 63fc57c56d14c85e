use Rattle.std.proofs.Common.{◌≡◌, ℕ, ◌≤◌, ◌++◌, length}
use Rattle.std.specs.Prelude.{drop, map}
use Rattle.world_steps.specs.Routes.{pump}
use Rattle.world_links.proofs.following.pump_each.Given as goal

-- the pumps of the last names stand first
abbrev pub invariant-pumps : goal.invariant-pumps
invariant-pumps l = record {
  within : l.left ≤ length l.names;
  jobs : l.jobs.items ≡ map (pump l.timer) (drop l.left l.names) ++ l.initial.jobs.items;
}

abbrev pub decreases-pumps : goal.decreases-pumps
decreases-pumps l = l.left
