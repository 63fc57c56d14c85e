use Rattle.std.proofs.Common.{◌≡◌}
use Rattle.std.specs.Prelude.{drop}
use Rattle.world_steps.specs.Settling.{first_busy}
use Rattle.world_links.specs.States.{sites_in, joined_in}
use Rattle.world_links.proofs.links.Links.first_busy.Given as goal

-- none before the place is busy
abbrev pub invariant-loop-place : goal.invariant-loop-place
invariant-loop-place l = record {
  none : first_busy (joined_in l.self-inside.links.items) (drop l.place (sites_in l.self-inside.links.items)) ≡ first_busy (joined_in l.self-inside.links.items) (drop 1 (sites_in l.self-inside.links.items));
}
