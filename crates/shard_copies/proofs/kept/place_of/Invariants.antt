use Rattle.std.proofs.Common.{◌≡◌, ◌+◌, ◌-◌, ◌≤◌, length, drop}
use Rattle.shard_copies.specs.Places.{place_in}
use Rattle.shard_copies.proofs.kept.place_of.Given as goal

-- none of those before the place has the name
abbrev pub invariant-loop-place : goal.invariant-loop-place
invariant-loop-place l = record {
  within : l.place ≤ length l.all;
  rest : l.place + place_in (record { node = l.node; stream = l.stream; index = l.index }) (drop l.place l.all) ≡ place_in (record { node = l.node; stream = l.stream; index = l.index }) l.all;
}

abbrev pub decreases-loop-place : goal.decreases-loop-place
decreases-loop-place l = length l.all - l.place
