use Rattle.std.proofs.Common.{◌≡◌, ◌++◌}
use Rattle.shard_streams.specs.Plans.{names_in}
use Rattle.shard_streams.proofs.reading.standing_names.Given as goal

-- the names that were added, and those that are left
abbrev pub invariant-loop-known : goal.invariant-loop-known
invariant-loop-known l = l.names ++ names_in l.known-iterator ≡ names_in l.held.entries
