use Rattle.std.proofs.Common.{◌≡◌, take}
use Rattle.replica_ask.specs.Filters.{sources_of}
use Rattle.replica_ask.proofs.filters.sources_of.Given as goal

-- the sources of the maps that were looked at
abbrev pub invariant-loop-map : goal.invariant-loop-map
invariant-loop-map l = l.filters ≡ sources_of (take l.map-index l.maps)
