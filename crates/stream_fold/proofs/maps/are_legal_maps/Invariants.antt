use Rattle.std.proofs.Common.{◌≡◌, drop}
use Rattle.std.specs.List.{list_all}
use Rattle.stream_fold.specs.Checking.{is_legal_map}
use Rattle.stream_fold.proofs.maps.are_legal_maps.Given as goal

-- each of those that were looked at is legal
abbrev pub invariant-loop-map : goal.invariant-loop-map
invariant-loop-map l = list_all is_legal_map (drop l.map-index l.maps) ≡ list_all is_legal_map l.maps
