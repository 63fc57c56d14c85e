use Rattle.std.proofs.Common.{◌≡◌, true, drop}
use Rattle.std.specs.List.{list_all}
use Rattle.stream_fold.specs.Checking.{is_legal_map}
use Rattle.stream_fold.specs.Sourcing.{route_by_maps}
use Rattle.source_core.proofs.routes.route_by_maps.Given as goal

-- none of those that were looked at matches, and the others are legal
abbrev pub invariant-loop-map : goal.invariant-loop-map
invariant-loop-map l = record {
  same : route_by_maps (drop l.map-index l.maps) l.subject ≡ route_by_maps l.maps l.subject;
  legal : list_all is_legal_map (drop l.map-index l.maps) ≡ true;
}
