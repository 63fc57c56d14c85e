use Rattle.std.proofs.Common.{◌≡◌, take, map}
use Rattle.config_json.specs.Writing.{mapping_data}
use Rattle.serde_json.specs.View.{view}
use Rattle.config_json.proofs.write.maps_value.Given as goal

-- what was written so far is there
abbrev pub invariant-loop-mapping : goal.invariant-loop-mapping
invariant-loop-mapping l = map view l.values.items ≡ map mapping_data (take l.mapping-index l.maps)
