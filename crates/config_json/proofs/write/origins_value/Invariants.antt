use Rattle.std.proofs.Common.{◌≡◌, take, map}
use Rattle.config_json.specs.Writing.{origin_data}
use Rattle.serde_json.specs.View.{view}
use Rattle.config_json.proofs.write.origins_value.Given as goal

-- what was written so far is there
abbrev pub invariant-loop-origin : goal.invariant-loop-origin
invariant-loop-origin l = map view l.values.items ≡ map origin_data (take l.origin-index l.origins)
