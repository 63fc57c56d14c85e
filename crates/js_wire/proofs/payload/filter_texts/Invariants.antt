use Rattle.std.proofs.Common.{◌≡◌, take, map}
use Rattle.serde_json.specs.Data.{string}
use Rattle.serde_json.specs.View.{view}
use Rattle.js_wire.proofs.payload.filter_texts.Given as goal

-- the texts so far are there
abbrev pub invariant-loop-filter : goal.invariant-loop-filter
invariant-loop-filter l = map view l.values.items ≡ map string (take l.filter-index l.filters)
