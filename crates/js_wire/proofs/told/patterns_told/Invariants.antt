use Rattle.std.proofs.Common.{◌≡◌, ◌++◌, drop}
use Rattle.std.specs.Prelude.{option_map}
use Rattle.serde_json.specs.View.{items_view}
use Rattle.js_wire.specs.Told.{patterns_told}
use Rattle.js_wire.proofs.told.patterns_told.Given as goal

-- the patterns so far stand before those of the other values
abbrev pub invariant-loop-value : goal.invariant-loop-value
invariant-loop-value l = patterns_told (items_view l.values) ≡ option_map (λ ps. l.patterns ++ ps) (patterns_told (items_view (drop l.value-index l.values)))
