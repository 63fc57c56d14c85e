use Rattle.std.proofs.Common.{◌≡◌, ◌++◌, drop}
use Rattle.std.specs.Prelude.{option_map}
use Rattle.serde_json.specs.View.{items_view}
use Rattle.config_json.specs.Others.{patterns_of}
use Rattle.config_json.proofs.value.patterns_of.Given as goal

-- the patterns so far stand before those of the other values
abbrev pub invariant-loop-value : goal.invariant-loop-value
invariant-loop-value l = patterns_of (items_view l.values) ≡ option_map (λ ps. l.patterns ++ ps) (patterns_of (items_view (drop l.value-index l.values)))
