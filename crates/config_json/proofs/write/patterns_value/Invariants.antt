use Rattle.std.proofs.Common.{◌≡◌, take, map}
use Rattle.serde_json.specs.Data.{string}
use Rattle.serde_json.specs.View.{view}
use Rattle.config_json.proofs.write.patterns_value.Given as goal

-- what was written so far is there
abbrev pub invariant-loop-pattern : goal.invariant-loop-pattern
invariant-loop-pattern l = map view l.values.items ≡ map string (take l.pattern-index l.patterns)
