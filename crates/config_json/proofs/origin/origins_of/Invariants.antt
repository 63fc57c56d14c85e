use Rattle.std.proofs.Common.{◌≡◌, ◌++◌, drop, Ok}
use Rattle.serde_json.specs.View.{items_view}
use Rattle.config_json.specs.Answers.{and_then}
use Rattle.config_json.specs.Origins.{origins_of}
use Rattle.config_json.proofs.origin.origins_of.Given as goal

-- the origins so far stand before those of the other values
abbrev pub invariant-loop-value : goal.invariant-loop-value
invariant-loop-value l = origins_of (items_view l.values) ≡ and_then (origins_of (items_view (drop l.value-index l.values))) (λ os. Ok (l.origins ++ os))
