use Rattle.std.proofs.Common.{◌≡◌, length}
use Rattle.stream_fold.specs.Checking.{some_overlap}
use Rattle.config_json.proofs.subjects.some_overlap.Given as goal

-- none of those that were looked at overlaps a later one
abbrev pub invariant-loop-pattern : goal.invariant-loop-pattern
invariant-loop-pattern l = some_overlap l.rest ≡ some_overlap l.patterns

abbrev pub decreases-loop-pattern : goal.decreases-loop-pattern
decreases-loop-pattern l = length l.rest
