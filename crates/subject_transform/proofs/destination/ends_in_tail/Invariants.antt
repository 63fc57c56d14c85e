use Rattle.std.proofs.Common.{◌≡◌, length}
use Rattle.nats_text.specs.Text.{tokens}
use Rattle.subject_transform.specs.Transforms.{ends_in_tail}
use Rattle.subject_transform.proofs.destination.ends_in_tail.Given as goal

-- the rest ends as the whole does
abbrev pub invariant-loop-after : goal.invariant-loop-after
invariant-loop-after l = ends_in_tail (tokens l.rest) ≡ ends_in_tail (tokens l.source)

abbrev pub decreases-loop-after : goal.decreases-loop-after
decreases-loop-after l = length l.rest
