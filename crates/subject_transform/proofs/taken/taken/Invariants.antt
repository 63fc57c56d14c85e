use Rattle.std.proofs.Common.{◌≡◌}
use Rattle.nats_text.specs.Text.{tokens}
use Rattle.subject_transform.specs.PartsOf.{pieces_of, text_length}
use Rattle.subject_transform.specs.Values.{taken}
use Rattle.subject_transform.proofs.taken.taken.Given as goal

-- what is left decides as the whole does
abbrev pub invariant-loop-sources : goal.invariant-loop-sources
invariant-loop-sources l = taken (pieces_of 46 l.sources) (pieces_of 46 l.subjects) l.left ≡ taken (tokens l.source) (tokens l.subject) l.number

abbrev pub decreases-loop-sources : goal.decreases-loop-sources
decreases-loop-sources l = text_length l.sources
