use Rattle.std.proofs.Common.{◌≡◌, length}
use Rattle.nats_text.specs.Text.{tokens}
use Rattle.subject_transform.specs.Values.{last_taken}
use Rattle.subject_transform.proofs.taken.last_taken.Given as goal

-- what is left decides as the whole does
abbrev pub invariant-loop-wanted_after : goal.invariant-loop-wanted_after
invariant-loop-wanted_after l = last_taken (tokens l.wanted) (tokens l.rest) ≡ last_taken (tokens l.source) (tokens l.subject)

abbrev pub decreases-loop-wanted_after : goal.decreases-loop-wanted_after
decreases-loop-wanted_after l = length l.wanted
