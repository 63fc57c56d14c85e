use Rattle.std.proofs.Common.{◌≡◌, length}
use Rattle.nats_text.specs.Matching.{overlap}
use Rattle.nats_text.proofs.matching.texts_overlap.Given as goal

-- what is left decides as the whole does
abbrev pub invariant-loop-part : goal.invariant-loop-part
invariant-loop-part l = overlap l.rest l.other_rest ≡ overlap l.a l.b

abbrev pub decreases-loop-part : goal.decreases-loop-part
decreases-loop-part l = length l.rest
