use Rattle.std.proofs.Common.{◌≡◌, length}
use Rattle.nats_text.specs.Matching.{is_within}
use Rattle.nats_text.proofs.matching.text_within.Given as goal

-- what is left decides as the whole does
abbrev pub invariant-loop-part : goal.invariant-loop-part
invariant-loop-part l = is_within l.rest l.wider_rest ≡ is_within l.a l.b

abbrev pub decreases-loop-part : goal.decreases-loop-part
decreases-loop-part l = length l.rest
