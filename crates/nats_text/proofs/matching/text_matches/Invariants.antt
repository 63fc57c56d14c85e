use Rattle.std.proofs.Common.{◌≡◌, length}
use Rattle.nats_text.specs.Matching.{matches}
use Rattle.nats_text.proofs.matching.text_matches.Given as goal

-- what is left decides as the whole does
abbrev pub invariant-loop-part : goal.invariant-loop-part
invariant-loop-part l = matches l.wanted l.rest ≡ matches l.pattern l.subject

abbrev pub decreases-loop-part : goal.decreases-loop-part
decreases-loop-part l = length l.wanted
