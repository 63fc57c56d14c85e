use Rattle.std.proofs.Common.{◌≡◌, length}
use Rattle.nats_text.specs.Pieces.{views}
use Rattle.leafd_script.specs.Words.{has_empty}
use Rattle.leafd_script.proofs.words.has_empty.Given as goal

abbrev pub invariant-loop-rest : goal.invariant-loop-rest
invariant-loop-rest l = has_empty (views l.rest) ≡ has_empty (views l.words)

abbrev pub decreases-loop-rest : goal.decreases-loop-rest
decreases-loop-rest l = length l.rest
