use Rattle.std.proofs.Common.{◌≡◌, length}
use Rattle.nats_text.specs.Pieces.{views}
use Rattle.leafd_script.specs.Words.{with_texts}
use Rattle.leafd_script.proofs.headers.with_texts.Given as goal

-- what the rest makes of the headers so far is what all make
abbrev pub invariant-loop-rest : goal.invariant-loop-rest
invariant-loop-rest l = with_texts l.headers (views l.rest) ≡ with_texts l.fn.headers (views l.fn.texts)

abbrev pub decreases-loop-rest : goal.decreases-loop-rest
decreases-loop-rest l = length l.rest
