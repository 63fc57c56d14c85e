use Rattle.std.proofs.Common.{◌≡◌, length}
use Rattle.nats_text.specs.Pieces.{views}
use Rattle.leafd_script.specs.Words.{is_one_of}
use Rattle.leafd_script.proofs.words.is_one_of.Given as goal

abbrev pub invariant-loop-rest : goal.invariant-loop-rest
invariant-loop-rest l = is_one_of (views l.rest) l.word ≡ is_one_of (views l.texts) l.word

abbrev pub decreases-loop-rest : goal.decreases-loop-rest
decreases-loop-rest l = length l.rest
