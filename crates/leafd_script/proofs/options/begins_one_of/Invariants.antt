use Rattle.std.proofs.Common.{◌≡◌, length}
use Rattle.nats_text.specs.Pieces.{views}
use Rattle.leafd_script.specs.Options.{begins_one_of}
use Rattle.leafd_script.proofs.options.begins_one_of.Given as goal

abbrev pub invariant-loop-rest : goal.invariant-loop-rest
invariant-loop-rest l = begins_one_of (views l.rest) l.word ≡ begins_one_of (views l.names) l.word

abbrev pub decreases-loop-rest : goal.decreases-loop-rest
decreases-loop-rest l = length l.rest
