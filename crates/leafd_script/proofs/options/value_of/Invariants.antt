use Rattle.std.proofs.Common.{◌≡◌, length}
use Rattle.nats_text.specs.Pieces.{views}
use Rattle.leafd_script.specs.Options.{value_of}
use Rattle.leafd_script.proofs.options.value_of.Given as goal

abbrev pub invariant-loop-rest : goal.invariant-loop-rest
invariant-loop-rest l = value_of l.name (views l.rest) ≡ value_of l.name (views l.words)

abbrev pub decreases-loop-rest : goal.decreases-loop-rest
decreases-loop-rest l = length l.rest
