use Rattle.std.proofs.Common.{◌≡◌, length}
use Rattle.nats_text.specs.Pieces.{views}
use Rattle.std.specs.List.{list_any}
use Rattle.leafd_script.specs.Options.{begins}
use Rattle.leafd_script.proofs.options.any_begins.Given as goal

abbrev pub invariant-loop-rest : goal.invariant-loop-rest
invariant-loop-rest l = list_any (begins l.name) (views l.rest) ≡ list_any (begins l.name) (views l.words)

abbrev pub decreases-loop-rest : goal.decreases-loop-rest
decreases-loop-rest l = length l.rest
