use Rattle.std.proofs.Common.{◌≡◌, length}
use Rattle.std.specs.List.{list_any}
use Rattle.nats_text.specs.Pieces.{views}
use Rattle.leafd_script.specs.Options.{begins_one_of}
use Rattle.leafd_script.proofs.options.some_begins.Given as goal

abbrev pub invariant-loop-rest : goal.invariant-loop-rest
invariant-loop-rest l = list_any (begins_one_of (views l.names)) (views l.rest) ≡ list_any (begins_one_of (views l.names)) (views l.words)

abbrev pub decreases-loop-rest : goal.decreases-loop-rest
decreases-loop-rest l = length l.rest
