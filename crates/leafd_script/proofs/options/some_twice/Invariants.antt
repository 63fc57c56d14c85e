use Rattle.std.proofs.Common.{◌≡◌, length}
use Rattle.nats_text.specs.Pieces.{views}
use Rattle.std.specs.List.{list_any}
use Rattle.leafd_script.specs.Options.{is_twice}
use Rattle.leafd_script.proofs.options.some_twice.Given as goal

abbrev pub invariant-loop-rest : goal.invariant-loop-rest
invariant-loop-rest l = list_any (λ name. is_twice name (views l.words)) (views l.rest) ≡ list_any (λ name. is_twice name (views l.words)) (views l.names)

abbrev pub decreases-loop-rest : goal.decreases-loop-rest
decreases-loop-rest l = length l.rest
