use Rattle.std.proofs.Common.{◌≡◌, length}
use Rattle.nats_frames.specs.Fields.{from_blank}
use Rattle.nats_frames.proofs.fields.from_blank.Given as goal

abbrev pub invariant-loop-rest : goal.invariant-loop-rest
invariant-loop-rest l = from_blank l.rest ≡ from_blank l.line

abbrev pub decreases-loop-rest : goal.decreases-loop-rest
decreases-loop-rest l = length l.rest
