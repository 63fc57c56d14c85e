use Rattle.std.proofs.Common.{◌≡◌, ◌++◌, length}
use Rattle.nats_text.specs.Pieces.{views}
use Rattle.nats_frames.specs.Fields.{fields}
use Rattle.nats_frames.proofs.fields.fields.Given as goal

-- the fields so far and those of the rest are those of the line
abbrev pub invariant-loop-part : goal.invariant-loop-part
invariant-loop-part l = views l.found.items ++ fields l.rest ≡ fields l.line

abbrev pub decreases-loop-part : goal.decreases-loop-part
decreases-loop-part l = length l.rest
