use Rattle.std.proofs.Common.{◌≡◌, ◌++◌, length}
use Rattle.nats_text.specs.Pieces.{views}
use Rattle.leaf_frames.proofs.messages.copied.Given as goal

-- the copies so far and the fields of the rest are all fields
abbrev pub invariant-loop-rest : goal.invariant-loop-rest
invariant-loop-rest l = l.copies ++ views l.rest ≡ views l.fields

abbrev pub decreases-loop-rest : goal.decreases-loop-rest
decreases-loop-rest l = length l.rest
