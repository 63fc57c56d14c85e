use Rattle.std.proofs.Common.{◌≡◌, length}
use Rattle.std.specs.List.{list_all}
use Rattle.nats_text.specs.Pieces.{views}
use Rattle.nats_frames.specs.Fields.{is_short}
use Rattle.leaf_frames.proofs.messages.are_short.Given as goal

-- all fields are short where those of the rest are
abbrev pub invariant-loop-rest : goal.invariant-loop-rest
invariant-loop-rest l = list_all is_short (views l.rest) ≡ list_all is_short (views l.fields)

abbrev pub decreases-loop-rest : goal.decreases-loop-rest
decreases-loop-rest l = length l.rest
