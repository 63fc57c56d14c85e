use Rattle.std.proofs.Common.{◌≡◌, length, drop}
use Rattle.std.specs.List.{flat_map}
use Rattle.nats_text.specs.Headers.{pair_line}
use Rattle.nats_text.specs.Sizes.{left_of}
use Rattle.nats_text.proofs.room.left_of_pairs.Given as goal

-- what the rest leaves of what is left is what all leave of the whole
abbrev pub invariant-loop-pair : goal.invariant-loop-pair
invariant-loop-pair l = left_of l.room (length (flat_map pair_line (drop l.pair-index l.pairs))) ≡ left_of l.initial.room (length (flat_map pair_line l.pairs))
