use Rattle.std.proofs.Common.{◌≡◌, ◌++◌, take}
use Rattle.std.specs.List.{flat_map}
use Rattle.nats_text.specs.Headers.{pair_line}
use Rattle.nats_text.proofs.header_writer.append_pairs.Given as goal

abbrev pub invariant-loop-pair : goal.invariant-loop-pair
invariant-loop-pair l = l.buf.items ≡ l.initial.buf.items ++ flat_map pair_line (take l.pair-index l.pairs)
