use Rattle.std.proofs.Common.{◌≡◌, ◌+◌, ◌-◌, ◌^◌, ◌++◌, min, length, take}
use Rattle.std.specs.List.{flat_map}
use Rattle.std.specs.Option.{option_copied}
use Rattle.nats_text.specs.Headers.{first_text, crlf, pair_line}
use Rattle.nats_text.proofs.header_writer.lines_len.Given as goal

abbrev pub invariant-loop-pair : goal.invariant-loop-pair
invariant-loop-pair l =
    l.total ≡ min (length (first_text (option_copied l.status) ++ crlf) + length (flat_map pair_line (take l.pair-index l.pairs)) + 2) (2 ^ 64 - 1)
