use Rattle.std.proofs.Common.{◌≡◌, ◌+◌, length}
use Rattle.nats_text.specs.Pieces.{pieces}
use Rattle.nats_text.specs.Headers.{with_front, read_pairs}
use Rattle.nats_text.proofs.headers.read_pairs.Given as goal

-- the pairs so far and those of the rest are those of the whole
abbrev pub invariant-loop-line : goal.invariant-loop-line
invariant-loop-line l = record {
  read : with_front l.pairs.items (read_pairs l.place (pieces 10 l.rest)) ≡ read_pairs l.fn.place (pieces 10 l.lines);
  place : l.place + length l.rest ≡ l.fn.place + length l.lines;
}

abbrev pub decreases-loop-line : goal.decreases-loop-line
decreases-loop-line l = length l.rest
