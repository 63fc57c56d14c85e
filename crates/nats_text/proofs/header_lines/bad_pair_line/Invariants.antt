use Rattle.std.proofs.Common.{◌≡◌, ◌+◌, length}
use Rattle.std.specs.Result.{result_err}
use Rattle.nats_text.specs.Pieces.{pieces}
use Rattle.nats_text.specs.Headers.{read_pairs}
use Rattle.nats_text.proofs.header_lines.bad_pair_line.Given as goal

-- the first bad line of the rest is that of the whole
abbrev pub invariant-loop-line : goal.invariant-loop-line
invariant-loop-line l = record {
  bad : result_err (read_pairs l.place (pieces 10 l.rest)) ≡ result_err (read_pairs l.fn.place (pieces 10 l.lines));
  place : l.place + length l.rest ≡ l.fn.place + length l.lines;
}

abbrev pub decreases-loop-line : goal.decreases-loop-line
decreases-loop-line l = length l.rest
