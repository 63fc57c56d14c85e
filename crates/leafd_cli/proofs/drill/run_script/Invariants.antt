use Rattle.std.proofs.Common.{◌≡◌, ◌+◌, ◌≤◌, length}
use Rattle.leafd_cli.specs.Turns.{HasCome}
use Rattle.leafd_cli.proofs.drill.run_script.Given as goal

-- there is a book for the lines so far, its report was written, and the line number is at most one
-- more than the bytes that were passed
abbrev pub invariant-loop-line : goal.invariant-loop-line
invariant-loop-line g l = record {
  come : HasCome l.text l.rest l.drill (g.O.Sink.taken l.initial.out) (g.O.Sink.taken l.out);
  few : l.drill.number + length l.rest ≤ length l.text + 1;
  same : g.O.Sink.faults l.out ≡ g.O.Sink.faults l.initial.out;
}

abbrev pub decreases-loop-line : goal.decreases-loop-line
decreases-loop-line g l = length l.rest
