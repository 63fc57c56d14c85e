use Rattle.std.proofs.Common.{◌≡◌, ◌≤◌, ◌-◌, length, drop}
use Rattle.stream_fold.specs.Parts.{still_open}
use Rattle.stream_fold.proofs.parts.count_closed.Given as goal

-- those that are still open are to be found behind the place
abbrev pub invariant-loop-closed : goal.invariant-loop-closed
invariant-loop-closed l = record {
  within : l.closed ≤ length l.list;
  rest : still_open l.window l.clock (drop l.closed l.list) ≡ still_open l.window l.clock l.list;
}

abbrev pub decreases-loop-closed : goal.decreases-loop-closed
decreases-loop-closed l = length l.list - l.closed
