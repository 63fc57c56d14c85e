use Rattle.stream_fold.specs.Histories.{History}
use Rattle.stream_fold.specs.Held.{StandsFor}
use Rattle.stream_rows.proofs.histories.expect_entries.Given as goal

-- the state stands for some history
abbrev pub invariant-loop-row : goal.invariant-loop-row
invariant-loop-row g l = (h : History) × StandsFor l.state h
