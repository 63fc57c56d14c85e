use Rattle.stream_fold.specs.Histories.{History}
use Rattle.stream_fold.specs.Held.{StandsFor}
use Rattle.decision_rows.proofs.streams.state.Given as goal

-- the state stands for some history
abbrev pub invariant-loop-text : goal.invariant-loop-text
invariant-loop-text l = (h : History) × StandsFor l.state h
