use Rattle.std.proofs.Common.{◌≡◌, ◌≤◌, ◌-◌, length, drop}
use Rattle.stream_fold.specs.Histories.{newest_within, size_of}
use Rattle.stream_fold.proofs.trim.excess_of.Given as goal

-- what is within the limits is to be found behind the place
abbrev pub invariant-loop-excess : goal.invariant-loop-excess
invariant-loop-excess l = record {
  within : l.excess ≤ length l.rows;
  rest : newest_within l.config (drop l.excess l.rows) ≡ newest_within l.config l.rows;
  total : l.total ≡ size_of (drop l.excess l.rows);
}

abbrev pub decreases-loop-excess : goal.decreases-loop-excess
decreases-loop-excess l = length l.rows - l.excess
