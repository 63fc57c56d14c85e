use Rattle.std.proofs.Common.{◌≡◌, ◌+◌, drop}
use Rattle.stream_fold.specs.Histories.{size_of}
use Rattle.stream_fold.proofs.trim.total_of.Given as goal

-- the total with the sizes of the rest is that of all
abbrev pub invariant-loop-row : goal.invariant-loop-row
invariant-loop-row l = l.total + size_of (drop l.row-index l.rows) ≡ size_of l.rows
