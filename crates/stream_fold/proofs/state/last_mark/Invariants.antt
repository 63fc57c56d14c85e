use Rattle.std.proofs.Common.{◌≡◌, drop}
use Rattle.stream_fold.specs.Copying.{mark_in}
use Rattle.stream_fold.proofs.state.last_mark.Given as goal

-- the index is not among those that were looked at
abbrev pub invariant-loop-mark : goal.invariant-loop-mark
invariant-loop-mark l = mark_in l.index (drop l.mark-index l.marks) ≡ mark_in l.index l.marks
