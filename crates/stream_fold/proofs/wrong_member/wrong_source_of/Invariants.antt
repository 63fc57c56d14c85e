use Rattle.std.proofs.Common.{◌≡◌, drop}
use Rattle.stream_fold.specs.Checking.{source_faults}
use Rattle.stream_fold.proofs.wrong_member.wrong_source_of.Given as goal

-- none of those that were looked at is wrong
abbrev pub invariant-loop-origin : goal.invariant-loop-origin
invariant-loop-origin l = source_faults (drop l.origin-index l.origins) ≡ source_faults l.origins
