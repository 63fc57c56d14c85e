use Rattle.std.proofs.Common.{◌≡◌, take}
use Rattle.stream_fold.proofs.same.same_origins.Given as goal

-- those that were looked at are equal
abbrev pub invariant-loop-place : goal.invariant-loop-place
invariant-loop-place l = take l.place l.origins ≡ take l.place l.others
