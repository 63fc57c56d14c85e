use Rattle.std.proofs.Common.{◌≡◌, take}
use Rattle.stream_fold.proofs.same.same_maps.Given as goal

-- those that were looked at are equal
abbrev pub invariant-loop-place : goal.invariant-loop-place
invariant-loop-place l = take l.place l.maps ≡ take l.place l.others
