use Rattle.std.proofs.Common.{◌≡◌, take}
use Rattle.shard_streams.proofs.members.same_patterns.Given as goal

-- those that were looked at are equal
abbrev pub invariant-loop-place : goal.invariant-loop-place
invariant-loop-place l = take l.place l.patterns ≡ take l.place l.others
