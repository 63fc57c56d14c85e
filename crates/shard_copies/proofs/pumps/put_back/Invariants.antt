use Rattle.std.proofs.Common.{◌≡◌, ◌++◌, ◌-◌, ◌≤◌, length, take, drop}
use Rattle.shard_copies.specs.Pumped.{put_back}
use Rattle.shard_copies.proofs.pumps.put_back.Given as goal

-- those that were looked at are in their places
abbrev pub invariant-loop-place : goal.invariant-loop-place
invariant-loop-place l = record {
  place : l.place ≤ length l.all;
  taken : l.taken ≤ length l.next;
  work : take l.place l.all ++ put_back l.name (drop l.taken l.next) (drop l.place l.all) ≡ put_back l.name l.initial.next l.initial.all;
}

abbrev pub decreases-loop-place : goal.decreases-loop-place
decreases-loop-place l = length l.all - l.place
