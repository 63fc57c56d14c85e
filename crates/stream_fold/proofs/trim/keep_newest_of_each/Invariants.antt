use Rattle.std.proofs.Common.{◌≡◌, ◌≤◌, ◌-◌, ◌++◌, take, drop, vec_len}
use Rattle.stream_fold.specs.Histories.{newest_of_each}
use Rattle.stream_fold.proofs.trim.keep_newest_of_each.Given as goal

-- those before the place stay, and the rest is still to be looked at
abbrev pub invariant-loop-place : goal.invariant-loop-place
invariant-loop-place l = record {
  rows : take l.place l.rows.items ++ newest_of_each l.most (drop l.place l.rows.items) ≡ newest_of_each l.most l.initial.rows.items;
  within : l.place ≤ vec_len l.rows;
}

abbrev pub decreases-loop-place : goal.decreases-loop-place
decreases-loop-place l = vec_len l.rows - l.place
