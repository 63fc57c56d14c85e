use Rattle.std.proofs.Common.{◌≡◌, ◌≤◌, ◌-◌, ◌++◌, length, take, drop}
use Rattle.stream_fold.specs.RowLists.{without_first}
use Rattle.stream_fold.proofs.trim.first_place.Given as goal

-- none of those before the place has the subject
abbrev pub invariant-loop-place : goal.invariant-loop-place
invariant-loop-place l = record {
  within : l.place ≤ length l.rows;
  rest : take l.place l.rows ++ without_first l.subject (drop l.place l.rows) ≡ without_first l.subject l.rows;
}

abbrev pub decreases-loop-place : goal.decreases-loop-place
decreases-loop-place l = length l.rows - l.place
