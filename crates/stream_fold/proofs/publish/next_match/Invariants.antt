use Rattle.std.proofs.Common.{◌≡◌, drop}
use Rattle.stream_fold.specs.Publishing.{next_match}
use Rattle.stream_fold.proofs.publish.next_match.Given as goal

-- none of those that were looked at is the next
abbrev pub invariant-loop-row : goal.invariant-loop-row
invariant-loop-row l = next_match l.from l.filters (drop l.row-index l.rows) ≡ next_match l.from l.filters l.rows
