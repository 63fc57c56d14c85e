use Rattle.std.proofs.Common.{◌≡◌, ◌+◌, ◌-◌}
use Rattle.stream_fold.specs.Publishing.{next_match}
use Rattle.indexed_rows.specs.Indexes.{rows_of}
use Rattle.indexed_rows.proofs.index.next_match.Given as goal

-- none of those that were looked at is the next
abbrev pub invariant-loop-seq : goal.invariant-loop-seq
invariant-loop-seq l = next_match l.next l.filters (rows_of l.index.messages.items) ≡ next_match l.from l.filters (rows_of l.index.messages.items)

abbrev pub decreases-loop-seq : goal.decreases-loop-seq
decreases-loop-seq l = l.last + 1 - l.next
