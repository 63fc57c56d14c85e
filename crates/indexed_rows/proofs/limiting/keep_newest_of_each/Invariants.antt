use Rattle.std.proofs.Common.{◌≡◌, ◌≤◌, ◌+◌, ◌-◌}
use Rattle.stream_fold.specs.Histories.{newest_of_each}
use Rattle.stream_fold.specs.RowLists.{EachRow}
use Rattle.indexed_rows.specs.Indexes.{IsIndexed, rows_of, has_at_most}
use Rattle.indexed_rows.proofs.Walks.{PassBelow}
use Rattle.indexed_rows.proofs.limiting.keep_newest_of_each.Given as goal

-- what doesn't go is still there, and of the subjects that were looked at no more than so many are
abbrev pub invariant-loop-seq : goal.invariant-loop-seq
invariant-loop-seq l = record {
  indexed : IsIndexed l.index;
  rest : newest_of_each l.most (rows_of l.index.messages.items) ≡ newest_of_each l.most (rows_of l.initial.index.messages.items);
  pass : PassBelow (has_at_most l.most (rows_of l.index.messages.items)) l.next (rows_of l.index.messages.items);
  bound : EachRow (λ row. row.seq ≤ l.last) (rows_of l.index.messages.items);
  ready : l.index.coming ≡ l.initial.index.coming;
}

abbrev pub decreases-loop-seq : goal.decreases-loop-seq
decreases-loop-seq l = l.last + 1 - l.next
