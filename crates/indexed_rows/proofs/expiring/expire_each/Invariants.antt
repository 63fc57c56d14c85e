use Rattle.std.proofs.Common.{◌≡◌, ◌≤◌, ◌+◌, ◌-◌, not}
use Rattle.std.specs.Prelude.{filter}
use Rattle.stream_fold.specs.Histories.{is_expired}
use Rattle.stream_fold.specs.RowLists.{EachRow}
use Rattle.indexed_rows.specs.Indexes.{IsIndexed, rows_of}
use Rattle.indexed_rows.proofs.Walks.{PassBelow}
use Rattle.indexed_rows.proofs.expiring.expire_each.Given as goal

-- what doesn't go is still there, and of what was looked at nothing else is
abbrev pub invariant-loop-seq : goal.invariant-loop-seq
invariant-loop-seq l = record {
  indexed : IsIndexed l.index;
  rest : filter (λ row. not (is_expired l.max_age l.now row)) (rows_of l.index.messages.items) ≡ filter (λ row. not (is_expired l.max_age l.now row)) (rows_of l.initial.index.messages.items);
  pass : PassBelow (λ row. not (is_expired l.max_age l.now row)) l.next (rows_of l.index.messages.items);
  bound : EachRow (λ row. row.seq ≤ l.last) (rows_of l.index.messages.items);
  ready : l.index.coming ≡ l.initial.index.coming;
}

abbrev pub decreases-loop-seq : goal.decreases-loop-seq
decreases-loop-seq l = l.last + 1 - l.next
