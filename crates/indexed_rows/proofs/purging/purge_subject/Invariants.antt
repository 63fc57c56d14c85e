use Rattle.std.proofs.Common.{◌≡◌, not, length}
use Rattle.std.specs.Prelude.{filter}
use Rattle.stream_fold.specs.Histories.{is_purged}
use Rattle.indexed_rows.specs.Indexes.{IsIndexed, rows_of}
use Rattle.indexed_rows.proofs.purging.purge_subject.Given as goal

-- what doesn't go is still there
abbrev pub invariant-loop-seq : goal.invariant-loop-seq
invariant-loop-seq l = record {
  indexed : IsIndexed l.index;
  rest : filter (λ row. not (is_purged l.pattern l.below row)) (rows_of l.index.messages.items) ≡ filter (λ row. not (is_purged l.pattern l.below row)) (rows_of l.initial.index.messages.items);
  ready : l.index.coming ≡ l.initial.index.coming;
}

abbrev pub decreases-loop-seq : goal.decreases-loop-seq
decreases-loop-seq l = length (rows_of l.index.messages.items)
