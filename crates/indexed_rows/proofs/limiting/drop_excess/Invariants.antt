use Rattle.std.proofs.Common.{◌≡◌, length}
use Rattle.stream_fold.specs.Histories.{newest_within}
use Rattle.indexed_rows.specs.Indexes.{IsIndexed, rows_of}
use Rattle.indexed_rows.proofs.limiting.drop_excess.Given as goal

-- what is within the limits is still there
abbrev pub invariant-loop-seq : goal.invariant-loop-seq
invariant-loop-seq l = record {
  indexed : IsIndexed l.index;
  rest : newest_within l.config (rows_of l.index.messages.items) ≡ newest_within l.config (rows_of l.initial.index.messages.items);
  ready : l.index.coming ≡ l.initial.index.coming;
}

abbrev pub decreases-loop-seq : goal.decreases-loop-seq
decreases-loop-seq l = length (rows_of l.index.messages.items)
