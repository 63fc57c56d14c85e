use Rattle.std.proofs.Common.{◌≡◌, length}
use Rattle.indexed_rows.specs.Indexes.{IsIndexed, TimesRise, rows_of}
use Rattle.indexed_rows.proofs.Walks.{fresh}
use Rattle.indexed_rows.proofs.expiring.expire_first.Given as goal

-- what doesn't go is still there
abbrev pub invariant-loop-seq : goal.invariant-loop-seq
invariant-loop-seq l = record {
  indexed : IsIndexed l.index;
  order : TimesRise (rows_of l.index.messages.items);
  rest : fresh l.max_age l.now (rows_of l.index.messages.items) ≡ fresh l.max_age l.now (rows_of l.initial.index.messages.items);
  ready : l.index.coming ≡ l.initial.index.coming;
}

abbrev pub decreases-loop-seq : goal.decreases-loop-seq
decreases-loop-seq l = length (rows_of l.index.messages.items)
