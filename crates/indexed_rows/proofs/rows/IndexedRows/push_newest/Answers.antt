use Rattle.std.proofs.Common.{◌≡◌, ◌<◌, sym, ap, subst, arith, List}
use Rattle.stream_fold.specs.declared.entry.Numbered.{Numbered}
use Rattle.stream_fold.specs.Histories.{size_of}
use Rattle.stream_fold.specs.RowLists.{EachRow}
use Rattle.indexed_rows.specs.Indexes.{IndexedList, rows_of}
use Rattle.indexed_rows.proofs.RowLemmas.{each-place, size-place}
use Rattle.indexed_rows.proofs.rows.IndexedRows.push_newest.Goals as goal

pub push-requires-clause-above : goal.push-requires-clause-above
push-requires-clause-above c =
    let seen : rows_of c.self.inside.index.messages.items ≡ c.args.self.now.rows = ap (λ (l : IndexedList). l.rows) c.self.view_is in
    subst (λ (rows : List Numbered). EachRow (λ r. r.seq < c.args.row.seq) rows) (sym c.make_place.ensures.rows)
    (each-place (λ r. r.seq < c.args.row.seq) c.args.most c.bytes.result.now (rows_of c.self.inside.index.messages.items) (subst (λ (rows : List Numbered). EachRow (λ r. r.seq < c.args.row.seq) rows) (sym seen) c.requires.above))

pub push-requires-clause-total : goal.push-requires-clause-total
push-requires-clause-total c =
    let seen : rows_of c.self.inside.index.messages.items ≡ c.args.self.now.rows = ap (λ (l : IndexedList). l.rows) c.self.view_is in
    omega (arith, ap (λ (rows : List Numbered). size_of rows) c.make_place.ensures.rows, size-place c.args.most c.bytes.result.now (rows_of c.self.inside.index.messages.items), ap (λ (rows : List Numbered). size_of rows) seen, c.requires.total)
