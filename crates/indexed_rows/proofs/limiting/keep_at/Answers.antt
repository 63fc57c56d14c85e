use Rattle.std.proofs.Common.{◌≡◌, true, inl, inr, refl, ap, ◌∙◌, List}
use Rattle.std.specs.Option.{option_copied}
use Rattle.stream_fold.specs.declared.entry.Numbered.{Numbered}
use Rattle.stream_fold.specs.Histories.{newest_of_each}
use Rattle.stream_fold.specs.RowLists.{EachRow}
use Rattle.std.proofs.Common.{subst, sym}
use Rattle.indexed_rows.specs.Indexes.{rows_of, has_at_most}
use Rattle.indexed_rows.proofs.Keeping.{keeps, goes, told_by}
use Rattle.indexed_rows.proofs.Walks.{none_left, rows_rise}
use Rattle.indexed_rows.proofs.limiting.keep_at.Goals as goal

pub returns-then-has_too_many-clause-stay : goal.returns-then-has_too_many-clause-stay
returns-then-has_too_many-clause-stay c =
    let items = c.args.index.now.messages.items in
    ap (λ (rs : List Numbered). newest_of_each c.args.most rs) c.delete.ensures.rows
    ∙ goes c.args.most c.args.seq (rows_of items) c.has_too_many.result (rows_rise items c.requires.indexed.rises) c.requires.earlier (told_by c.args.most c.args.seq items (option_copied c.get.result) c.has_too_many.result c.has_too_many.ensures c.get.ensures) c.if-has_too_many.true

pub returns-then-has_too_many-clause-passes : goal.returns-then-has_too_many-clause-passes
returns-then-has_too_many-clause-passes c =
    subst (λ (rs : List Numbered). EachRow (λ r. r.seq ≡ c.args.seq → has_at_most c.args.most (rows_of c.delete.new.index.messages.items) r ≡ true) rs) (sym c.delete.ensures.rows)
    (none_left (λ r. has_at_most c.args.most (rows_of c.delete.new.index.messages.items) r ≡ true) c.args.seq (rows_of c.args.index.now.messages.items))

pub returns-then-has_too_many-clause-fewer : goal.returns-then-has_too_many-clause-fewer
returns-then-has_too_many-clause-fewer c = inr c.delete.ensures.rows

pub returns-else-has_too_many-clause-passes : goal.returns-else-has_too_many-clause-passes
returns-else-has_too_many-clause-passes c =
    let items = c.args.index.now.messages.items in
    keeps c.args.most c.args.seq (rows_of items) c.has_too_many.result (rows_rise items c.requires.indexed.rises) (told_by c.args.most c.args.seq items (option_copied c.get.result) c.has_too_many.result c.has_too_many.ensures c.get.ensures) c.if-has_too_many.false

pub returns-else-has_too_many-clause-fewer : goal.returns-else-has_too_many-clause-fewer
returns-else-has_too_many-clause-fewer c = inl refl
