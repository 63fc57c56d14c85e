use Rattle.std.proofs.Common.{ap, arith}
use Rattle.stream_fold.specs.Histories.{size_of}
use Rattle.stream_fold.specs.RowLists.{RowList}
use Rattle.stream_fold.proofs.Totals.{size_of-without_first}
use Rattle.stream_fold.proofs.rows.Rows.make_place.Goals as goal

pub invariant_of-self : goal.invariant_of-self
invariant_of-self c = record {
  sum = c.remove_first.ensures.total;
  fits = omega (arith, ap size_of c.remove_first.ensures.rows, size_of-without_first c.args.subject.now c.self.inside.items.items, c.self.invariant.fits);
}

pub returns-then-most-count_of_subject-clause-total : goal.returns-then-most-count_of_subject-clause-total
returns-then-most-count_of_subject-clause-total c =
    omega (arith, ap size_of c.remove_first.ensures.rows, size_of-without_first c.args.subject.now c.self.inside.items.items, ap (λ (r : RowList). size_of r.rows) c.self.view_is)
