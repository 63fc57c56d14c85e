use Rattle.std.proofs.Common.{◌<◌, not, eqb, List, sym, ap, subst, ◌∙◌, length}
use Rattle.stream_fold.specs.declared.entry.Numbered.{Numbered}
use Rattle.indexed_rows.specs.Indexes.{rows_of, TimesRise}
use Rattle.indexed_rows.proofs.RowLemmas.{times-filter}
use Rattle.indexed_rows.proofs.Walks.{expired_step, expired_end, fresh, rows_rise}
use Rattle.indexed_rows.proofs.expiring.expire_first.Goals as goal

pub loop-seq-smaller : goal.loop-seq-smaller
loop-seq-smaller c =
    let items = c.loop-seq.index.messages.items in
    let step = expired_step c.args.max_age c.args.now (rows_of items) c.in-Some.seq (rows_rise items c.loop-seq.invariant.indexed.rises) (sym c.first_expired.ensures ∙ c.in-Some.is) in
    subst (λ (rs : List Numbered). length rs < length (rows_of items)) (sym c.delete.ensures.rows) step.1

pub loop-seq-preserved : goal.loop-seq-preserved
loop-seq-preserved c =
    let items = c.loop-seq.index.messages.items in
    let step = expired_step c.args.max_age c.args.now (rows_of items) c.in-Some.seq (rows_rise items c.loop-seq.invariant.indexed.rises) (sym c.first_expired.ensures ∙ c.in-Some.is) in
    record {
      indexed = c.delete.ensures.indexed;
      order = subst (λ (rs : List Numbered). TimesRise rs) (sym c.delete.ensures.rows) (times-filter (λ row. not (eqb row.seq c.in-Some.seq)) (rows_of items) c.loop-seq.invariant.order);
      rest = ap (λ (rs : List Numbered). fresh c.args.max_age c.args.now rs) c.delete.ensures.rows ∙ (step.0 ∙ c.loop-seq.invariant.rest);
      ready = c.delete.ensures.ready ∙ c.loop-seq.invariant.ready;
    }

pub returns-clause-rows : goal.returns-clause-rows
returns-clause-rows c = expired_end c.args.max_age c.args.now (rows_of c.loop-seq.index.messages.items) c.loop-seq.invariant.order (sym c.first_expired.ensures ∙ c.in_default.is) ∙ c.loop-seq.invariant.rest
