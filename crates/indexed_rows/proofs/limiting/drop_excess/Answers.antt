use Rattle.std.proofs.Common.{◌<◌, List, sym, ap, subst, ◌∙◌, length}
use Rattle.stream_fold.specs.declared.entry.Numbered.{Numbered}
use Rattle.stream_fold.specs.Histories.{newest_within}
use Rattle.indexed_rows.specs.Indexes.{rows_of}
use Rattle.indexed_rows.proofs.Walks.{excess_step, excess_end, rows_rise}
use Rattle.indexed_rows.proofs.limiting.drop_excess.Goals as goal

pub loop-seq-smaller : goal.loop-seq-smaller
loop-seq-smaller c =
    let items = c.loop-seq.index.messages.items in
    let step = excess_step c.args.config.now (rows_of items) c.in-Some.seq (rows_rise items c.loop-seq.invariant.indexed.rises) (sym c.excess.ensures ∙ c.in-Some.is) in
    subst (λ (rs : List Numbered). length rs < length (rows_of items)) (sym c.delete.ensures.rows) step.1

pub loop-seq-preserved : goal.loop-seq-preserved
loop-seq-preserved c =
    let items = c.loop-seq.index.messages.items in
    let step = excess_step c.args.config.now (rows_of items) c.in-Some.seq (rows_rise items c.loop-seq.invariant.indexed.rises) (sym c.excess.ensures ∙ c.in-Some.is) in
    record {
      indexed = c.delete.ensures.indexed;
      rest = ap (λ (rs : List Numbered). newest_within c.args.config.now rs) c.delete.ensures.rows ∙ (step.0 ∙ c.loop-seq.invariant.rest);
      ready = c.delete.ensures.ready ∙ c.loop-seq.invariant.ready;
    }

pub returns-clause-rows : goal.returns-clause-rows
returns-clause-rows c = excess_end c.args.config.now (rows_of c.loop-seq.index.messages.items) (sym c.excess.ensures ∙ c.in_default.is) ∙ c.loop-seq.invariant.rest
