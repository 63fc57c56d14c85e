use Rattle.std.proofs.Common.{◌<◌, not, List, ℕ, sym, ap, subst, ◌∙◌, length}
use Rattle.std.specs.Prelude.{filter, slice_get}
use Rattle.stream_fold.specs.declared.entry.Numbered.{Numbered}
use Rattle.stream_fold.specs.Histories.{is_purged}
use Rattle.indexed_rows.specs.Indexes.{rows_of, below_in, seq_in, is_of}
use Rattle.indexed_rows.proofs.Literal.{subject_step, subject_end}
use Rattle.indexed_rows.proofs.Walks.{rows_rise}
use Rattle.indexed_rows.proofs.purging.purge_subject.Goals as goal

pub loop-seq-smaller : goal.loop-seq-smaller
loop-seq-smaller c =
    let items = c.loop-seq.index.messages.items in
    let step = subject_step c.args.pattern.now c.args.below c.in-Some.seq (rows_of items) (rows_rise items c.loop-seq.invariant.indexed.rises) c.requires.literal (ap (λ (s : List ℕ). below_in c.args.below (seq_in (slice_get (filter (is_of s) (rows_of items)) 0))) (sym c.bytes.ensures.value) ∙ (sym c.first_below.ensures ∙ c.in-Some.is)) in
    subst (λ (rs : List Numbered). length rs < length (rows_of items)) (sym c.delete.ensures.rows) step.1

pub loop-seq-preserved : goal.loop-seq-preserved
loop-seq-preserved c =
    let items = c.loop-seq.index.messages.items in
    let step = subject_step c.args.pattern.now c.args.below c.in-Some.seq (rows_of items) (rows_rise items c.loop-seq.invariant.indexed.rises) c.requires.literal (ap (λ (s : List ℕ). below_in c.args.below (seq_in (slice_get (filter (is_of s) (rows_of items)) 0))) (sym c.bytes.ensures.value) ∙ (sym c.first_below.ensures ∙ c.in-Some.is)) in
    record {
      indexed = c.delete.ensures.indexed;
      rest = ap (λ (rs : List Numbered). filter (λ row. not (is_purged c.args.pattern.now c.args.below row)) rs) c.delete.ensures.rows ∙ (step.0 ∙ c.loop-seq.invariant.rest);
      ready = c.delete.ensures.ready ∙ c.loop-seq.invariant.ready;
    }

pub returns-clause-rows : goal.returns-clause-rows
returns-clause-rows c =
    let items = c.loop-seq.index.messages.items in
    subject_end c.args.pattern.now c.args.below (rows_of items) (rows_rise items c.loop-seq.invariant.indexed.rises) c.requires.literal (ap (λ (s : List ℕ). below_in c.args.below (seq_in (slice_get (filter (is_of s) (rows_of items)) 0))) (sym c.bytes.ensures.value) ∙ (sym c.first_below.ensures ∙ c.in_default.is))
    ∙ c.loop-seq.invariant.rest
