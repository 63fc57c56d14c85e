use Rattle.std.proofs.Common.{Bool, not, refl, sym, ◌∙◌, arith}
use Rattle.stream_fold.specs.declared.entry.Numbered.{Numbered}
use Rattle.stream_fold.specs.Histories.{is_purged}
use Rattle.indexed_rows.specs.Indexes.{rows_of}
use Rattle.indexed_rows.proofs.Walks.{pass_none, walked, pass_to, number_ge, walk_stops, walk_ends, not_below}
use Rattle.indexed_rows.proofs.purging.purge_each.Goals as goal

pub loop-seq-init : goal.loop-seq-init
loop-seq-init c = record { indexed = c.requires; rest = refl; pass = pass_none (λ row. not (is_purged c.args.pattern.now c.args.below row)) (rows_of c.args.index.now.messages.items); ready = refl }

pub loop-seq-smaller : goal.loop-seq-smaller
loop-seq-smaller c =
    let ge = number_ge c.loop-seq.next c.in-Some.seq c.loop-seq.index.messages.items (sym c.number_from.ensures ∙ c.in-Some.is) in
    let lt = c.if-below-seq.false in
    omega (arith, ge, lt)

pub loop-seq-preserved : goal.loop-seq-preserved
loop-seq-preserved c =
    let p : Numbered → Bool = λ row. not (is_purged c.args.pattern.now c.args.below row) in
    let i = c.loop-seq.invariant in
    record {
      indexed = c.purge_at.ensures.indexed;
      rest = c.purge_at.ensures.stay ∙ i.rest;
      pass = walked p c.loop-seq.next c.in-Some.seq c.loop-seq.index.messages.items c.purge_at.new.index.messages.items i.indexed.rises (sym c.number_from.ensures ∙ c.in-Some.is) i.pass c.purge_at.ensures.fewer c.purge_at.ensures.passes;
      ready = c.purge_at.ensures.ready ∙ i.ready;
    }

pub returns-then-below-seq-clause-rows : goal.returns-then-below-seq-clause-rows
returns-then-below-seq-clause-rows c =
    let p : Numbered → Bool = λ row. not (is_purged c.args.pattern.now c.args.below row) in
    let i = c.loop-seq.invariant in
    walk_stops p c.in-Some.seq (rows_of c.loop-seq.index.messages.items) (pass_to p c.loop-seq.next c.in-Some.seq c.loop-seq.index.messages.items i.indexed.rises (sym c.number_from.ensures ∙ c.in-Some.is) i.pass) (λ r at. not_below c.args.pattern.now c.args.below c.in-Some.seq r c.if-below-seq.true at)
    ∙ i.rest

pub returns-clause-rows : goal.returns-clause-rows
returns-clause-rows c =
    let p : Numbered → Bool = λ row. not (is_purged c.args.pattern.now c.args.below row) in
    walk_ends p c.loop-seq.next c.loop-seq.index.messages.items (sym c.number_from.ensures ∙ c.in_default.is) c.loop-seq.invariant.pass ∙ c.loop-seq.invariant.rest
