use Rattle.std.proofs.Common.{◌≡◌, true, false, drop, sym, ap, refl, ◌∙◌, arith}
use Rattle.nats_text.specs.Sizes.{size}
use Rattle.stream_fold.specs.Histories.{are_within}
use Rattle.stream_fold.proofs.Trims.{passes, within_all}
use Rattle.stream_fold.proofs.Totals.{counts_rest, size_of-at}
use Rattle.stream_fold.proofs.trim.excess_of.Goals as goal

pub overflow_sub-total : goal.overflow_sub-total
overflow_sub-total c =
    let at = size_of-at c.args.rows.now c.loop-excess.excess c.index-rows-excess.result c.loop-excess-test.true c.index-rows-excess.is in
    omega (arith, c.size.ensures, ap (λ r. size r.message) c.index-rows-excess.is, at, c.loop-excess.invariant.total)

pub loop-excess-preserved : goal.loop-excess-preserved
loop-excess-preserved c =
    let rows = c.args.rows.now in
    let i = c.loop-excess.excess in
    let over : are_within c.args.config.now (drop i rows) ≡ false = sym (counts_rest c.args.config.now rows i _ c.loop-excess.invariant.total) ∙ (sym c.are_within.ensures ∙ c.if-not-are_within.true) in
    record {
      within = omega arith;
      rest = passes c.args.config.now rows _ i c.loop-excess-test.true refl over c.loop-excess.invariant.rest;
      total = (let at = size_of-at rows i c.index-rows-excess.result c.loop-excess-test.true c.index-rows-excess.is in omega (arith, c.size.ensures, c.size.type_inv, ap (λ r. size r.message) c.index-rows-excess.is, at, c.loop-excess.invariant.total));
    }

pub returns-else-not-are_within-clause-value : goal.returns-else-not-are_within-clause-value
returns-else-not-are_within-clause-value c =
    let rows = c.args.rows.now in
    let i = c.loop-excess.excess in
    let e : are_within c.args.config.now (drop i rows) ≡ true = sym (counts_rest c.args.config.now rows i _ c.loop-excess.invariant.total) ∙ (sym c.are_within.ensures ∙ c.if-not-are_within.false) in
    sym (within_all c.args.config.now (drop i rows) e) ∙ c.loop-excess.invariant.rest
