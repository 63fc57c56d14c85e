use Rattle.std.proofs.Common.{◌&&◌, sym, ap, ◌∙◌}
use Rattle.nats_text.specs.Matching.{is_within}
use Rattle.nats_text.proofs.Tokens.{within_more, within_short}
use Rattle.nats_text.proofs.matching.text_within.Goals as goal

pub returns-in_default-cut : goal.returns-in_default-cut
returns-in_default-cut c =
    c.is_tail.ensures ∙ (sym (within_short c.loop-part.rest.now c.loop-part.wider_rest.now c.in-Some.part.now c.in-Some.after.now c.in-Some.ensures.parts c.in_default-cut.ensures.parts) ∙ c.loop-part.invariant)

pub returns-then-not-takes : goal.returns-then-not-takes
returns-then-not-takes c =
    let a = c.in-Some.after.now in
    let b = c.in-Some-cut.wider_after.now in
    let e = within_more c.loop-part.rest.now c.loop-part.wider_rest.now c.in-Some.part.now c.in-Some-cut.wider.now a b c.in-Some.ensures.parts c.in-Some-cut.ensures.parts in
    ap (λ t. t && is_within a b) (sym c.if-not-takes.true ∙ c.takes.ensures) ∙ (sym e ∙ c.loop-part.invariant)

pub loop-part-preserved : goal.loop-part-preserved
loop-part-preserved c =
    let a = c.in-Some.after.now in
    let b = c.in-Some-cut.wider_after.now in
    let e = within_more c.loop-part.rest.now c.loop-part.wider_rest.now c.in-Some.part.now c.in-Some-cut.wider.now a b c.in-Some.ensures.parts c.in-Some-cut.ensures.parts in
    ap (λ t. t && is_within a b) (sym c.if-not-takes.false ∙ c.takes.ensures) ∙ (sym e ∙ c.loop-part.invariant)
