use Rattle.std.proofs.Common.{◌&&◌, sym, ap, ◌∙◌}
use Rattle.nats_text.specs.Matching.{overlap}
use Rattle.nats_text.proofs.Tokens.{overlap_more, overlap_short}
use Rattle.nats_text.proofs.matching.texts_overlap.Goals as goal

pub returns-in_default-cut : goal.returns-in_default-cut
returns-in_default-cut c =
    c.is_tail.ensures ∙ (sym (overlap_short c.loop-part.rest.now c.loop-part.other_rest.now c.in-Some.part.now c.in-Some.after.now c.in-Some.ensures.parts c.in_default-cut.ensures.parts) ∙ c.loop-part.invariant)

pub returns-then-not-meets : goal.returns-then-not-meets
returns-then-not-meets c =
    let a = c.in-Some.after.now in
    let b = c.in-Some-cut.other_after.now in
    let e = overlap_more c.loop-part.rest.now c.loop-part.other_rest.now c.in-Some.part.now c.in-Some-cut.other.now a b c.in-Some.ensures.parts c.in-Some-cut.ensures.parts in
    ap (λ t. t && overlap a b) (sym c.if-not-meets.true ∙ c.meets.ensures) ∙ (sym e ∙ c.loop-part.invariant)

pub loop-part-preserved : goal.loop-part-preserved
loop-part-preserved c =
    let a = c.in-Some.after.now in
    let b = c.in-Some-cut.other_after.now in
    let e = overlap_more c.loop-part.rest.now c.loop-part.other_rest.now c.in-Some.part.now c.in-Some-cut.other.now a b c.in-Some.ensures.parts c.in-Some-cut.ensures.parts in
    ap (λ t. t && overlap a b) (sym c.if-not-meets.false ∙ c.meets.ensures) ∙ (sym e ∙ c.loop-part.invariant)
