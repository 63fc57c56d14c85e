use Rattle.std.proofs.Common.{◌&&◌, sym, ◌∙◌, ap}
use Rattle.nats_text.specs.Matching.{match_tokens, matches}
use Rattle.nats_text.specs.Text.{tokens}
use Rattle.nats_text.proofs.Tokens.{matches_more, matches_short}
use Rattle.nats_text.proofs.matching.text_matches.Goals as goal

pub returns-in_default-cut : goal.returns-in_default-cut
returns-in_default-cut c =
    sym (matches_short c.loop-part.wanted.now c.loop-part.rest.now c.in-Some.part.now c.in-Some.wanted_after.now c.in-Some.ensures.parts c.in_default-cut.ensures.parts) ∙ c.loop-part.invariant

pub returns-then-not-takes : goal.returns-then-not-takes
returns-then-not-takes c =
    let w = c.in-Some.wanted_after.now in
    let r = c.in-Some-cut.rest_after.now in
    let e = matches_more c.loop-part.wanted.now c.loop-part.rest.now c.in-Some.part.now c.in-Some-cut.token.now w r c.in-Some.ensures.parts c.in-Some-cut.ensures.parts in
    ap (λ b. b && matches w r) (sym c.if-not-takes.true ∙ c.takes.ensures) ∙ (sym e ∙ c.loop-part.invariant)

pub loop-part-preserved : goal.loop-part-preserved
loop-part-preserved c =
    let w = c.in-Some.wanted_after.now in
    let r = c.in-Some-cut.rest_after.now in
    let e = matches_more c.loop-part.wanted.now c.loop-part.rest.now c.in-Some.part.now c.in-Some-cut.token.now w r c.in-Some.ensures.parts c.in-Some-cut.ensures.parts in
    ap (λ b. b && matches w r) (sym c.if-not-takes.false ∙ c.takes.ensures) ∙ (sym e ∙ c.loop-part.invariant)

pub returns : goal.returns
returns c =
    c.last_takes.ensures ∙ (ap (λ ps. match_tokens ps (tokens c.loop-part.rest.now)) (sym c.in_default.ensures.parts) ∙ c.loop-part.invariant)
