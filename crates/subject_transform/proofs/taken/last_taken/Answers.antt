use Rattle.std.proofs.Common.{sym, ap, ◌∙◌}
use Rattle.std.specs.List.{join_with_byte}
use Rattle.nats_text.specs.Text.{tokens}
use Rattle.subject_transform.specs.Values.{last_taken}
use Rattle.subject_transform.proofs.Tokens.{last_more, last_short, join_pieces}
use Rattle.subject_transform.proofs.taken.last_taken.Goals as goal

pub returns-in_default-cut : goal.returns-in_default-cut
returns-in_default-cut c =
    let e = last_short c.loop-wanted_after.wanted.now c.loop-wanted_after.rest.now c.in-Some.field-0-0.now c.in-Some.wanted_after.now c.in-Some.ensures.parts c.in_default-cut.ensures.parts in
    ap (λ ts. join_with_byte 46 ts) (sym e ∙ c.loop-wanted_after.invariant)

pub loop-wanted_after-preserved : goal.loop-wanted_after-preserved
loop-wanted_after-preserved c =
    sym (last_more c.loop-wanted_after.wanted.now c.loop-wanted_after.rest.now c.in-Some.field-0-0.now c.in-Some-cut.field-0-0.now c.in-Some.wanted_after.now c.in-Some-cut.rest_after.now c.in-Some.ensures.parts c.in-Some-cut.ensures.parts) ∙ c.loop-wanted_after.invariant

pub returns : goal.returns
returns c =
    let rest = c.loop-wanted_after.rest.now in
    sym (join_pieces 46 rest) ∙ ap (λ ts. join_with_byte 46 ts) (ap (λ ps. last_taken ps (tokens rest)) (sym c.in_default.ensures.parts) ∙ c.loop-wanted_after.invariant)
