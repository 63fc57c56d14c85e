use Rattle.std.proofs.Common.{◌≡◌, ◌∙◌, ◌++◌, ◌∷◌, [], ap}
use Rattle.nats_text.specs.Text.{tokens}
use Rattle.subject_transform.proofs.Destinations.{text_none_here, text_step}
use Rattle.subject_transform.proofs.destination.tokens_text.Goals as goal

pub returns-in-Err : goal.returns-in-Err
returns-in-Err c =
    text_none_here (tokens c.args.source.now) (tokens c.args.subject.now) c.args.stars c.args.wants_tail c.loop-token.rest.now c.in-Some.token.now c.in-Some.after.now c.in-Err.field-0 c.loop-token.buf.items _ c.in-Some.ensures.parts c.in-Err.ensures.value c.loop-token.invariant

pub loop-token-preserved : goal.loop-token-preserved
loop-token-preserved c =
    text_step (tokens c.args.source.now) (tokens c.args.subject.now) c.args.stars c.args.wants_tail c.loop-token.rest.now c.in-Some.token.now c.in-Some.after.now _ c.loop-token.buf.items _ _ c.in-Some.ensures.parts c.in-Ok.ensures.value
    (c.in_ok-push-in-Ok.ensures.items ∙ ap (λ t. t ++ 46 ∷ []) c.in_ok-push_value-in-Ok.ensures) c.loop-token.invariant
