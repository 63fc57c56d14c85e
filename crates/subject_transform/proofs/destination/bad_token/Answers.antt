use Rattle.std.proofs.Common.{◌≡◌, ◌∙◌, ◌+◌, length, arith}
use Rattle.nats_text.specs.Text.{tokens}
use Rattle.subject_transform.proofs.Destinations.{fault_here, fault_step, cut_length}
use Rattle.subject_transform.proofs.destination.bad_token.Goals as goal

pub returns-in-Err : goal.returns-in-Err
returns-in-Err c =
    fault_here c.args.stars c.args.wants_tail c.loop-token.place c.loop-token.rest.now c.in-Some.token.now c.in-Some.after.now c.in-Err.kind c.in-Some.ensures.parts c.in-Err.ensures.value
    ∙ c.loop-token.invariant.fault

pub loop-token-preserved : goal.loop-token-preserved
loop-token-preserved c =
    let l = cut_length 46 c.loop-token.rest.now c.in-Some.token.now c.in-Some.after.now c.in-Some.ensures.parts in
    let before = c.loop-token.invariant.at in
    record {
      fault = fault_step c.args.stars c.args.wants_tail c.loop-token.place c.loop-token.rest.now c.in-Some.token.now c.in-Some.after.now _ c.in-Some.ensures.parts c.in-Ok.ensures.value ∙ c.loop-token.invariant.fault;
      at = omega (arith, l, before);
    }
