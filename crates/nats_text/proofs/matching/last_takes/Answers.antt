use Rattle.std.proofs.Common.{sym, ◌∙◌}
use Rattle.nats_text.proofs.Tokens.{last_short}
use Rattle.nats_text.proofs.matching.last_takes.Goals as goal

pub returns-in-Some : goal.returns-in-Some
returns-in-Some c =
    c.is_tail-in-Some.ensures ∙ sym (last_short c.args.part.now c.args.rest.now c.in-Some.field-0.0.now c.in-Some.field-0.1.now c.in-Some.ensures.parts)
