use Rattle.std.proofs.Common.{sym, ◌∙◌}
use Rattle.std.specs.Option.{option_copied}
use Rattle.std.proofs.lemmas.Result.{IfOk-weaker}
use Rattle.nats_frames.proofs.Deliveries.{delivered_is}
use Rattle.nats_frames.proofs.messages.delivery.Goals as goal

pub returns-clause-said : goal.returns-clause-said
returns-clause-said c =
    let a = c.args in
    let is = delivered_is a.headers a.subject.now a.sid.now (option_copied a.reply) a.block a.size c.in_ok-address.address (sym c.is_short.ensures ∙ c.if-not-is_short.false) c.in_ok-address.ensures in
    IfOk-weaker c.delivered.result _ _ (λ it h. h ∙ is) c.delivered.ensures.said
