use Rattle.std.proofs.Common.{sym, ◌∙◌}
use Rattle.std.specs.Option.{option_copied}
use Rattle.std.proofs.lemmas.Result.{IfOk-weaker}
use Rattle.nats_text.specs.Pieces.{views}
use Rattle.leaf_frames.proofs.Addresses.{addressed_is}
use Rattle.leaf_frames.proofs.messages.addressed.Goals as goal

pub returns-clause-said : goal.returns-clause-said
returns-clause-said c =
    let a = c.args in
    let is = addressed_is a.subject.now (option_copied a.reply) (views a.queues.now) a.sizes c.in_ok-read.read (sym c.are_short.ensures ∙ c.if-not-are_short.false) c.in_ok-read.ensures in
    IfOk-weaker c.addressed_to.result _ _ (λ it h. h ∙ is) c.addressed_to.ensures.said
