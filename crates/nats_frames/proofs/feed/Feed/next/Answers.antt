use Rattle.std.proofs.Common.{subst}
use Rattle.std.specs.Prelude.{IfOk, IfSome}
use Rattle.nats_frames.specs.Feeds.{Reading}
use Rattle.nats_frames.specs.Kinds.{IsOf}
use Rattle.nats_frames.proofs.Givings.{given_of_side, given_texts}
use Rattle.nats_frames.proofs.feed.Feed.next.Goals as goal

pub returns-clause-kind : goal.returns-clause-kind
returns-clause-kind c =
    let it = c.self.inside in
    subst (λ (v : Reading). IfOk c.next.result (λ answer. IfSome answer (λ frame. IsOf v.side frame))) c.self.view_is
    (given_of_side c.written_frames.ensures.kinds it.side it.intake.pending c.next.new.self.pending c.next.result c.next.ensures.gives)

pub returns-clause-texts : goal.returns-clause-texts
returns-clause-texts c =
    let it = c.self.inside in
    given_texts c.written_frames.ensures.kinds it.side it.intake.pending c.next.new.self.pending c.next.result c.next.ensures.gives
