use Rattle.std.proofs.Common.{◌≡◌, length, subst}
use Rattle.std.specs.Prelude.{OnSome}
use Rattle.nats_frames.specs.Feeds.{Held}
use Rattle.nats_frames.proofs.Feeds.{alone_refused}
use Rattle.nats_frames.proofs.intake.Intake.refused.Goals as goal

pub returns-clause-rest : goal.returns-clause-rest
returns-clause-rest c =
    let it = c.self.inside in
    subst (λ (v : Held). OnSome it.refused (v.held ≡ length v.pending.rest)) c.self.view_is (alone_refused it.backlog it.wanted it.refused c.self.invariant.1)
