use Rattle.std.proofs.Common.{◌≡◌, ◌<◌, length, subst, arith}
use Rattle.std.proofs.lemmas.Bool.{ltb-true}
use Rattle.nats_frames.specs.Feeds.{Held}
use Rattle.nats_frames.proofs.Feeds.{alone_waits}
use Rattle.nats_frames.proofs.intake.Intake.waits.Goals as goal

pub returns-clause-few : goal.returns-clause-few
returns-clause-few c = λ h.
    let it = c.self.inside in
    let few : length it.backlog.bytes < it.wanted = omega (arith, ltb-true c.len.result it.wanted h, c.len.ensures) in
    subst (λ (v : Held). length v.pending.rest < v.wanted) c.self.view_is few

pub returns-clause-rest : goal.returns-clause-rest
returns-clause-rest c = λ h.
    let it = c.self.inside in
    let few : length it.backlog.bytes < it.wanted = omega (arith, ltb-true c.len.result it.wanted h, c.len.ensures) in
    subst (λ (v : Held). v.held ≡ length v.pending.rest) c.self.view_is (alone_waits it.backlog it.wanted it.refused c.self.invariant.1 few)
