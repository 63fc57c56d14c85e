use Rattle.std.proofs.Common.{sym, subst}
use Rattle.nats_frames.specs.Feeds.{Stock, IsLooked, IsAlone}
use Rattle.nats_frames.proofs.Feeds.{looked_on, alone_on}
use Rattle.nats_frames.proofs.intake.Intake.add.Goals as goal

pub invariant_of-self : goal.invariant_of-self
invariant_of-self c =
    let it = c.self.inside in
    subst (λ (s : Stock). IsLooked s.bytes it.looked × IsAlone s it.wanted it.refused) (sym c.in_err-add.ensures.err) c.self.invariant

pub invariant_of-self-2 : goal.invariant_of-self-2
invariant_of-self-2 c =
    let it = c.self.inside in
    let piece = c.args.piece.now in
    subst (λ (s : Stock). IsLooked s.bytes it.looked × IsAlone s it.wanted it.refused) (sym c.in_ok-add.ensures.ok)
    (looked_on it.backlog.bytes piece it.looked c.self.invariant.0, alone_on it.backlog piece it.wanted it.refused c.self.invariant.1)
