use Rattle.std.proofs.Common.{◌≡◌, ◌≤◌, length, None, sym, subst}
use Rattle.nats_frames.specs.Feeds.{Held}
use Rattle.nats_frames.proofs.Feeds.{looked_nowhere, alone_free}
use Rattle.nats_frames.proofs.intake.Intake.advance.Goals as goal

pub advance-requires : goal.advance-requires
advance-requires c = subst (λ (v : Held). c.args.len ≤ length v.pending.rest) (sym c.self.view_is) c.requires.within

pub invariant_of-self : goal.invariant_of-self
invariant_of-self c =
    let none = subst (λ (v : Held). v.pending.refused ≡ None) (sym c.self.view_is) c.requires.standing in
    (looked_nowhere _, alone_free _ c.self.inside.refused none)
