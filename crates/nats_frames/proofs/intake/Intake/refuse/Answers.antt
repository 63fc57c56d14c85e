use Rattle.std.proofs.Common.{◌≡◌, length, refl, sym, subst}
use Rattle.nats_frames.specs.Feeds.{Stock}
use Rattle.nats_frames.proofs.Feeds.{looked_nowhere}
use Rattle.nats_frames.proofs.intake.Intake.refuse.Goals as goal

pub invariant_of-self : goal.invariant_of-self
invariant_of-self c = (looked_nowhere _, λ h. subst (λ (s : Stock). s.held ≡ length s.bytes) (sym c.clear.ensures) refl)
