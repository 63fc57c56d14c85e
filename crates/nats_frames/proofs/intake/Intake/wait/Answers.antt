use Rattle.std.proofs.Common.{List, ℕ, length, sym, ap, ◌∙◌, subst}
use Rattle.nats_frames.specs.Feeds.{IsLooked}
use Rattle.nats_frames.proofs.intake.Intake.wait.Goals as goal

pub invariant_of-self : goal.invariant_of-self
invariant_of-self c = (
  subst (λ (b : List ℕ). IsLooked b c.self.inside.looked) (sym c.settle.ensures.bytes) c.self.invariant.0,
  λ h. c.settle.ensures.held ∙ ap length (sym c.settle.ensures.bytes),
)
