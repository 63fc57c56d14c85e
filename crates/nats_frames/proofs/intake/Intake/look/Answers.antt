use Rattle.std.proofs.Common.{◌≡◌, ◌≤◌, List, ℕ, length, take, true, sym, subst}
use Rattle.nats_frames.specs.Lines.{has_no_feed}
use Rattle.nats_frames.proofs.intake.Intake.look.Goals as goal

pub free_len-self-inside-requires-clause-looked : goal.free_len-self-inside-requires-clause-looked
free_len-self-inside-requires-clause-looked c = subst (λ (b : List ℕ). c.self.inside.looked ≤ length b) (sym c.bytes.ensures) c.self.invariant.0.within

pub free_len-self-inside-requires-clause-none : goal.free_len-self-inside-requires-clause-none
free_len-self-inside-requires-clause-none c = subst (λ (b : List ℕ). has_no_feed (take c.self.inside.looked b) ≡ true) (sym c.bytes.ensures) c.self.invariant.0.none

pub invariant_of-self : goal.invariant_of-self
invariant_of-self c = (
  record {
    within = subst (λ (b : List ℕ). c.free_len-self-inside.result ≤ length b) c.bytes.ensures c.free_len-self-inside.ensures.within;
    none = subst (λ (b : List ℕ). has_no_feed (take c.free_len-self-inside.result b) ≡ true) c.bytes.ensures c.free_len-self-inside.ensures.none;
  },
  c.self.invariant.1,
)
