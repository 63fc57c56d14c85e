use Rattle.std.proofs.Common.{◌≡◌, ◌≤◌, List, ℕ, length, take, true, sym, subst}
use Rattle.std.specs.Result.{IfOk}
use Rattle.nats_frames.specs.Lines.{has_no_feed}
use Rattle.nats_frames.specs.Feeds.{Held}
use Rattle.nats_frames.specs.Stream.{first_by}
use Rattle.nats_frames.proofs.intake.Intake.front.Goals as goal

pub beginning_from-requires-clause-looked : goal.beginning_from-requires-clause-looked
beginning_from-requires-clause-looked g c = subst (λ (b : List ℕ). c.self.inside.looked ≤ length b) (sym c.bytes.ensures) c.self.invariant.0.within

pub beginning_from-requires-clause-none : goal.beginning_from-requires-clause-none
beginning_from-requires-clause-none g c = subst (λ (b : List ℕ). has_no_feed (take c.self.inside.looked b) ≡ true) (sym c.bytes.ensures) c.self.invariant.0.none

pub returns : goal.returns
returns g c =
    let it = c.self.inside in
    let r = c.beginning_from.result in
    let p = g.P.Protocol in
    subst (λ (v : Held). IfOk r (λ f. f ≡ first_by p.most (p.said c.args.protocol.now) p.framed v.pending.rest)) c.self.view_is
    (subst (λ (b : List ℕ). IfOk r (λ f. f ≡ first_by p.most (p.said c.args.protocol.now) p.framed b)) c.bytes.ensures c.beginning_from.ensures)
