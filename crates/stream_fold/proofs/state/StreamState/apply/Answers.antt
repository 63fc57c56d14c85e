use Rattle.std.proofs.Common.{rules, sym, subst}
use Rattle.stream_fold.specs.Held.{State}
use Rattle.stream_fold.specs.Parts.{held_in}
use Rattle.stream_fold.proofs.Fitting.{IsNext}
use Rattle.stream_fold.proofs.Settling.{settled_after, next_for}
use Rattle.stream_fold.proofs.Stepping.{stands_on}
use Rattle.stream_fold.proofs.state.StreamState.apply.Goals as goal

pub invariant_of-self : goal.invariant_of-self
invariant_of-self c =
    let fits = c.requires.fits in
    let next = next_for c.args.self.now fits.0 c.args.entry fits.1 fits.2 in
    record {
      settled = settled_after (held_in c.self.inside.parts) _ c.args.entry (subst (λ (s : State). IsNext s.held.last c.args.entry) (sym c.self.view_is) next) c.self.invariant.settled (search rules);
      transform = search rules;
    }

pub returns : goal.returns
returns c = record { history = stands_on c.args.self.now _ c.args.entry (search rules) }
