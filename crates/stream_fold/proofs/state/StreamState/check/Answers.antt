use Rattle.std.proofs.Common.{ap, subst}
use Rattle.stream_fold.specs.Held.{Held, State}
use Rattle.stream_fold.specs.Publishing.{GivesVerdict}
use Rattle.stream_fold.specs.Parts.{verdict_held}
use Rattle.stream_fold.proofs.Stepping.{gives_verdict}
use Rattle.stream_fold.proofs.state.StreamState.check.Goals as goal

pub returns : goal.returns
returns c = λ h s. gives_verdict c.args.self.now h c.args.message.now c.args.now c.verdict.result s
    (subst (λ (k : Held). GivesVerdict c.verdict.result (verdict_held k c.args.message.now c.args.now)) (ap (λ (s : State). s.held) c.self.view_is) c.verdict.ensures)
