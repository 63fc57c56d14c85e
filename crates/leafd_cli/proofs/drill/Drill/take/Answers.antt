use Rattle.std.proofs.Common.{◌+◌, inr, ap, ◌∙◌}
use Rattle.leafd_cli.specs.Plain.{Progress}
use Rattle.leafd_cli.proofs.Books.{takes, breaks, made_on}
use Rattle.leafd_cli.proofs.drill.Drill.take.Goals as goal

pub returns-in-Ok-pump_all-clause-turn : goal.returns-in-Ok-pump_all-clause-turn
returns-in-Ok-pump_all-clause-turn g c =
    takes c.args.self.now (record { bytes = c.args.line.now; ended = c.args.ended }) c.in-Ok.said c.self.inside.world (c.self.inside.number + 1) c.deref.result.now (g.O.Sink.taken c.args.out.now) (g.O.Sink.taken c.pump_all.new.sink)
    (record { copies = c.requires.kept.copies; numbers = c.requires.kept.numbers }) c.in-Ok.ensures.said c.in-Ok.ensures.legal (made_on c.in-Ok.said c.in-Ok.ensures.made)
    (ap (λ (p : Progress). p.logs) c.self.view_is ∙ c.in-Ok-step.ensures.logs) (ap (λ (p : Progress). p.number + 1) c.self.view_is ∙ ap (λ n. n + 1) c.in-Ok-step.ensures.number)
    (c.deref.ensures.value ∙ c.in-Ok-step.ensures.text) c.in-Ok-pump_all.ensures.bytes

pub returns-clause-turn : goal.returns-clause-turn
returns-clause-turn g c =
    inr (breaks c.args.self.now (record { bytes = c.args.line.now; ended = c.args.ended }) c.in-Ok.said c.deref.result.now (g.O.Sink.taken c.args.out.now) (g.O.Sink.taken c.pump_all.new.sink)
    (record { copies = c.requires.kept.copies; numbers = c.requires.kept.numbers }) c.in-Ok.ensures.said c.in-Ok.ensures.legal (made_on c.in-Ok.said c.in-Ok.ensures.made)
    (c.deref.ensures.value ∙ c.in-Ok-step.ensures.text) c.in-Err-pump_all.ensures.bytes)
