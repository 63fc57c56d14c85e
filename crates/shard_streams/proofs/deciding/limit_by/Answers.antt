use Rattle.std.proofs.Common.{ap, ◌∙◌}
use Rattle.std.proofs.lemmas.Bool.{both_ways}
use Rattle.stream_fold.specs.declared.config.Config.{Config}
use Rattle.shard_machine.specs.Answers.{changed_member}
use Rattle.shard_streams.proofs.Decides.{updates-changed, updates-limits}
use Rattle.shard_streams.proofs.deciding.limit_by.Goals as goal

pub returns-then-fits : goal.returns-then-fits
returns-then-fits c = λ v live fault is.
    updates-limits c.facts_of_histories.ensures.tell c.args.standing.now c.args.config.now c.args.entry v live fault is ((c.fits.ensures live.2.history live.2.state).0 c.if-fits.true)

pub returns-in-Ok : goal.returns-in-Ok
returns-in-Ok c = λ v live fault is.
    updates-changed c.facts_of_histories.ensures.tell c.args.standing.now c.args.config.now c.args.entry c.in-Ok.member v live fault is
    (λ fits. both_ways c.fits.result c.if-fits.false ((c.fits.ensures live.2.history live.2.state).1 fits))
    (c.in-Ok.ensures ∙ ap (λ (old : Config). changed_member old c.args.config.now) c.config.ensures)
