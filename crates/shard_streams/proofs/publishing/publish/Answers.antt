use Rattle.std.proofs.Common.{sym, ap, ◌∙◌}
use Rattle.stream_fold.specs.declared.config.Config.{Config}
use Rattle.shard_machine.specs.Answers.{takes_subject}
use Rattle.shard_streams.proofs.Publishes.{plans-other}
use Rattle.shard_streams.proofs.publishing.publish.Goals as goal

pub returns-then-takes_subject : goal.returns-then-takes_subject
returns-then-takes_subject c = λ v name live.
    c.publish_taken.ensures v name live (ap (λ (x : Config). takes_subject x c.args.message.now.subject) (sym c.config.ensures) ∙ (sym c.takes_subject.ensures ∙ c.if-takes_subject.true))

pub returns-else-takes_subject : goal.returns-else-takes_subject
returns-else-takes_subject c =
    plans-other c.facts_of_histories.ensures.tell c.args.standing.now c.args.message.now c.args.now
    (ap (λ (x : Config). takes_subject x c.args.message.now.subject) (sym c.config.ensures) ∙ (sym c.takes_subject.ensures ∙ c.if-takes_subject.false))
