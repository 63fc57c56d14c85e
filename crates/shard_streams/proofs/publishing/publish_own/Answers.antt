use Rattle.std.proofs.Common.{Err, sym, subst}
use Rattle.shard_machine.specs.declared.reply.ShardRefusal.{ShardRefusal}
use Rattle.shard_streams.specs.Plans.{PlansPublish}
use Rattle.shard_streams.proofs.Publishes.{plans-fresh, plans-refused, plans-repeat}
use Rattle.shard_streams.proofs.publishing.publish_own.Goals as goal

pub returns-in-Ok-Fresh : goal.returns-in-Ok-Fresh
returns-in-Ok-Fresh c = λ v name known is.
    plans-fresh c.facts_of_histories.ensures.tell c.facts_of_publishes.ensures.verdicts c.facts_of_publishes.ensures.keep c.args.standing.now c.args.message c.args.now v name known is c.store.result
    (rw c.in-Ok-Fresh.field-0-is at (c.in-Ok-Fresh.ensures is.history is.state)) c.store.ensures.bound c.store.ensures.entry c.store.ensures.outcome

pub returns-in-Ok-Duplicate : goal.returns-in-Ok-Duplicate
returns-in-Ok-Duplicate c = λ v name known is.
    plans-repeat c.facts_of_histories.ensures.tell c.facts_of_publishes.ensures.verdicts c.facts_of_publishes.ensures.keep c.args.standing.now c.args.message c.args.now v name known is c.repeat.result c.in-Ok-Duplicate.seq
    (rw c.in-Ok-Duplicate.field-0-is at (c.in-Ok-Duplicate.ensures is.history is.state)) c.repeat.ensures.entry c.repeat.ensures.outcome

pub returns-in-Err : goal.returns-in-Err
returns-in-Err c = λ v name known is.
    subst (λ (w : ShardRefusal). PlansPublish v name known.stream c.args.message c.args.now (Err w)) (sym c.refusal_for.ensures)
    (plans-refused c.facts_of_histories.ensures.tell c.facts_of_publishes.ensures.verdicts c.facts_of_publishes.ensures.keep c.args.standing.now c.args.message c.args.now v name known is c.in-Err.why (c.in-Err.ensures is.history is.state))
