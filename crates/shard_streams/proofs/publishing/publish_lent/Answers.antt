use Rattle.std.proofs.Common.{Err, sym, subst}
use Rattle.shard_machine.specs.declared.reply.ShardRefusal.{ShardRefusal}
use Rattle.shard_streams.specs.Plans.{PlansPublish}
use Rattle.shard_streams.proofs.Publishes.{copy-stores, plans-copy, plans-refused, plans-repeat}
use Rattle.shard_streams.proofs.publishing.publish_lent.Goals as goal

pub returns-in-Ok-Fresh : goal.returns-in-Ok-Fresh
returns-in-Ok-Fresh c = λ v name known is.
    plans-copy c.facts_of_histories.ensures.tell c.facts_of_publishes.ensures.verdicts c.facts_of_publishes.ensures.keep c.args.standing.now c.args.message.now c.args.now v name known is c.store_copy.result
    (rw c.in-Ok-Fresh.field-0-is at (c.in-Ok-Fresh.ensures is.history is.state))
    (copy-stores c.args.standing.now c.args.message.now c.args.now c.store_copy.result c.store_copy.ensures.ok c.store_copy.ensures.bound c.store_copy.ensures.err)

pub returns-in-Ok-Duplicate : goal.returns-in-Ok-Duplicate
returns-in-Ok-Duplicate c = λ v name known is.
    plans-repeat c.facts_of_histories.ensures.tell c.facts_of_publishes.ensures.verdicts c.facts_of_publishes.ensures.keep c.args.standing.now c.args.message.now c.args.now v name known is c.repeat.result c.in-Ok-Duplicate.seq
    (rw c.in-Ok-Duplicate.field-0-is at (c.in-Ok-Duplicate.ensures is.history is.state)) c.repeat.ensures.entry c.repeat.ensures.outcome

pub returns-in-Err : goal.returns-in-Err
returns-in-Err c = λ v name known is.
    subst (λ (w : ShardRefusal). PlansPublish v name known.stream c.args.message.now c.args.now (Err w)) (sym c.refusal_for.ensures)
    (plans-refused c.facts_of_histories.ensures.tell c.facts_of_publishes.ensures.verdicts c.facts_of_publishes.ensures.keep c.args.standing.now c.args.message.now c.args.now v name known is c.in-Err.why (c.in-Err.ensures is.history is.state))
