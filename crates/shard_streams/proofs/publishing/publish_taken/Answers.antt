use Rattle.std.proofs.Common.{List, ℕ, ap}
use Rattle.shard_streams.proofs.Publishes.{plans-taken}
use Rattle.shard_streams.proofs.publishing.publish_taken.Goals as goal

pub returns-in-Ok-None : goal.returns-in-Ok-None
returns-in-Ok-None c =
    plans-taken c.facts_of_histories.ensures.tell c.args.standing.now c.args.message.now c.args.message.now c.args.now c.publish_lent.result
    (ap (λ (s : List ℕ). record c.args.message.now { subject = s }) (rw c.in-Ok-None.field-0-is at c.in-Ok-None.ensures.stored)) c.publish_lent.ensures

pub returns-in-Ok-Some : goal.returns-in-Ok-Some
returns-in-Ok-Some c =
    plans-taken c.facts_of_histories.ensures.tell c.args.standing.now c.args.message.now (record c.args.message.now { subject = c.in-Ok-Some.subject }) c.args.now c.publish_under.result
    (ap (λ (s : List ℕ). record c.args.message.now { subject = s }) (rw c.in-Ok-Some.field-0-is at c.in-Ok-Some.ensures.stored)) c.publish_under.ensures
