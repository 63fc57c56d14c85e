use Rattle.shard_streams.proofs.Removals.{deletes-none, deletes-some}
use Rattle.shard_streams.proofs.removing.delete.Goals as goal

pub returns-in-None : goal.returns-in-None
returns-in-None c = deletes-none c.facts_of_histories.ensures.tell c.args.standing.now c.args.seq c.in-None.ensures

pub returns-in-Some : goal.returns-in-Some
returns-in-Some c = deletes-some c.facts_of_histories.ensures.tell c.args.standing.now c.args.seq c.in-Some.field-0.now c.in-Some.ensures
