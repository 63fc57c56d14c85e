use Rattle.shard_streams.proofs.ShownFacts.{finds-none, finds-row}
use Rattle.shard_streams.proofs.reading.find_in.Goals as goal

pub returns-in-Ok-Some : goal.returns-in-Ok-Some
returns-in-Ok-Some c = finds-row c.facts_of_histories.ensures.tell c.args.standing.now c.args.which.now c.in-Ok-Some.row (rw c.in-Ok-Some.field-0-is at c.in-Ok-Some.ensures)

pub returns-in-Ok-None : goal.returns-in-Ok-None
returns-in-Ok-None c = finds-none c.facts_of_histories.ensures.tell c.args.standing.now c.args.which.now (rw c.in-Ok-None.field-0-is at c.in-Ok-None.ensures)
