use Rattle.shard_streams.proofs.Decides.{updates-none}
use Rattle.shard_streams.proofs.streams.Streams.updates.Goals as goal

pub returns-in-None : goal.returns-in-None
returns-in-None c = λ v holds. updates-none v c.args.config.now (c.in-None.ensures v.image holds)

pub returns-in-Some : goal.returns-in-Some
returns-in-Some c = λ v holds. c.update.ensures v (c.in-Some.ensures v.image holds)
