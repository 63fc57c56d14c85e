use Rattle.std.proofs.Common.{sym, ap}
use Rattle.shard_machine.specs.Answers.{publishes}
use Rattle.shard_streams.proofs.streams.Streams.publishes.Goals as goal

pub returns-in-None : goal.returns-in-None
returns-in-None c = λ v holds. sym (ap (publishes v c.args.name.now c.args.message.now c.args.now) (c.in-None.ensures v.image holds))

pub returns-in-Some : goal.returns-in-Some
returns-in-Some c = λ v holds. c.publish.ensures v c.args.name.now (c.in-Some.ensures v.image holds)
