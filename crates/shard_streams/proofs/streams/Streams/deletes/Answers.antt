use Rattle.std.proofs.Common.{sym, ap}
use Rattle.shard_machine.specs.Answers.{deletes}
use Rattle.shard_streams.proofs.streams.Streams.deletes.Goals as goal

pub returns-in-None : goal.returns-in-None
returns-in-None c = λ v holds. sym (ap (deletes v c.args.name.now c.args.seq) (c.in-None.ensures v.image holds))

pub returns-in-Some : goal.returns-in-Some
returns-in-Some c = λ v holds. c.delete.ensures v c.args.name.now (c.in-Some.ensures v.image holds)
