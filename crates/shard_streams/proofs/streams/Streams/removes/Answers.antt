use Rattle.std.proofs.Common.{sym, ap}
use Rattle.shard_machine.specs.Answers.{removes}
use Rattle.shard_streams.proofs.Decides.{removes-live}
use Rattle.shard_streams.proofs.streams.Streams.removes.Goals as goal

pub returns-in-None : goal.returns-in-None
returns-in-None c = λ v holds. sym (ap (removes v c.args.name.now) (c.in-None.ensures v.image holds))

pub returns-in-Some : goal.returns-in-Some
returns-in-Some c = λ v holds. removes-live v c.args.name.now c.in-Some.field-0.now (c.in-Some.ensures v.image holds) (tt {0})
