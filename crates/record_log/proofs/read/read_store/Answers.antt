use Rattle.std.specs.Option.{option_map}
use Rattle.record_log.proofs.read.read_store.Goals as goal

pub returns-clause-answer : goal.returns-clause-answer
returns-clause-answer g c = λ tells. c.read_heads.ensures.answer (g.D.Disk.seen c.args.disk.now) (option_map g.D.Disk.seen c.args.spare.now) (c.in_ok-main.ensures.answer tells) (c.in_ok-other.ensures.answer tells)
