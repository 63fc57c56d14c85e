use Rattle.std.proofs.Common.{rules, refl}
use Rattle.shard_copies.proofs.Shows.{shows-none}
use Rattle.shard_copies.proofs.askers.Askers.begin.Goals as goal

pub returns-clause-shown : goal.returns-clause-shown
returns-clause-shown c = λ v node boot. shows-none _ v c.args.self.now.node c.args.boot (search rules) node boot
