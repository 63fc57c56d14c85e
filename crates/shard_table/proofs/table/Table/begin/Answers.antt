use Rattle.std.proofs.Common.{refl, sym}
use Rattle.shard_table.specs.Effects.{opened}
use Rattle.shard_table.specs.Holding.{node_in}
use Rattle.shard_table.proofs.Beginning.{begins}
use Rattle.shard_table.proofs.table.Table.begin.Goals as goal

pub returns-clause-held : goal.returns-clause-held
returns-clause-held c = λ i image.
    let boot = c.boot-boot.ensures i image in
    begins _ (node_in c.args.self.now) i c.boot-boot.result image boot c.begin.ensures (c.begin-2.ensures.shown (opened (node_in c.args.self.now) i) refl (sym boot))
