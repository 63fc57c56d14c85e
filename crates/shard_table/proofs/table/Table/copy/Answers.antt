use Rattle.shard_table.proofs.Beginning.{seen-gone}
use Rattle.shard_table.proofs.table.Table.copy.Goals as goal

pub returns-in-None : goal.returns-in-None
returns-in-None c = λ v held. seen-gone v c.args.stream.now c.args.index (c.in-None.ensures v.image held.streams)

pub returns-in-Some : goal.returns-in-Some
returns-in-Some c = λ v held. let (known, live, is) = c.in-Some.ensures v.image held.streams in c.copy_of.ensures v known held live is
