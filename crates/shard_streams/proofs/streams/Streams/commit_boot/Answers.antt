use Rattle.std.proofs.Common.{refl}
use Rattle.shard_streams.proofs.Making.{boot_holds}
use Rattle.shard_streams.proofs.streams.Streams.commit_boot.Goals as goal

pub returns : goal.returns
returns c = λ i h. boot_holds c.args.self.now.replay _ i c.args.number h refl refl
