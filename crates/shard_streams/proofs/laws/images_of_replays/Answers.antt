use Rattle.shard_streams.proofs.Replaying.{replays-hold}
use Rattle.shard_streams.proofs.laws.images_of_replays.Goals as goal

pub returns : goal.returns
returns c = replays-hold
