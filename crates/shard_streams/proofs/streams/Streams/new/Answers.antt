use Rattle.std.proofs.Common.{[]}
use Rattle.shard_streams.proofs.Replaying.{replays-hold}
use Rattle.shard_streams.proofs.streams.Streams.new.Goals as goal

pub returns : goal.returns
returns c = replays-hold c.new.result [] tt c.new.ensures
