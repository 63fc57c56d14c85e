use Rattle.std.proofs.Common.{◌∙◌}
use Rattle.shard_streams.proofs.LiveNames.{live-count}
use Rattle.shard_streams.proofs.streams.Streams.count.Goals as goal

pub returns : goal.returns
returns c = λ i holds. c.standing_count.ensures.count ∙ live-count c.names_of_images.ensures.rise c.args.self.now.replay i holds c.standing_count.ensures.ordered
