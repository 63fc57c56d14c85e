use Rattle.shard_streams.proofs.LiveNames.{live-names-in, live-names-shown as shown}
use Rattle.shard_streams.proofs.streams.Streams.names.Goals as goal

pub returns : goal.returns
returns c = λ i holds. shown c.args.self.now.replay i c.standing_names.result (live-names-in c.names_of_images.ensures.rise c.args.self.now.replay i holds) c.standing_names.ensures.names c.standing_names.ensures.ordered c.standing_names.ensures.found
