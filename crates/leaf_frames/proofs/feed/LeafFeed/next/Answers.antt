use Rattle.nats_frames.proofs.Givings.{given_are}
use Rattle.leaf_frames.specs.Frames.{first}
use Rattle.leaf_frames.specs.Kinds.{IsLeaf}
use Rattle.leaf_frames.proofs.feed.LeafFeed.next.Goals as goal

pub returns-clause-kind : goal.returns-clause-kind
returns-clause-kind c = given_are first IsLeaf c.written_frames.ensures.kinds c.self.inside.intake.pending c.next.new.self.pending c.next.result c.next.ensures.gives
