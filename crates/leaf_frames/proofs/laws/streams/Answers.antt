use Rattle.leaf_frames.specs.Frames.{most_line, said, framed, first}
use Rattle.nats_frames.proofs.Streams.{first_stays, first_within}
use Rattle.nats_frames.proofs.Runs.{feeds_stand, feeds_give_front}
use Rattle.leaf_frames.proofs.laws.streams.Goals as goal

pub returns-clause-stand : goal.returns-clause-stand
returns-clause-stand c = feeds_stand first (first_within most_line said framed) (first_stays most_line said framed)

pub returns-clause-front : goal.returns-clause-front
returns-clause-front c = feeds_give_front first (first_within most_line said framed) (first_stays most_line said framed)
