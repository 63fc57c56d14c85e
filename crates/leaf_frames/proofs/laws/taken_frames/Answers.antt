use Rattle.leaf_frames.specs.Frames.{most_line, said, framed, first}
use Rattle.nats_frames.proofs.Streams.{first_stays, first_within}
use Rattle.nats_frames.proofs.Takes.{takes_stay, takes_next, taken_are_front}
use Rattle.leaf_frames.proofs.laws.taken_frames.Goals as goal

pub returns-clause-pieces : goal.returns-clause-pieces
returns-clause-pieces c = takes_stay first (first_within most_line said framed) (first_stays most_line said framed)

pub returns-clause-next : goal.returns-clause-next
returns-clause-next c = takes_next first

pub returns-clause-front : goal.returns-clause-front
returns-clause-front c = taken_are_front first (first_within most_line said framed)
