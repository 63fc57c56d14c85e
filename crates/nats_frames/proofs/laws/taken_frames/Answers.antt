use Rattle.nats_frames.specs.Frames.{most_line, said, framed, first}
use Rattle.nats_frames.proofs.Streams.{first_stays, first_within}
use Rattle.nats_frames.proofs.Takes.{takes_stay, takes_next, taken_are_front}
use Rattle.nats_frames.proofs.laws.taken_frames.Goals as goal

pub returns-clause-pieces : goal.returns-clause-pieces
returns-clause-pieces c side = takes_stay (first side) (first_within most_line (said side) framed) (first_stays most_line (said side) framed)

pub returns-clause-next : goal.returns-clause-next
returns-clause-next c side = takes_next (first side)

pub returns-clause-front : goal.returns-clause-front
returns-clause-front c side = taken_are_front (first side) (first_within most_line (said side) framed)
