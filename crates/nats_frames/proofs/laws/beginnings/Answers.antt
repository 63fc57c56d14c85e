use Rattle.nats_frames.specs.Frames.{most_line, said, framed, first}
use Rattle.nats_frames.proofs.Streams.{first_stays, first_within}
use Rattle.nats_frames.proofs.Takes.{frames_are_within, frames_stay, refusals_stay, wants_more, wishes_stay}
use Rattle.nats_frames.proofs.laws.beginnings.Goals as goal

pub returns-clause-within : goal.returns-clause-within
returns-clause-within c side = frames_are_within (first side) (first_within most_line (said side) framed)

pub returns-clause-frames : goal.returns-clause-frames
returns-clause-frames c side = frames_stay (first side) (first_stays most_line (said side) framed)

pub returns-clause-refusals : goal.returns-clause-refusals
returns-clause-refusals c side = refusals_stay (first side) (first_stays most_line (said side) framed)

pub returns-clause-more : goal.returns-clause-more
returns-clause-more c side = wants_more (first side) (first_within most_line (said side) framed)

pub returns-clause-wishes : goal.returns-clause-wishes
returns-clause-wishes c side = wishes_stay (first side) (first_stays most_line (said side) framed)
