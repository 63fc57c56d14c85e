use Rattle.leaf_frames.specs.Frames.{most_line, said, framed, first}
use Rattle.nats_frames.proofs.Streams.{first_stays, first_within}
use Rattle.nats_frames.proofs.Takes.{frames_are_within, frames_stay, refusals_stay, wants_more, wishes_stay}
use Rattle.leaf_frames.proofs.laws.beginnings.Goals as goal

pub returns-clause-within : goal.returns-clause-within
returns-clause-within c = frames_are_within first (first_within most_line said framed)

pub returns-clause-frames : goal.returns-clause-frames
returns-clause-frames c = frames_stay first (first_stays most_line said framed)

pub returns-clause-refusals : goal.returns-clause-refusals
returns-clause-refusals c = refusals_stay first (first_stays most_line said framed)

pub returns-clause-more : goal.returns-clause-more
returns-clause-more c = wants_more first (first_within most_line said framed)

pub returns-clause-wishes : goal.returns-clause-wishes
returns-clause-wishes c = wishes_stay first (first_stays most_line said framed)
