use Rattle.nats_frames.proofs.Firsts.{reads_its_text}
use Rattle.nats_frames.proofs.Givings.{gives_frames_of}
use Rattle.nats_frames.proofs.Sides.{reads_each_text}
use Rattle.nats_frames.proofs.laws.written_frames.Goals as goal

pub returns-clause-kinds : goal.returns-clause-kinds
returns-clause-kinds c = gives_frames_of c.header_blocks.ensures.reads

pub returns-clause-each : goal.returns-clause-each
returns-clause-each c = reads_each_text c.header_blocks.ensures.again

pub returns-clause-again : goal.returns-clause-again
returns-clause-again c = reads_its_text c.header_blocks.ensures.reads c.header_blocks.ensures.again
