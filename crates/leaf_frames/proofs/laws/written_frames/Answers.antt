use Rattle.leaf_frames.proofs.Givings.{gives_leaf_frames}
use Rattle.leaf_frames.proofs.Written.{reads_each_text, reads_its_text}
use Rattle.leaf_frames.proofs.laws.written_frames.Goals as goal

pub returns-clause-kinds : goal.returns-clause-kinds
returns-clause-kinds c = gives_leaf_frames c.header_blocks.ensures.reads

pub returns-clause-each : goal.returns-clause-each
returns-clause-each c = reads_each_text c.header_blocks.ensures.again

pub returns-clause-again : goal.returns-clause-again
returns-clause-again c = reads_its_text (gives_leaf_frames c.header_blocks.ensures.reads) c.header_blocks.ensures.again
