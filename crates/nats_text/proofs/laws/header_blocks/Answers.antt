use Rattle.nats_text.proofs.BadLines.{read_block-bad}
use Rattle.nats_text.proofs.ReadsBlocks.{read_block-ok}
use Rattle.nats_text.proofs.WritesBlocks.{read_block-block, written_is, reads_written}
use Rattle.nats_text.proofs.laws.header_blocks.Goals as goal

pub returns-clause-reads : goal.returns-clause-reads
returns-clause-reads c = λ bytes block. (read_block-ok bytes block, read_block-block bytes block)

pub returns-clause-tells : goal.returns-clause-tells
returns-clause-tells c = read_block-bad

pub returns-clause-writes : goal.returns-clause-writes
returns-clause-writes c = written_is

pub returns-clause-again : goal.returns-clause-again
returns-clause-again c = reads_written
