use Rattle.nats_text.specs.Headers.{IsBlock, read_block}
use Rattle.nats_text.proofs.BadLines.{read_block-bad}
use Rattle.nats_text.proofs.Reading.{reads_ok, reads_only, reads_bad, reads_legal}
use Rattle.nats_text.proofs.ReadsBlocks.{read_block-ok}
use Rattle.nats_text.proofs.WritesBlocks.{read_block-block}
use Rattle.nats_text.proofs.headers.Headers.read.Goals as goal

pub returns-clause-found : goal.returns-clause-found
returns-clause-found c = reads_ok c.read_block.result (read_block c.args.block.now) (IsBlock c.args.block.now) c.read_block.ensures.exact (read_block-ok c.args.block.now)

pub returns-clause-only : goal.returns-clause-only
returns-clause-only c = λ headers h. reads_only c.read_block.result (read_block c.args.block.now) headers c.read_block.ensures.exact (read_block-block c.args.block.now headers h)

pub returns-clause-bad : goal.returns-clause-bad
returns-clause-bad c = λ place e. read_block-bad c.args.block.now place (reads_bad c.read_block.result (read_block c.args.block.now) place c.read_block.ensures.exact e)

pub returns-clause-memory : goal.returns-clause-memory
returns-clause-memory c = λ e. reads_legal (read_block c.args.block.now) (IsBlock c.args.block.now) (c.read_block.ensures.memory e) (read_block-ok c.args.block.now)
