use Rattle.std.proofs.Common.{sym, ◌∙◌}
use Rattle.record_codec.proofs.Skims.{written_block, other_block}
use Rattle.record_codec.proofs.skimming.skim_headers.Goals as goal

pub returns-then-is_written : goal.returns-then-is_written
returns-then-is_written c = written_block c.args.bytes.now c.in_ok-text.text.now c.in_ok-text.rest.now c.in_ok-text.ensures (sym c.is_written.ensures ∙ c.if-is_written.true)

pub returns-else-is_written : goal.returns-else-is_written
returns-else-is_written c = rw c.bad_field.ensures (other_block c.args.bytes.now c.in_ok-text.text.now c.in_ok-text.rest.now c.in_ok-text.ensures (sym c.is_written.ensures ∙ c.if-is_written.false))
