use Rattle.std.proofs.Common.{sym, ◌∙◌}
use Rattle.record_codec.proofs.Skims.{other_block}
use Rattle.record_codec.proofs.fields.headers_of.Goals as goal

pub returns-then-not-is_written : goal.returns-then-not-is_written
returns-then-not-is_written c = rw c.bad.ensures (other_block c.args.bytes.now c.in_ok-text.text.now c.in_ok-text.rest.now c.in_ok-text.ensures (sym c.is_written.ensures ∙ c.if-not-is_written.true))
