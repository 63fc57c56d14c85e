use Rattle.std.proofs.Common.{sym, ◌∙◌}
use Rattle.nats_text.specs.Text.{is_name}
use Rattle.record_codec.proofs.Skims.{legal_text}
use Rattle.record_codec.proofs.skimming.skim_name.Goals as goal

pub returns-then-legal : goal.returns-then-legal
returns-then-legal c = legal_text is_name c.args.bytes.now c.in_ok-text.text.now c.in_ok-text.rest.now c.in_ok-text.ensures (sym c.legal.ensures ∙ c.if-legal.true)
