use Rattle.std.proofs.Common.{sym, ap, ◌∙◌}
use Rattle.nats_text.specs.Headers.{before_cr}
use Rattle.nats_text.proofs.Lines.{more_behind_cr}
use Rattle.nats_text.proofs.header_lines.line_text.Goals as goal

pub returns-else-is_empty : goal.returns-else-is_empty
returns-else-is_empty c =
    sym (ap before_cr c.in_ok-text.ensures.parts ∙ more_behind_cr c.in_ok-text.text.now c.in_ok-text.behind.now (sym c.is_empty.ensures ∙ c.if-is_empty.false))
