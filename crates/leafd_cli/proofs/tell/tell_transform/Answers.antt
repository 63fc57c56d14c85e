use Rattle.std.proofs.Common.{◌∙◌}
use Rattle.leafd_cli.proofs.tell.tell_transform.Goals as goal

pub returns : goal.returns
returns g c = rw (c.as_bytes-word.ensures.value ∙ c.word.ensures, c.as_bytes-number.ensures.value ∙ c.format.ensures.text) at c.pump_pieces.ensures
