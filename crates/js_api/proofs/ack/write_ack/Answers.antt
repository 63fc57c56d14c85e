use Rattle.std.proofs.Common.{ap, ◌∙◌}
use Rattle.serde_json.specs.Written.{has_float}
use Rattle.js_api.proofs.Floats.{ack_no_float}
use Rattle.js_api.proofs.ack.write_ack.Goals as goal

pub text_of-requires : goal.text_of-requires
text_of-requires c = ap has_float c.in_ok-value.ensures ∙ ack_no_float c.args.domain.now c.args.stream.now c.args.seq c.args.duplicate
