use Rattle.std.proofs.Common.{ap, ◌∙◌}
use Rattle.serde_json.specs.Written.{has_float}
use Rattle.js_api.proofs.Floats.{found_no_float}
use Rattle.js_api.proofs.answer.found_text.Goals as goal

pub text_of-requires : goal.text_of-requires
text_of-requires c = ap has_float c.in_ok-value.ensures ∙ found_no_float c.args.found.now c.args.kind.now
