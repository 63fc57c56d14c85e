use Rattle.std.proofs.Common.{ap, ◌∙◌}
use Rattle.serde_json.specs.Written.{has_float}
use Rattle.js_api.proofs.Floats.{listed_no_float}
use Rattle.js_api.proofs.answer.listed_text.Goals as goal

pub text_of-requires : goal.text_of-requires
text_of-requires c = ap has_float c.in_ok-value.ensures ∙ listed_no_float c.args.names.now c.args.offset c.args.total c.args.kind.now
