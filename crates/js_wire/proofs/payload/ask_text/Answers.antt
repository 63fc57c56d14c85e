use Rattle.std.proofs.Common.{ap, ◌∙◌}
use Rattle.serde_json.specs.Written.{has_float}
use Rattle.js_wire.proofs.Floats.{ask_no_float}
use Rattle.js_wire.proofs.payload.ask_text.Goals as goal

pub text_of-requires : goal.text_of-requires
text_of-requires c = ap has_float c.in_ok-value.ensures ∙ ask_no_float c.args.deliver_subject.now c.args.stream.now c.args.start c.args.filters.now
