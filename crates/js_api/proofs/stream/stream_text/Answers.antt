use Rattle.std.proofs.Common.{ap, ◌∙◌}
use Rattle.serde_json.specs.Written.{has_float}
use Rattle.js_api.proofs.Floats.{stream_no_float}
use Rattle.js_api.proofs.stream.stream_text.Goals as goal

pub text_of-requires : goal.text_of-requires
text_of-requires c =
    ap has_float c.in_ok-value.ensures.value
    ∙ stream_no_float c.args.config.now c.args.facts.now c.args.created c.args.kind.now c.in_ok-value.ensures.plain
