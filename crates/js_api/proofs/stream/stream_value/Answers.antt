use Rattle.std.proofs.Common.{sym, ap, ◌∙◌}
use Rattle.serde_json.specs.Written.{has_float}
use Rattle.js_api.proofs.stream.stream_value.Goals as goal

pub returns-clause-plain : goal.returns-clause-plain
returns-clause-plain c = sym (ap has_float c.in_ok-config.ensures.value) ∙ c.in_ok-config.ensures.plain
