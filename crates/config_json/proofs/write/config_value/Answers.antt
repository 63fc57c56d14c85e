use Rattle.std.proofs.Common.{ap, ◌∙◌}
use Rattle.serde_json.specs.Written.{has_float}
use Rattle.config_json.proofs.Floats.{no_float}
use Rattle.config_json.proofs.write.config_value.Goals as goal

pub returns-clause-plain : goal.returns-clause-plain
returns-clause-plain c = ap has_float c.in_ok-value.ensures ∙ no_float c.args.config.now
