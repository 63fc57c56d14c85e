use Rattle.config_json.proofs.OneLine.{text_line}
use Rattle.config_json.proofs.Written.{config_plain}
use Rattle.config_json.specs.Writing.{config_data}
use Rattle.config_json.proofs.laws.lines.Goals as goal

pub returns : goal.returns
returns c = λ config h t. text_line (config_data config) (config_plain config h t)
