use Rattle.config_json.proofs.ReadBack.{configs_read}
use Rattle.config_json.proofs.laws.configs.Goals as goal

pub returns : goal.returns
returns c = λ d h t k. configs_read d h t k
