use Rattle.config_json.proofs.Written.{texts_read}
use Rattle.config_json.proofs.laws.texts.Goals as goal

pub returns : goal.returns
returns c = λ d h t. texts_read d h t
