use Rattle.leafd_words.proofs.Levels.{each_value}
use Rattle.leafd_words.proofs.laws.values.Goals as goal

pub returns : goal.returns
returns c = each_value
