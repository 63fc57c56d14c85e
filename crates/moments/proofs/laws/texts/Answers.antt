use Rattle.moments.proofs.Clock.{moment_read}
use Rattle.moments.proofs.laws.texts.Goals as goal

pub returns : goal.returns
returns c = λ n small. moment_read n small
