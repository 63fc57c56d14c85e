use Rattle.push_consumer.proofs.Right.{right_longer}
use Rattle.push_consumer.proofs.laws.longer_chains.Goals as goal

pub returns : goal.returns
returns c = λ h more p s rise ok. right_longer h more p s c.longer_histories.ensures.holes c.longer_histories.ensures.puts rise ok
