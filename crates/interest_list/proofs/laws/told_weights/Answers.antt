use Rattle.interest_list.proofs.Reached.{weights_told}
use Rattle.interest_list.proofs.laws.told_weights.Goals as goal

pub returns : goal.returns
returns c = weights_told
