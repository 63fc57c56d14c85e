use Rattle.world_steps.proofs.Carrying.{steps-whole, settles-whole}
use Rattle.world_steps.proofs.Adding.{new-whole, added-whole}
use Rattle.world_steps.proofs.laws.nets_stay_whole.Goals as goal

pub returns-clause-step : goal.returns-clause-step
returns-clause-step c = steps-whole

pub returns-clause-settling : goal.returns-clause-settling
returns-clause-settling c = settles-whole

pub returns-clause-new : goal.returns-clause-new
returns-clause-new c = new-whole

pub returns-clause-node : goal.returns-clause-node
returns-clause-node c = added-whole
