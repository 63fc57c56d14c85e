use Rattle.world_steps.proofs.Runs.{steps-run, parts-run}
use Rattle.world_steps.proofs.laws.steps_are_runs.Goals as goal

pub returns-clause-whole : goal.returns-clause-whole
returns-clause-whole c = steps-run

pub returns-clause-part : goal.returns-clause-part
returns-clause-part c = parts-run
