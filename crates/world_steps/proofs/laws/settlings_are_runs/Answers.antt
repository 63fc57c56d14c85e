use Rattle.world_steps.proofs.Runs.{settling-runs, settling-parts-run}
use Rattle.world_steps.proofs.laws.settlings_are_runs.Goals as goal

pub returns-clause-whole : goal.returns-clause-whole
returns-clause-whole c = settling-runs

pub returns-clause-part : goal.returns-clause-part
returns-clause-part c = settling-parts-run
