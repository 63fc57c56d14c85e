use Rattle.shard_machine.proofs.StepLeads.{step-leads, step-follows}
use Rattle.shard_machine.proofs.laws.steps_of_logs.Goals as goal

pub returns-clause-lead : goal.returns-clause-lead
returns-clause-lead c = step-leads

pub returns-clause-follow : goal.returns-clause-follow
returns-clause-follow c = step-follows
