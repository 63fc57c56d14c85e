use Rattle.stream_fold.proofs.StateFacts.{shows-facts, shown-grow, facts-suffice}
use Rattle.stream_fold.proofs.laws.facts_of_states.Goals as goal

pub returns-clause-show : goal.returns-clause-show
returns-clause-show c = shows-facts

pub returns-clause-grow : goal.returns-clause-grow
returns-clause-grow c = shown-grow

pub returns-clause-suffice : goal.returns-clause-suffice
returns-clause-suffice c = facts-suffice
