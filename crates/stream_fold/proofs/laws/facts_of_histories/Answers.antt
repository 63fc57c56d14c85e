use Rattle.stream_fold.proofs.FactLemmas.{facts-push, facts-tell, tell-fits}
use Rattle.stream_fold.proofs.laws.facts_of_histories.Goals as goal

pub returns-clause-grow : goal.returns-clause-grow
returns-clause-grow c = facts-push

pub returns-clause-tell : goal.returns-clause-tell
returns-clause-tell c = facts-tell

pub returns-clause-fits : goal.returns-clause-fits
returns-clause-fits c = tell-fits
