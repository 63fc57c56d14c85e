use Rattle.stream_fold.proofs.SentOrder.{sent-put}
use Rattle.stream_fold.proofs.SentFacts.{tell-repeats, tell-verdicts, holds-open, fitting-keep}
use Rattle.stream_fold.proofs.laws.facts_of_publishes.Goals as goal

pub returns-clause-repeats : goal.returns-clause-repeats
returns-clause-repeats c = tell-repeats

pub returns-clause-verdicts : goal.returns-clause-verdicts
returns-clause-verdicts c = tell-verdicts

pub returns-clause-held : goal.returns-clause-held
returns-clause-held c = holds-open

pub returns-clause-keep : goal.returns-clause-keep
returns-clause-keep c = fitting-keep

pub returns-clause-put : goal.returns-clause-put
returns-clause-put c = sent-put
