use Rattle.std.proofs.Common.{[]}
use Rattle.stream_fold.proofs.Fitting.{fit-rise}
use Rattle.stream_fold.proofs.KeptRows.{kept-rises, kept-below, kept-put}
use Rattle.stream_fold.proofs.laws.kept_messages.Goals as goal

pub returns-clause-fitting : goal.returns-clause-fitting
returns-clause-fitting c = λ h fit. fit-rise (record { config = h.config; entries = [] }) h.entries fit

pub returns-clause-rise : goal.returns-clause-rise
returns-clause-rise c = kept-rises

pub returns-clause-reached : goal.returns-clause-reached
returns-clause-reached c = kept-below

pub returns-clause-put : goal.returns-clause-put
returns-clause-put c = kept-put
