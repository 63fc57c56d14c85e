use Rattle.stream_fold.proofs.Sources.{source-stays, source-binds, source-stores}
use Rattle.stream_fold.proofs.laws.growing_sources.Goals as goal

pub returns-clause-passed : goal.returns-clause-passed
returns-clause-passed c = source-stays

pub returns-clause-bound : goal.returns-clause-bound
returns-clause-bound c = source-binds

pub returns-clause-stored : goal.returns-clause-stored
returns-clause-stored c = source-stores
