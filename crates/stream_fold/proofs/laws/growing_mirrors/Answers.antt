use Rattle.stream_fold.proofs.Mirrors.{mirror-stays, mirror-stores}
use Rattle.stream_fold.proofs.laws.growing_mirrors.Goals as goal

pub returns-clause-passed : goal.returns-clause-passed
returns-clause-passed c = mirror-stays

pub returns-clause-stored : goal.returns-clause-stored
returns-clause-stored c = mirror-stores
