use Rattle.stream_fold.proofs.Mirrors.{mirror-outlasts}
use Rattle.stream_fold.proofs.Sources.{source-outlasts}
use Rattle.stream_fold.proofs.laws.growing_origins.Goals as goal

pub returns-clause-mirrors : goal.returns-clause-mirrors
returns-clause-mirrors c = mirror-outlasts

pub returns-clause-sources : goal.returns-clause-sources
returns-clause-sources c = source-outlasts
