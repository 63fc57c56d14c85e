use Rattle.stream_fold.proofs.Growth.{put-same}
use Rattle.stream_fold.proofs.KeptRows.{IsHole-stays}
use Rattle.stream_fold.proofs.laws.longer_histories.Goals as goal

pub returns-clause-holes : goal.returns-clause-holes
returns-clause-holes c = IsHole-stays

pub returns-clause-puts : goal.returns-clause-puts
returns-clause-puts c = put-same
