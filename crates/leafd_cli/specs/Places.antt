-- Where a stream stands among all.
use Rattle.std.specs.Prelude.{◌≡◌, ℕ, ◌<◌, List, length, slice_index_or, slice_set, Some}
use Rattle.leafd_cli.specs.Logs.{StreamLog, stream_at}
use Rattle.leafd_cli.specs.Operations.{Task, worked, worked_in}

-- the place of the stream of a task
pub record IsPlace (now : ℕ) (task : Task) (streams : List StreamLog) (k : ℕ) : Type 0 where
  pub within : k < length streams
  pub found : (s : StreamLog) → stream_at task.node task.name streams ≡ Some (slice_index_or streams k s)
  pub done : (s : StreamLog) → worked_in now task streams ≡ slice_set streams k (worked now task.operation (slice_index_or streams k s))
