use Rattle.std.proofs.Common.{◌≡◌, drop}
use Rattle.stream_fold.specs.Copying.{number_since}
use Rattle.shard_copies.proofs.copies.number_since.Given as goal

-- those that were looked at are earlier
abbrev pub invariant-loop-row : goal.invariant-loop-row
invariant-loop-row l = number_since l.moment (drop l.row-index l.rows) l.end ≡ number_since l.moment l.rows l.end
