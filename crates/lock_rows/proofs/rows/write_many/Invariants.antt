use Rattle.std.proofs.Common.{◌≡◌}
use Rattle.turn_lock.specs.Shares.{IsOf}
use Rattle.lock_rows.proofs.rows.write_many.Given as goal

abbrev pub invariant-loop-number : goal.invariant-loop-number
invariant-loop-number g l = IsOf l.lock l.seat × (l.seat.share ≡ l.initial.seat.share)
