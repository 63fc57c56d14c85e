use Rattle.std.proofs.Common.{◌≡◌}
use Rattle.turn_lock.specs.Shares.{IsOf}
use Rattle.lock_bench.proofs.take_turns.Given as goal

abbrev pub invariant-loop : goal.invariant-loop
invariant-loop g l = IsOf l.lock l.seat × (l.seat.share ≡ l.initial.seat.share)
