use Rattle.std.proofs.Common.{◌≡◌, ◌+◌, ◌≤◌, ◌-◌, [], length}
use Rattle.std.specs.List.{All}
use Rattle.std.specs.Vec.{vec_capacity}
use Rattle.turn_lock.specs.Turns.{made}
use Rattle.turn_lock.specs.Shares.{seat_state}
use Rattle.turn_lock.proofs.lock.TurnLock.new.Given as goal

abbrev pub invariant-loop : goal.invariant-loop
invariant-loop g l =
    (l.inner.table_id ≡ l.gate.table.shared.table_id)
    × (l.inner.me ≡ (made (g.V.Kept.opening l.fn.value) (l.seats + 1 - l.counter) 0, []))
    × (length l.list.items + 1 ≡ l.counter)
    × (l.seats ≤ vec_capacity l.list)
    × (1 ≤ l.counter)
    × (l.counter ≤ l.seats)
    × All (λ s. s ≡ seat_state l.gate.table.shared.table_id (made (g.V.Kept.opening l.fn.value) 1 0)) l.list.items
