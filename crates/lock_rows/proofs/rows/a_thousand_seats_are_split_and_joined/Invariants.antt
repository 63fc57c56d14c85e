use Rattle.std.proofs.Common.{◌≡◌, ◌+◌, ◌*◌, length}
use Rattle.std.specs.List.{All}
use Rattle.turn_lock.specs.Shares.{IsOf, new_seat}
use Rattle.lock_rows.proofs.rows.a_thousand_seats_are_split_and_joined.Given as goal

abbrev pub invariant-loop-seat : goal.invariant-loop-seat
invariant-loop-seat g l =
    IsOf l.lock l.all
    × (l.all.share.halvings ≡ 1)
    × (l.all.share.parts + 2 * length l.seats.items ≡ 2048)
    × (l.lock.seats ≡ 1024)
    × (l.number + length l.seats.items ≡ 1023)
    × All (λ s. s ≡ new_seat l.lock) l.seats.items

abbrev pub decreases-loop-seat : goal.decreases-loop-seat
decreases-loop-seat g l = length l.seats.items
