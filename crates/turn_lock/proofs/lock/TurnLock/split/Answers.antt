use Rattle.std.proofs.Common.{rules, arith}
use Rattle.turn_lock.proofs.Shares.{half_allowed}
use Rattle.turn_lock.proofs.lock.TurnLock.split.Goals as goal

pub split_seat-other-requires : goal.split_seat-other-requires
split_seat-other-requires g c =
    let sized = c.self.inside.gate.sized in
    let key = c.self.inside.gate.table.shared.key in
    let seat = c.seat.inside.inner in
    let rests = c.seat.invariant in (
      search rules,
      omega (arith, sized.0),
      half_allowed g.V.Kept.stands (g.V.Kept.opening key.value) key.seats seat.id seat.me.0 rests.0 rests.1 rests.2,
    )
