use Rattle.std.proofs.Common.{arith}
use Rattle.turn_lock.proofs.Steps.{draw_allowed}
use Rattle.turn_lock.proofs.gate.Gate.draw.Goals as goal

pub compare_exchange-requires : goal.compare_exchange-requires
compare_exchange-requires g c =
    let sized = c.args.self.now.sized in
    let key = c.args.self.now.table.shared.key in
    let seat = c.args.seat.now in
    let idle = c.requires.idle in (
      c.requires.seat,
      omega (arith, sized.0),
      draw_allowed g.V.Kept.stands (g.V.Kept.opening key.value) key.seats c.args.self.now.table.shared.table_id.slots seat.id seat.me.0 seat.me.1 c.args.next idle.0 idle.1 idle.2 c.requires.room,
    )
