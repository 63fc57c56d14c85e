use Rattle.std.proofs.Common.{arith, ◌∙◌, ◌≡◌, ◌<◌, Some}
use Rattle.turn_lock.proofs.Steps.{look_allowed}
use Rattle.turn_lock.proofs.gate.Gate.wait.Goals as goal

pub load-found-requires : goal.load-found-requires
load-found-requires g c =
    let sized = c.args.self.now.sized in
    let key = c.args.self.now.table.shared.key in
    let seat = c.loop.seat in
    let is = c.loop.invariant in
    let waits = c.requires.waits in
    let turn : seat.me.0.turn ≡ Some c.args.ticket = rw is.2 waits.0 in
    let stage : seat.me.0.stage ≡ 0 = rw is.2 waits.1 in
    let part : 0 < seat.me.0.parts = rw is.2 waits.2 in (
      is.0 ∙ c.requires.seat,
      omega (arith, sized.0),
      look_allowed g.V.Kept.stands (g.V.Kept.opening key.value) key.seats c.args.self.now.table.shared.table_id.slots seat.id seat.me.0 seat.me.1 c.args.ticket turn stage part,
    )
