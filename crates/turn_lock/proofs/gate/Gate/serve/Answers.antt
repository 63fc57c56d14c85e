use Rattle.std.proofs.Common.{arith}
use Rattle.turn_lock.proofs.Steps.{serve_allowed}
use Rattle.turn_lock.proofs.gate.Gate.serve.Goals as goal

pub store-requires : goal.store-requires
store-requires g c =
    let sized = c.args.self.now.sized in
    let key = c.args.self.now.table.shared.key in
    let seat = c.args.seat.now in
    let turn = c.requires.turn in
    let told = c.requires.stands in (
      c.requires.seat.0,
      omega (arith, sized.0),
      serve_allowed g.V.Kept.stands (g.V.Kept.opening key.value) key.seats c.args.self.now.table.shared.table_id.slots seat.id seat.me.0 seat.me.1 c.args.ticket told.0 told.1 _ told.2 told.3 turn.0 turn.1 turn.2 turn.3 told.4 (omega (arith, sized.1)),
    )
