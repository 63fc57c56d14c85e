use Rattle.std.proofs.Common.{arith}
use Rattle.turn_lock.proofs.Start.{deal_allowed}
use Rattle.turn_lock.proofs.gate.Gate.deal.Goals as goal

pub split_seat-inner-requires : goal.split_seat-inner-requires
split_seat-inner-requires g c =
    let sized = c.args.self.now.sized in
    let key = c.args.self.now.table.shared.key in
    let seat = c.args.seat.now in
    let rests = c.requires.rests in (
      c.requires.seat,
      omega (arith, sized.0),
      deal_allowed g.V.Kept.stands (g.V.Kept.opening key.value) key.seats seat.id seat.me.0 rests.0 rests.1 c.requires.more,
    )
