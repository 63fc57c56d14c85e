use Rattle.std.proofs.Common.{rules, arith}
use Rattle.turn_lock.proofs.Start.{fetch_at, fill_at}
use Rattle.turn_lock.proofs.gate.Gate.settle.Goals as goal

pub load-requires : goal.load-requires
load-requires g c =
    let table = c.requires.table in
    let key = c.args.table.shared.key in (
      table.2,
      omega (arith, table.0),
      fetch_at g.V.Kept.stands (g.V.Kept.opening key.value) key.seats c.args.table.shared.table_id.slots c.args.inner.id c.args.inner.me table.3 c.requires.first,
    )

pub store-requires : goal.store-requires
store-requires g c =
    let table = c.requires.table in
    let key = c.args.table.shared.key in
    let seat = c.exchange-old.new.seat in (
      search rules,
      omega (arith, table.0),
      fill_at g.V.Kept.stands (g.V.Kept.opening key.value) key.seats c.args.table.shared.table_id.slots seat.id seat.me c.args.value (search rules) (search rules) c.requires.stands (omega (arith, table.1)),
    )
