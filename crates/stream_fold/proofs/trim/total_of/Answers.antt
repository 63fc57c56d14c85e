use Rattle.std.proofs.Common.{arith}
use Rattle.stream_fold.proofs.Totals.{size_of-at}
use Rattle.stream_fold.proofs.trim.total_of.Goals as goal

pub overflow_add-total : goal.overflow_add-total
overflow_add-total c = omega (arith, c.requires, c.size.ensures, c.loop-row.invariant, size_of-at c.args.rows.now c.loop-row.row-index c.row-item.result c.loop-row-test.true c.row-item.is)
