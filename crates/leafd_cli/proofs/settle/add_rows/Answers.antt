use Rattle.leafd_cli.proofs.Growing.{adds_row, row_fits}
use Rattle.leafd_cli.proofs.settle.add_rows.Goals as goal

pub add-requires : goal.add-requires
add-requires c = row_fits c.loop-row.stream c.args.rows.now c.loop-row.row-index c.row-item.result c.loop-row-test.true c.row-item.is c.loop-row.invariant.rest

pub loop-row-preserved : goal.loop-row-preserved
loop-row-preserved c =
    let a = adds_row c.args.stream.now c.loop-row.stream c.add.new.self c.args.rows.now c.loop-row.row-index c.row-item.result c.in_ok-clone.field-0 c.loop-row-test.true c.row-item.is c.in_ok-clone.ensures.cases c.loop-row.invariant.stream c.in_ok-add.ensures c.loop-row.invariant.rest in
    record { stream = a.stream; rest = a.rest }
