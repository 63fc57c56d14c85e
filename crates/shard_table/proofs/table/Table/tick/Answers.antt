use Rattle.shard_table.proofs.table.Table.tick.Goals as goal

pub returns-in-Ok : goal.returns-in-Ok
returns-in-Ok c = λ v held. c.tick_behind.ensures v held (c.in-Ok.ensures v held)

pub returns-in-Err : goal.returns-in-Err
returns-in-Err c = λ v held. (tt, held)
