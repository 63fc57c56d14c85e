use Rattle.shard_table.proofs.table.Table.reach_again.Goals as goal

pub returns-in-Ok : goal.returns-in-Ok
returns-in-Ok c = λ v held. c.reach_those.ensures v held c.in-Ok.ensures

pub returns-in-Err : goal.returns-in-Err
returns-in-Err c = λ v held. (tt, held)
