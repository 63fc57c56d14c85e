use Rattle.shard_streams.proofs.deciding.limit.Goals as goal

pub returns-in-Ok : goal.returns-in-Ok
returns-in-Ok c = λ v live fault. c.limit_by.ensures v live fault c.in-Ok.ensures

pub returns-in-Err : goal.returns-in-Err
returns-in-Err c = λ v live fault. tt
