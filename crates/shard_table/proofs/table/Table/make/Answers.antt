use Rattle.shard_table.proofs.table.Table.make.Goals as goal

pub prepare_create-requires : goal.prepare_create-requires
prepare_create-requires c = let (v, held, makes) = c.requires in (v.image, held.streams, makes.free)

pub returns-in-Ok : goal.returns-in-Ok
returns-in-Ok c = λ v held makes.
    c.make_asking.ensures v
    (record { streams = c.prepare_create.ensures.held v.image held.streams; boot = held.boot; given = held.given; consumers = held.consumers; askers = held.askers })
    makes c.in-Ok.ensures.ok

pub returns-in-Err : goal.returns-in-Err
returns-in-Err c = λ v held makes. (tt, record { streams = c.prepare_create.ensures.held v.image held.streams; boot = held.boot; given = held.given; consumers = held.consumers; askers = held.askers })
