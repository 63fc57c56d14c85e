use Rattle.shard_table.proofs.Doing.{does-with}
use Rattle.shard_table.proofs.Preparing.{plan-stands, prepares-with}
use Rattle.shard_table.proofs.table.Table.write.Goals as goal

pub prepare_entry-requires : goal.prepare_entry-requires
prepare_entry-requires c = let (v, called, held, does) = c.requires in (v.image, held.streams, plan-stands v called c.args.name.now c.args.plan.outcome c.args.plan.entry c.in-Some.entry does c.in-Some.is)

pub returns-in-None : goal.returns-in-None
returns-in-None c = λ v called held does. does-with v called c.args.name.now c.args.plan.outcome c.args.plan.entry c.with_outcome.result c.args.self.now does c.in-None.is c.with_outcome.ensures held

pub returns-in-Ok : goal.returns-in-Ok
returns-in-Ok c = λ v called held does.
    prepares-with v called c.args.name.now c.args.plan.outcome c.args.plan.entry c.in-Some.entry c.in-Ok.entry _ does c.in-Some.is c.in-Ok.ensures.ok
    (record { streams = c.prepare_entry.ensures.held v.image held.streams; boot = held.boot; given = held.given; consumers = held.consumers; askers = held.askers })

pub returns-in-Err : goal.returns-in-Err
returns-in-Err c = λ v called held does. (tt, record { streams = c.prepare_entry.ensures.held v.image held.streams; boot = held.boot; given = held.given; consumers = held.consumers; askers = held.askers })
