use Rattle.std.proofs.Common.{ap, ◌∙◌}
use Rattle.shard_copies.specs.Standing.{ConsumersState}
use Rattle.shard_table.proofs.Rows.{held-consumers, pumps-does, pumps-gone, rows-live}
use Rattle.shard_table.proofs.table.Table.pump.Goals as goal

pub returns-in-None : goal.returns-in-None
returns-in-None c = λ v held. (pumps-gone v c.args.name.now c.args.budget c.args.now (c.in-None.ensures v.image held.streams), held)

pub returns-in-Ok : goal.returns-in-Ok
returns-in-Ok c = λ v held.
    let (known, live, is) = c.in-Some.ensures v.image held.streams in
    let standing = c.in-Some.standing.now in
    pumps-does v c.args.name.now c.args.budget c.args.now known standing.state.held.rows c.in-Ok.packets c.with_packets.result c.args.self.now.consumers _ live (rows-live c.facts_of_histories.ensures.tell c.args.name.now standing known is) (held-consumers c.args.self.now v held) c.in-Ok.ensures.packets c.with_packets.ensures held.streams c.in-Ok.ensures.after held.askers

pub returns-in-Err : goal.returns-in-Err
returns-in-Err c = λ v held.
    let same = c.in-Err.ensures.err in
    (tt, record { streams = held.streams; boot = ap (λ (s : ConsumersState). s.boot) same ∙ held.boot; given = ap (λ (s : ConsumersState). s.given) same ∙ held.given; consumers = ap (λ (s : ConsumersState). s.all) same ∙ held.consumers; askers = held.askers })
