use Rattle.std.proofs.Common.{◌≡◌, List, [], ◌∷◌, ◌++◌, sym, ap, ◌∙◌, subst}
use Rattle.js_wire.specs.declared.packet.Packet.{Packet}
use Rattle.std.specs.Prelude.{None}
use Rattle.tap_row.specs.declared.notice.Notice.{Notice}
use Rattle.shard_machine.specs.declared.reply.Outcome.TheVariants as outcome
use Rattle.shard_copies.specs.Standing.{ConsumersState, answer_to, next_stamp}
use Rattle.shard_machine.specs.Views.{replied}
use Rattle.shard_table.proofs.Rows.{held-consumers, makes-does}
use Rattle.shard_table.proofs.table.Table.make_wanted.Goals as goal

pub returns-in-Ok : goal.returns-in-Ok
returns-in-Ok c = λ v called known held live answers.
    let name = c.args.stream.now in
    let sent = c.in-Ok.ensures.answer ∙ ap (λ (l : List Packet). l ++ answer_to (next_stamp c.args.self.now.consumers) c.incarnation-incarnation.result c.args.wanted ∷ []) c.new-packets.ensures in
    makes-does v called c.args.now known name c.args.wanted c.incarnation-incarnation.result c.in-Ok.made c.make.new.packets _ c.args.self.now.consumers _ answers live (c.incarnation-incarnation.ensures v.image held.streams) (held-consumers c.args.self.now v held) c.in-Ok.ensures.name sent
    (ap (λ (told : List Notice). replied (outcome.Consumer c.in-Ok.made) None c.make.new.packets told) c.new.ensures)
    held.streams c.in-Ok.ensures.after held.askers

pub returns-in-Err : goal.returns-in-Err
returns-in-Err c = λ v called known held live answers.
    let same = c.in-Err.ensures.err in
    (tt, record { streams = held.streams; boot = ap (λ (s : ConsumersState). s.boot) same ∙ held.boot; given = ap (λ (s : ConsumersState). s.given) same ∙ held.given; consumers = ap (λ (s : ConsumersState). s.all) same ∙ held.consumers; askers = held.askers })
