use Rattle.std.proofs.Common.{[], List, ap, ◌∙◌}
use Rattle.std.specs.Prelude.{None}
use Rattle.js_wire.specs.declared.packet.Packet.{Packet}
use Rattle.shard_machine.specs.declared.reply.Outcome.TheVariants.{Sent}
use Rattle.shard_machine.specs.Views.{replied}
use Rattle.shard_table.proofs.Rows.{held-consumers, takes-does, takes-gone}
use Rattle.shard_table.proofs.table.Table.take_reply.Goals as goal

pub returns-in-None : goal.returns-in-None
returns-in-None c = λ v origin held. (takes-gone v origin c.args.stream.now c.args.consumer c.args.token (c.in-None.ensures v.image held.streams), held)

pub returns-in-Some : goal.returns-in-Some
returns-in-Some c = λ v origin held.
    let (known, live, is) = c.in-Some.ensures v.image held.streams in
    takes-does v origin c.args.stream.now c.args.consumer c.args.token known c.with_packets.result c.args.self.now.consumers _ live (held-consumers c.args.self.now v held) (c.with_packets.ensures ∙ ap (λ (l : List Packet). replied Sent None l []) c.new.ensures) held.streams c.reply.ensures held.askers
