use Rattle.std.proofs.Common.{List, [], refl, ap, ◌∙◌}
use Rattle.std.specs.Prelude.{None}
use Rattle.js_wire.specs.declared.packet.Packet.{Packet}
use Rattle.shard_machine.specs.declared.call.ShardCall.TheVariants as call
use Rattle.shard_machine.specs.declared.reply.Outcome.TheVariants.{Sent}
use Rattle.shard_machine.specs.Views.{idle_askers, replied}
use Rattle.shard_table.proofs.Doing.{does-sends}
use Rattle.shard_table.proofs.Rows.{held-consumers}
use Rattle.shard_table.proofs.table.Table.link_lost.Goals as goal

pub returns : goal.returns
returns c = λ v held.
    does-sends v call.LinkLost [] v.consumers (idle_askers v.askers) c.with_packets.result _ refl (c.with_packets.ensures ∙ ap (λ (l : List Packet). replied Sent None l []) c.new.ensures) held.streams
    (held-consumers c.args.self.now v held) (c.idle_all.ensures v held.askers)
