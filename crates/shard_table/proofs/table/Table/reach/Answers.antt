use Rattle.std.proofs.Common.{Bool, false, sym, List, [], map, ap, ◌∙◌, subst}
use Rattle.js_wire.specs.declared.packet.Packet.{Packet}
use Rattle.shard_machine.specs.declared.call.ShardCall.TheVariants as call
use Rattle.shard_machine.specs.declared.reply.Outcome.TheVariants.{Sent}
use Rattle.shard_machine.specs.Answers.{paused_for, reaches}
use Rattle.shard_machine.specs.Views.{replied}
use Rattle.std.specs.Prelude.{None, Ok}
use Rattle.shard_copies.specs.Standing.{ConsumersState, with_all}
use Rattle.shard_table.specs.Answering.{Gives}
use Rattle.shard_table.proofs.Doing.{does-sends}
use Rattle.shard_table.proofs.Rows.{held-consumers}
use Rattle.shard_table.proofs.table.Table.reach.Goals as goal

pub returns-then-there : goal.returns-then-there
returns-then-there c = λ v held. subst (λ (b : Bool). Gives v (call.Reach c.args.node.now b c.args.now) c.reach_again.result c.reach_again.new.self) (sym c.if-there.true) (c.reach_again.ensures v held)

pub returns-else-there : goal.returns-else-there
returns-else-there c = λ v held.
    let node = c.args.node.now in
    let now = c.args.now in
    does-sends v (call.Reach node c.args.there now) [] (map (paused_for node false) v.consumers) v.askers c.with_packets.result _ (sym (ap (λ (b : Bool). Ok (reaches v node b now)) c.if-there.false))
    (c.with_packets.ensures ∙ ap (λ (l : List Packet). replied Sent None l []) c.new.ensures) held.streams
    (c.reach.ensures ∙ ap (λ (s : ConsumersState). with_all s (map (paused_for node false) s.all)) (held-consumers c.args.self.now v held)) held.askers
