use Rattle.std.proofs.Common.{◌≡◌, ℕ, List, [], map, true, refl, sym, ap, ◌∙◌, subst}
use Rattle.std.specs.Prelude.{None}
use Rattle.js_wire.specs.declared.packet.Packet.{Packet}
use Rattle.shard_machine.specs.declared.call.ShardCall.TheVariants as call
use Rattle.shard_machine.specs.declared.reply.Outcome.TheVariants.{Sent}
use Rattle.shard_machine.specs.Answers.{copies_of_node, paused_for}
use Rattle.shard_machine.specs.Views.{all_copies, asks_of, replied, with_all_asked}
use Rattle.shard_copies.specs.declared.chosen.Chosen.{Chosen}
use Rattle.shard_copies.specs.Asked.{AskingState, Asks, chosen}
use Rattle.shard_copies.specs.Standing.{ConsumersState, with_all}
use Rattle.shard_table.proofs.Asking.{behind-first, kept-none, only-askers}
use Rattle.shard_table.proofs.Doing.{does-sends}
use Rattle.shard_table.proofs.Rows.{held-consumers}
use Rattle.shard_table.proofs.table.Table.reach_those.Goals as goal

pub asked-packets-requires : goal.asked-packets-requires
asked-packets-requires c = c.in-Ok.ensures.kept (kept-none c.args.self.now.askers c.behind-asking.result (ap (λ (a : AskingState). a.askers) c.behind-asking.ensures))

pub returns-in-Ok : goal.returns-in-Ok
returns-in-Ok c = λ v held which.
    let node = c.args.node.now in
    let now = c.args.now in
    let copies = copies_of_node v node in
    let before = c.behind-asking.result in
    let no_packets : before.packets ≡ [] = ap (λ (a : AskingState). a.packets) c.behind-asking.ensures ∙ c.new.ensures in
    let no_askers : before.askers ≡ [] = ap (λ (a : AskingState). a.askers) c.behind-asking.ensures in
    let mid = c.in-Ok.ensures.held v held in
    let asks : Asks before c.ask_all.new.asking v now copies = subst (λ (w : Chosen). Asks before c.ask_all.new.asking v now (chosen w v now (all_copies v.image))) which (c.in-Ok.ensures.asks v held) in
    does-sends v (call.Reach node true now) (asks_of v copies) (map (paused_for node true) v.consumers) (with_all_asked v now copies v.askers) c.with_packets.result _ refl
    (c.with_packets.ensures ∙ ap (λ (l : List Packet). replied Sent None l []) (c.asked-packets.ensures.packets ∙ behind-first before c.ask_all.new.asking v now copies [] no_packets asks)) mid.streams
    (c.reach.ensures ∙ ap (λ (s : ConsumersState). with_all s (map (paused_for node true) s.all)) (held-consumers c.ask_all.new.self v mid))
    (c.asked-packets.ensures.shown v now copies mid.askers (only-askers before c.ask_all.new.asking v now copies no_askers asks))

pub returns-in-Err : goal.returns-in-Err
returns-in-Err c = λ v held which. (tt, c.ask_all.ensures.held v held)
