use Rattle.std.proofs.Common.{◌≡◌, ℕ, List, [], ◌∷◌, ◌++◌, true, false, Option, Some, None, refl, sym, ap, ◌∙◌, subst}
use Rattle.std.specs.Option.{option_copied}
use Rattle.shard_table.specs.declared.table.Table.{Table}
use Rattle.stream_fold.specs.declared.decision.Decision.{Decision}
use Rattle.stream_fold.specs.declared.decision.Decision.TheVariants.{AskAgain, Reply, Stop}
use Rattle.js_wire.specs.declared.packet.Packet.{Packet}
use Rattle.shard_machine.specs.declared.call.ShardCall.TheVariants as call
use Rattle.shard_machine.specs.declared.reply.Outcome.TheVariants as outcome
use Rattle.shard_machine.specs.Views.{replied}
use Rattle.shard_table.specs.declared.answered.Answered.TheVariants.{Done}
use Rattle.shard_machine.specs.Answers.{flow_answer}
use Rattle.shard_table.proofs.Hears.{for-copy, gives-done, reply-is}
use Rattle.shard_table.proofs.Moving.{does-moved}
use Rattle.shard_table.proofs.table.Table.reply.Goals as goal

pub returns-in-Ok : goal.returns-in-Ok
returns-in-Ok c = λ v h x.
    let id = c.args.id.now in
    let old = c.args.self.now in
    let packet = c.args.packet.now in
    let now = c.args.now in
    let new : Table = record { alloc = old.alloc; streams = old.streams; consumers = old.consumers; askers = c.follow.new.self } in
    let f = for-copy v id Reply packet now x (λ e. cc) in
    let sent : c.flow_answer.new.packets ≡ flow_answer packet = c.in-Ok.ensures ∙ ap (λ (ps : List Packet). ps ++ flow_answer packet) c.new-packets.ensures in
    gives-done v (call.Heard packet now) c.heard_reply.result (replied (outcome.Heard Reply) None (flow_answer packet) []) new
    (c.heard_reply.ensures ∙ ap Done (reply-is (outcome.Heard Reply) None None c.flow_answer.new.packets (flow_answer packet) c.new.result [] refl sent c.new.ensures))
    (does-moved old new v id Reply packet now x.known f (flow_answer packet) [] refl h refl refl (c.follow.ensures v f.copy h.askers f.stream f.index f.decided))
