use Rattle.std.proofs.Common.{◌≡◌, ℕ, List, [], ◌∷◌, ◌++◌, true, false, Option, Some, None, refl, sym, ap, ◌∙◌, subst}
use Rattle.std.specs.Option.{option_copied}
use Rattle.shard_table.specs.declared.table.Table.{Table}
use Rattle.stream_fold.specs.declared.decision.Decision.{Decision}
use Rattle.stream_fold.specs.declared.decision.Decision.TheVariants.{AskAgain, Reply, Stop}
use Rattle.js_wire.specs.declared.packet.Packet.{Packet}
use Rattle.shard_machine.specs.declared.call.ShardCall.TheVariants as call
use Rattle.shard_machine.specs.declared.reply.Outcome.TheVariants as outcome
use Rattle.shard_machine.specs.Views.{replied}
use Rattle.shard_table.specs.declared.answered.Answered.TheVariants.{Done}
use Rattle.shard_table.proofs.Hears.{for-copy, gives-done, reply-is}
use Rattle.shard_table.proofs.Moving.{does-moved, moves-follow, moves-not-foreign}
use Rattle.shard_table.proofs.table.Table.move_on.Goals as goal

pub returns : goal.returns
returns c = λ v h x moves.
    let id = c.args.id.now in
    let old = c.args.self.now in
    let packet = c.args.packet.now in
    let now = c.args.now in
    let new : Table = record { alloc = old.alloc; streams = old.streams; consumers = old.consumers; askers = c.follow.new.self } in
    let d = c.args.decision in
    let f = for-copy v id d packet now x (moves-not-foreign d moves) in
    gives-done v (call.Heard packet now) c.heard_reply.result (replied (outcome.Heard d) None [] []) new
    (c.heard_reply.ensures ∙ ap Done (reply-is (outcome.Heard d) None None c.new.result [] c.new-2.result [] refl c.new.ensures c.new-2.ensures))
    (does-moved old new v id d packet now x.known f [] [] (moves-follow d moves v f.copy now packet) h refl refl (c.follow.ensures v f.copy h.askers f.stream f.index f.decided))
