use Rattle.std.proofs.Common.{◌≡◌, ◌≤◌, ℕ, length, get_or, sym, ap, ◌∙◌, subst}
use Rattle.std.proofs.Math.ListN.{set}
use Rattle.js_wire.specs.declared.packet.AskerId.{AskerId}
use Rattle.shard_copies.specs.Places.{moved_on}
use Rattle.shard_copies.proofs.Steps.{set-changed, none-changed}
use Rattle.shard_copies.proofs.kept.move_on_in.Goals as goal

pub returns-then-place-all : goal.returns-then-place-all
returns-then-place-all c =
    let id : AskerId = record { node = c.args.node.now; stream = c.args.stream.now; index = c.args.index } in
    ap (set c.args.all.now c.place_of-place.result) c.move_on.ensures
    ∙ set-changed id (moved_on c.args.decision.now c.args.packet.now c.args.now) c.args.all.now c.place_of-place.result
    (get_or c.args.all.now c.place_of-place.result c.index-all-place.result) c.place_of-place.ensures c.if-place-all.true (ap (get_or c.args.all.now c.place_of-place.result) c.index-all-place.is)

pub returns-else-place-all : goal.returns-else-place-all
returns-else-place-all c =
    let id : AskerId = record { node = c.args.node.now; stream = c.args.stream.now; index = c.args.index } in
    sym (none-changed id (moved_on c.args.decision.now c.args.packet.now c.args.now) c.args.all.now (subst (λ (n : ℕ). length c.args.all.now ≤ n) c.place_of-place.ensures c.if-place-all.false))
