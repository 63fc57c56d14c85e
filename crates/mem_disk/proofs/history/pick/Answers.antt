use Rattle.std.proofs.Common.{◌-◌, List, length, ◌∙◌, ap, sym, arith, map, take, drop, true, false, option_map, vec_capacity}
use Rattle.std.specs.Prelude.{option_to_list}
use Rattle.mem_disk.specs.declared.fate.Fate.{Fate}
use Rattle.leaf_edges.specs.Disks.{Op}
use Rattle.mem_disk.specs.Contents.{Content, after_ops, picked}
use Rattle.mem_disk.specs.Entries.{op_of, ops_of, redone, first_bytes}
use Rattle.mem_disk.specs.MemDisks.{with_tried}
use Rattle.mem_disk.proofs.Replaying.{rest_room, ops_rest, all_picked, torn_picked}
use Rattle.mem_disk.proofs.history.pick.Goals as goal

pub replay-requires : goal.replay-requires
replay-requires c = rest_room (vec_capacity c.args.bytes.now) (vec_capacity c.rewind-in-Torn.new.bytes) c.args.synced c.args.entries.now (omega (arith, c.rewind-in-Torn.ensures.capacity)) c.requires.room

pub returns-in-All : goal.returns-in-All
returns-in-All c =
    let tried = option_map op_of c.args.tried.now in
    let ops : List Op = ops_of c.args.entries.now in
    let first = first_bytes c.args.entries.now c.args.first.now c.args.bytes.now.items in
    let content : Content = record { base = after_ops first (take c.args.synced ops); since = drop c.args.synced ops } in
    c.redo_tried.ensures ∙ ap (λ b. after_ops b (map (redone false) (option_to_list tried))) (sym c.requires.seen) ∙ all_picked first c.args.synced ops tried
    ∙ ap (λ (fate : Fate). picked fate (with_tried content tried)) (sym c.in-All.is)

pub returns-in-Torn : goal.returns-in-Torn
returns-in-Torn c =
    let tried = option_map op_of c.args.tried.now in
    let ops : List Op = ops_of c.args.entries.now in
    let first = first_bytes c.args.entries.now c.args.first.now c.args.bytes.now.items in
    let base = after_ops first (take c.args.synced ops) in
    let content : Content = record { base = base; since = drop c.args.synced ops } in
    let last = map (redone true) (option_to_list tried) in
    c.redo_tried-in-Torn.ensures
    ∙ ap (λ b. after_ops b last) (c.replay.ensures.items ∙ ap (λ b. after_ops b (map (redone true) (ops_of (take (length c.args.entries.now - c.args.synced) (drop c.args.synced c.args.entries.now))))) c.rewind-in-Torn.ensures.items ∙ ap (λ o. after_ops base (map (redone true) o)) (ops_rest c.args.synced c.args.entries.now))
    ∙ torn_picked base (drop c.args.synced ops) tried ∙ ap (λ (fate : Fate). picked fate (with_tried content tried)) (sym c.in-Torn.is)
