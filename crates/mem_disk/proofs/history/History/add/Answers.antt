use Rattle.std.proofs.Common.{◌≤◌, ◌++◌, ◌∷◌, [], ◌∙◌, ap, arith, vec_capacity}
use Rattle.mem_disk.specs.Entries.{op_of}
use Rattle.mem_disk.specs.Contents.{after_op}
use Rattle.mem_disk.proofs.Keeping.{kept_added, ends_within}
use Rattle.mem_disk.proofs.history.History.add.Goals as goal

pub invariant_of-self-2 : goal.invariant_of-self-2
invariant_of-self-2 c =
    let h = c.self.inside in
    let made = c.in_ok-make_room.ensures {u = tt} in
    let op = op_of c.args.entry in
    let roomy : c.end.result ≤ vec_capacity c.redo.new.bytes = omega (arith, made.room, c.redo.ensures.capacity) in
    kept_added h c.self.invariant c.redo.new.bytes c.make_room.new.first c.push_reserved.new.self c.args.entry
    (c.push_reserved.ensures.items ∙ ap (λ l. l ++ c.args.entry ∷ []) made.entries) c.requires.change made.kept
    (c.redo.ensures.items ∙ ap (λ b. after_op b op) made.bytes) (ends_within c.end.result (vec_capacity c.redo.new.bytes) roomy op c.end.ensures)
    (omega (arith, made.capacity, c.redo.ensures.capacity)) (omega (arith, made.entry_room, c.push_reserved.ensures.len, c.push_reserved.ensures.capacity))
