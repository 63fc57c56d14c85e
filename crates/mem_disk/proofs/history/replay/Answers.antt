use Rattle.std.proofs.Common.{◌∙◌, ap, sym, arith, vec_capacity}
use Rattle.mem_disk.specs.Entries.{op_of, redone}
use Rattle.mem_disk.specs.Contents.{after_op}
use Rattle.mem_disk.proofs.Keeping.{ends_within}
use Rattle.mem_disk.proofs.Replaying.{replay_more, entry_room}
use Rattle.mem_disk.proofs.history.replay.Goals as goal

pub redo-requires : goal.redo-requires
redo-requires c = record {
  room = ends_within (vec_capacity c.args.bytes.now) (vec_capacity c.loop-entry.bytes) c.loop-entry.invariant.room (op_of c.entry-item.result)
      (entry_room (vec_capacity c.args.bytes.now) c.args.entries.now c.loop-entry.entry-index c.entry-item.result c.loop-entry-test.true c.entry-item.is c.requires);
}

pub loop-entry-preserved : goal.loop-entry-preserved
loop-entry-preserved c =
    let torn = c.args.torn in
    let entry = c.entry-item.result in
    record {
      done = c.redo.ensures.items ∙ ap (λ b. after_op b (redone torn (op_of entry))) c.loop-entry.invariant.done
          ∙ sym (replay_more c.args.bytes.now.items torn c.args.entries.now c.loop-entry.entry-index entry c.loop-entry-test.true c.entry-item.is);
      room = omega (arith, c.loop-entry.invariant.room, c.redo.ensures.capacity);
    }
