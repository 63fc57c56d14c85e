use Rattle.std.proofs.Common.{◌≡◌, ◌∙◌, false, sym, ap, subst, arith}
use Rattle.leaf_edges.specs.Disks.{wrote}
use Rattle.mem_disk.specs.Entries.{op_of, EndsWithin}
use Rattle.mem_disk.specs.MemDisks.{Past, IsSound, IsChange, refuses, max_disk}
use Rattle.mem_disk.specs.MemDiskFields.{disk_of}
use Rattle.mem_disk.proofs.Soundness.{IsShort, idle_past, sound_more, tried_short}
use Rattle.mem_disk.proofs.disk.MemDisk.do_write.Goals as goal

pub invariant_of-self-2 : goal.invariant_of-self-2
invariant_of-self-2 c =
    let d = disk_of c.self.inside in
    let open_ : refuses d ≡ false = ap refuses c.self.view_is ∙ sym c.refuses.ensures.value ∙ c.if-refuses.false in
    let op = op_of c.in_ok-entry.entry in
    let is : op ≡ wrote c.args.place c.args.bytes.now = c.in_ok-entry.ensures {u = tt} in
    let ends : EndsWithin max_disk op = subst (EndsWithin max_disk) (sym is) (omega arith) in
    subst (λ (p : Past). IsSound (record d { past = p })) (sym (c.in_ok-add.ensures {u = tt}).ok)
    (sound_more d c.self.invariant (idle_past d c.self.invariant open_) op (subst IsChange (sym is) tt) ends)

pub invariant_of-self-then-self-eq1 : goal.invariant_of-self-then-self-eq1
invariant_of-self-then-self-eq1 c =
    let d = disk_of c.self.inside in
    let open_ : refuses d ≡ false = ap refuses c.self.view_is ∙ sym c.refuses.ensures.value ∙ c.if-refuses.false in
    let op = op_of c.in_ok-tried.tried in
    let is : op ≡ wrote c.args.place c.args.bytes.now = c.in_ok-tried.ensures {u = tt} in
    let ends : EndsWithin max_disk op = subst (EndsWithin max_disk) (sym is) (omega arith) in
    record {
      idle = λ runs. absurd (cc);
      range = c.self.invariant.range;
      count = c.self.invariant.count;
      short = subst IsShort (sym (c.in_ok-add_tried.ensures {u = tt}).ok) (tried_short d c.self.invariant (idle_past d c.self.invariant open_) op ends);
    }
