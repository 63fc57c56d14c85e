use Rattle.std.proofs.Common.{◌≡◌, ◌∙◌, false, sym, ap, subst}
use Rattle.leaf_edges.specs.Disks.{cut_to}
use Rattle.mem_disk.specs.MemDisks.{Past, IsSound, refuses}
use Rattle.mem_disk.specs.MemDiskFields.{disk_of}
use Rattle.mem_disk.proofs.Soundness.{idle_past, sound_more}
use Rattle.mem_disk.proofs.disk.MemDisk.do_cut.Goals as goal

pub invariant_of-self-2 : goal.invariant_of-self-2
invariant_of-self-2 c =
    let d = disk_of c.self.inside in
    let open_ : refuses d ≡ false = ap refuses c.self.view_is ∙ sym c.refuses.ensures.value ∙ c.if-refuses.false in
    subst (λ (p : Past). IsSound (record d { past = p })) (sym (c.in_ok-add.ensures {u = tt}).ok) (sound_more d c.self.invariant (idle_past d c.self.invariant open_) (cut_to c.args.len) tt tt)
