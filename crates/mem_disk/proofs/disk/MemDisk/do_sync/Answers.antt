use Rattle.std.proofs.Common.{◌≡◌, ◌∙◌, false, sym, ap, subst}
use Rattle.mem_disk.specs.MemDisks.{Past, IsSound, refuses}
use Rattle.mem_disk.specs.MemDiskFields.{disk_of}
use Rattle.mem_disk.proofs.Soundness.{idle_past, sound_synced}
use Rattle.mem_disk.proofs.disk.MemDisk.do_sync.Goals as goal

pub invariant_of-self-2 : goal.invariant_of-self-2
invariant_of-self-2 c =
    let d = disk_of c.self.inside in
    let open_ : refuses d ≡ false = ap refuses c.self.view_is ∙ sym c.refuses.ensures.value ∙ c.if-refuses.false in
    subst (λ (p : Past). IsSound (record d { past = p })) (sym c.sync.ensures) (sound_synced d c.self.invariant (idle_past d c.self.invariant open_))
