use Rattle.std.proofs.Common.{subst, sym, arith}
use Rattle.mem_disk.specs.Stores.{Store, IsFirstOf}
use Rattle.mem_disk.proofs.Slots.{first_within}
use Rattle.mem_disk.proofs.files.MemFiles.hand_out.Goals as goal

pub lend-disk-requires : goal.lend-disk-requires
lend-disk-requires c =
    let first = subst (λ (s : Store). IsFirstOf s.slots c.args.name.now c.args.at) (sym c.self.view_is) c.requires in
    omega (arith, first_within c.self.inside.disks.items c.args.name.now c.args.at first)
