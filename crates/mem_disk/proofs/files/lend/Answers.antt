use Rattle.std.proofs.Common.{◌∙◌, None, set, ap, arith}
use Rattle.mem_disk.proofs.Slots.{disk_at-read, with_disk-set}
use Rattle.mem_disk.proofs.files.lend.Goals as goal

pub returns-clause-disks : goal.returns-clause-disks
returns-clause-disks c =
    let slots = c.args.disks.now.items in
    ap (set slots c.args.at) c.take.ensures.rest ∙ with_disk-set slots c.args.at c.index_mut.result.now None (omega arith) c.index_mut.ensures.value

pub returns-clause-disk : goal.returns-clause-disk
returns-clause-disk c = c.take.ensures.disk ∙ disk_at-read c.args.disks.now.items c.args.at c.index_mut.result.now (omega arith) c.index_mut.ensures.value
