use Rattle.std.proofs.Common.{◌∙◌, Some, set, ap, arith}
use Rattle.mem_disk.proofs.Slots.{with_disk-set}
use Rattle.mem_disk.proofs.files.shelve.Goals as goal

pub returns : goal.returns
returns c =
    let slots = c.args.disks.now.items in
    ap (set slots c.args.at) c.put.ensures ∙ with_disk-set slots c.args.at c.index_mut.result.now (Some c.args.disk) (omega arith) c.index_mut.ensures.value
