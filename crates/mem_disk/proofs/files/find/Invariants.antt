use Rattle.std.proofs.Common.{◌≡◌, false, take}
use Rattle.mem_disk.specs.Stores.{has_name}
use Rattle.mem_disk.proofs.files.find.Given as goal

-- none of the disks so far has the name
abbrev pub invariant-loop-at : goal.invariant-loop-at
invariant-loop-at l = has_name (take l.at l.disks) l.name ≡ false
