-- What the fields of a disk in memory stand for.
use Rattle.std.specs.Prelude.{option_map}
use Rattle.mem_disk.specs.Entries.{op_of}
use Rattle.mem_disk.specs.MemDisks.{DiskState, IsSound}
use Rattle.mem_disk.specs.declared.disk.MemDisk.TheInside.{Inside}

abbrev pub disk_of : Inside → DiskState
disk_of d = record { past = d.history; last_failed = option_map op_of d.last_failed; stopped = d.stopped; fuse = d.fuse; fuse_fate = d.fuse_fate; failing = d.failing.items; calls = d.calls; fault_count = d.faults }

-- what holds of them
abbrev pub AreSound : Inside → Type 0
AreSound d = IsSound (disk_of d)
