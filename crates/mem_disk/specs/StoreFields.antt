-- What the fields of a store of files in memory stand for, and what holds of them.
use Rattle.std.specs.Prelude.{map}
use Rattle.mem_disk.specs.Stores.{Store, IsCounted}
use Rattle.mem_disk.specs.declared.files.MemFiles.TheInside.{Inside}

abbrev pub store_of : Inside → Store
store_of s = record { slots = s.disks.items; texts = s.texts.items; handed = map (λ v. v.items) s.handed.items; failing = s.failing.items; calls = s.calls; fault_count = s.faults; disk_fault_count = s.disk_faults }

abbrev pub AreCounts : Inside → Type 0
AreCounts s = IsCounted (store_of s)
