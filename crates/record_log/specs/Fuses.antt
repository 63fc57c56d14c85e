-- Fuses on the disks of a log of records in memory.
use Rattle.std.specs.Prelude.{ℕ, zero, suc, Bool, true, false}
use Rattle.mem_disk.specs.declared.fate.Fate.{Fate}
use Rattle.mem_disk.specs.MemDisks.{DiskState}
use Rattle.record_log.specs.LogStates.{LogState}

-- the disk with this fuse
abbrev pub with_fuse : DiskState → ℕ → Fate → DiskState
with_fuse disk call fate = record disk { fuse = call; fuse_fate = fate }

-- of the two disks the one that counts has the fuse
abbrev pub lit : Bool → LogState DiskState → ℕ → Fate → LogState DiskState
lit false l call fate = record l { main = with_fuse l.main call fate }
lit true l call fate = record l { spare = with_fuse l.spare call fate }

-- a fuse is set on the disk that counts, and 0 takes the fuses of both away
abbrev pub fused : LogState DiskState → ℕ → Fate → LogState DiskState
fused l zero fate = record l { main = with_fuse l.main 0 fate; spare = with_fuse l.spare 0 fate }
fused l (suc call) fate = lit l.on_spare l (suc call) fate
