-- What a disk in memory keeps from call to call.
use Rattle.std.specs.Prelude.{◌≡◌, ◌≢◌, ◌⊎◌, ℕ, ◌+◌, ◌-◌, ◌^◌, ◌<◌, ◌≤◌, List, [], ◌∷◌, ◌++◌, Option, Some, None, IsSome}
use Rattle.leaf_edges.specs.Causes.{Rose}
use Rattle.leaf_edges.specs.Disks.{Op, wrote, cut_to, synced}
use Rattle.mem_disk.specs.MemDisks.{DiskState, IsSound}

-- how many of these calls a fuse counts: the writes and the syncs
abbrev pub burns : List Op → ℕ
burns [] = 0
burns (wrote place bytes ∷ ops) = 1 + burns ops
burns (cut_to len ∷ ops) = burns ops
burns (synced ∷ ops) = 1 + burns ops

-- of the call at which a fuse stops a disk: the write of which a crash may leave any part
abbrev pub tried_of : Op → Option Op
tried_of (wrote place bytes) = Some (wrote place bytes)
tried_of (cut_to len) = None
tried_of synced = None

-- these calls were Ok, and no fuse stopped the disk on the way
pub record GoesOn (ops : List Op) (old new : DiskState) : Type 0 where
  pub stopped : new.stopped ≡ old.stopped
  pub tried : new.past.tried ≡ old.past.tried
  pub fuse : new.fuse ≡ old.fuse - burns ops
  -- a fuse that is lit goes on burning
  pub left : old.fuse ≢ 0 → burns ops < old.fuse
  -- a disk that is stopped does nothing
  pub idle : IsSome old.stopped → ops ≡ []
  -- a disk that isn't stopped and whose list is empty doesn't fail
  pub quiet : old.stopped ≡ None → old.failing ≡ [] → new.fault_count ≡ old.fault_count
  -- where no call failed, the one that failed last is as before
  pub last : new.fault_count ≡ old.fault_count → new.fault_count < 2 ^ 64 - 1 → new.last_failed ≡ old.last_failed

-- these calls were Ok, and the fuse stopped the disk at the one behind them that it counts
pub record StopsBehind (ops : List Op) (old new : DiskState) : Type 0 where
  pub running : old.stopped ≡ None
  pub fuse : old.fuse ≡ burns ops + 1
  pub stopped : new.stopped ≡ Some old.fuse_fate
  pub burnt : new.fuse ≡ 0
  pub at : Op
  pub tried : new.past.tried ≡ tried_of at
  pub rose : Rose old.fault_count new.fault_count
  -- where no other call failed, it is the one that failed last
  pub only : new.fault_count ≡ old.fault_count + 1 → new.fault_count < 2 ^ 64 - 1 → new.last_failed ≡ Some at

-- the second state of a disk comes after the first by calls of the disk
pub record LeadsTo (old new : DiskState) : Type 0 where
  pub first : new.past.first ≡ old.past.first
  pub failing : new.failing ≡ old.failing
  pub fate : new.fuse_fate ≡ old.fuse_fate
  -- the writes, cuts and syncs that were Ok
  pub ops : List Op
  pub done : new.past.done ≡ old.past.done ++ ops
  pub calls : old.calls ≤ new.calls
  pub faults : old.fault_count ≤ new.fault_count
  pub way : GoesOn ops old new ⊎ StopsBehind ops old new
  pub sound : IsSound old → IsSound new
