-- What the parts of a load and of an append do.
use Rattle.std.specs.Prelude.{◌≡◌, ◌⊎◌, ℕ, ◌+◌, ◌≤◌, ◌<◌, ◌^◌, ◌==◌, Bool, List, ◌++◌, length, All, Option, Some, None, Result, Ok, Err}
use Rattle.std.specs.Int.{w32, to_le_bytes}
use Rattle.leaf_edges.specs.declared.fault.EdgeError.{EdgeError}
use Rattle.leaf_edges.specs.declared.fault.EdgeError.TheVariants.{Failed, NoMemory as NoRoom}
use Rattle.leaf_edges.specs.Disks.{Op, Unchanged, Elapses}
use Rattle.gate_journal.specs.Areas.{head, block, blocks, IsBody, IsHeadless, HasBadLength, EndsIn}
use Rattle.gate_journal.specs.declared.fault.LoadFault.{LoadFault}
use Rattle.gate_journal.specs.declared.fault.LoadFault.TheVariants.{ReadFault, NoMemory}
use Rattle.gate_journal.specs.declared.fault.AppendFault.{AppendFault}
use Rattle.gate_journal.specs.declared.fault.AppendFault.TheVariants.{DiskFault, NoMemory as OutOfMemory}
use Rattle.gate_journal.specs.declared.walk.Head.{Head}
use Rattle.gate_journal.specs.declared.walk.Next.{Next}
use Rattle.gate_journal.specs.declared.walk.Next.TheVariants.{Body, End}
use Rattle.gate_journal.specs.declared.walk.Walk.{Walk}

-- a disk's refusal of a write or a sync
abbrev pub append_fault : EdgeError → AppendFault
append_fault Failed = DiskFault
append_fault NoRoom = OutOfMemory

-- the disk was only looked at
pub record Looks {D : Type 0} (seen : D → List ℕ) (images : D → List ℕ → Type 0) (unsynced : D → Bool) (done : D → List Op) (failed : D → Option Op) (moment : D → ℕ) (left_since : D → ℕ → List ℕ → Type 0) (old new : D) : Type 0 where
  pub same : Unchanged seen images unsynced done failed old new
  pub time : Elapses moment left_since images old new

-- the disk failed at a read, or there was no memory
abbrev pub IsReadOrMemory : LoadFault → Type 0
IsReadOrMemory fault = (fault ≡ ReadFault) ⊎ (fault ≡ NoMemory)

-- the head of an area that begins with these bytes, or that they have none
abbrev pub ReadsHead : List ℕ → Result (Option Head) LoadFault → Type 0
ReadsHead c (Ok (Some found)) = (area_gate : ℕ) × (rest : List ℕ) × (c ≡ head area_gate found.generation ++ rest) × ((area_gate == 1) ≡ found.counts) × (found.generation < 2 ^ 64) × (18 ≤ length c)
ReadsHead c (Ok None) = IsHeadless c
ReadsHead c (Err fault) = fault ≡ ReadFault

-- the record behind an open gate, or that its length is bad
abbrev pub ReadsRecord : List ℕ → Result (Option (List ℕ)) LoadFault → Type 0
ReadsRecord c (Ok (Some body)) = (rest : List ℕ) × (c ≡ to_le_bytes w32 (length body) ++ body ++ rest) × IsBody body
ReadsRecord c (Ok None) = HasBadLength c
ReadsRecord c (Err fault) = IsReadOrMemory fault

-- the record that begins here, or that none does
abbrev pub ReadsBody : List ℕ → Result Next LoadFault → Type 0
ReadsBody c (Ok (Body body)) = (rest : List ℕ) × (c ≡ block body ++ rest) × IsBody body
ReadsBody c (Ok (End ending)) = EndsIn ending c
ReadsBody c (Err fault) = IsReadOrMemory fault

-- a record that begins at this place ends at this one at the latest
abbrev pub FitsBefore : ℕ → ℕ → Result Next LoadFault → Type 0
FitsBefore place len (Ok (Body body)) = place + 5 + length body ≤ len
FitsBefore place len (Ok (End ending)) = Unit {0}
FitsBefore place len (Err fault) = Unit {0}

-- the records that begin here up to what ends them
abbrev pub ReadsBodies : List ℕ → Result Walk LoadFault → Type 0
ReadsBodies c (Ok found) = (rest : List ℕ) × (c ≡ blocks found.bodies ++ rest) × EndsIn found.ending rest × All IsBody found.bodies
ReadsBodies c (Err fault) = IsReadOrMemory fault
