-- What an append leaves of a log of records.
use Rattle.std.specs.Prelude.{◌≡◌, ℕ, ◌+◌, true, false, List, length, Result, Ok, Err}
use Rattle.gate_journal.specs.declared.fault.AppendFault.{AppendFault}
use Rattle.gate_journal.specs.declared.fault.AppendFault.TheVariants.{DiskFault, NoMemory}
use Rattle.record_log.specs.LogStates.{LogState}

-- a log is open, and this is where it ends
abbrev pub IsOpenAt : {D : Type 0} → LogState D → ℕ → Type 0
IsOpenAt l end = (l.is_open ≡ true) × (l.end ≡ end)

-- a log isn't open, and has no end
abbrev pub IsShut : {D : Type 0} → LogState D → Type 0
IsShut l = (l.is_open ≡ false) × (l.end ≡ 0)

-- at Ok the log ends behind the body's record; after a fault of the disk it isn't open; without memory it is as before
abbrev pub Extends : {D T : Type 0} → LogState D → LogState D → List ℕ → Result T AppendFault → Type 0
Extends old new body (Ok value) = IsOpenAt new (old.end + 5 + length body)
Extends old new body (Err DiskFault) = IsShut new
Extends old new body (Err NoMemory) = IsOpenAt new old.end
