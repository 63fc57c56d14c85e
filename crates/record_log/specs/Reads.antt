-- What the parts of a store's reading answer.
use Rattle.std.specs.Prelude.{◌≡◌, ◌≢◌, ◌≤◌, ◌<◌, ℕ, Bool, List, length, map, Option, None, Some, Result, Ok, Err, ⊤}
use Rattle.leaf_edges.specs.Causes.{RoseByOne}
use Rattle.gate_journal.specs.Areas.{AreaState, Holds, no_area, IsHeadless, max_area}
use Rattle.gate_journal.specs.declared.area.Ending.TheVariants.{Unreadable}
use Rattle.record_codec.specs.declared.records.Rec.{Rec}
use Rattle.record_codec.specs.Spelling.{spelling}
use Rattle.record_log.specs.declared.fault.Part.{Part}
use Rattle.record_log.specs.declared.fault.Part.TheVariants.{Spare}
use Rattle.record_log.specs.declared.fault.StoreFault.{StoreFault}
use Rattle.record_log.specs.declared.fault.StoreFault.TheVariants.{ReadFault, BadJournal, TooLong, NoMemory}
use Rattle.log_replay.specs.declared.replay.Replay.{Replay}
use Rattle.shard_machine.specs.Legal.{IsLogOf}
use Rattle.log_replay.specs.Replays.{IsReplayOf}
use Rattle.record_log.specs.Stores.{LacksGate, HasBadGate, HasNo, IsFirst, IsBadPair, IsBadStore, IsTooLong, AreShort, OneCounts, IsWhole, StoreHolds, is_passed, bodies_of, OnSpares, SpareHas}

-- what the disk of this part holds
abbrev pub FindsArea : Part → List ℕ → Result (Option AreaState) StoreFault → Type 0
FindsArea part c (Ok (Some area)) = (length c ≤ max_area) × Holds area c
FindsArea part c (Ok None) = (length c ≤ max_area) × IsHeadless c
FindsArea part c (Err ReadFault) = Unit {0}
FindsArea part c (Err (BadJournal p place)) = ⊥
FindsArea part c (Err (TooLong p len)) = (p ≡ part) × (max_area < length c) × (len ≡ length c)
FindsArea part c (Err NoMemory) = Unit {0}

-- what the spare holds, and no area where it isn't there
abbrev pub FindsSpare : Option (List ℕ) → Result (Option AreaState) StoreFault → Type 0
FindsSpare None result = result ≡ Ok (Some no_area)
FindsSpare (Some c) result = FindsArea Spare c result

-- a fault of reading comes only where the count went up by one, and every other answer leaves it
abbrev pub FindCauses : {T : Type 0} → ℕ → ℕ → Result T StoreFault → Type 0
FindCauses before now (Ok value) = now ≡ before
FindCauses before now (Err ReadFault) = RoseByOne before now
FindCauses before now (Err (BadJournal part place)) = now ≡ before
FindCauses before now (Err (TooLong part len)) = now ≡ before
FindCauses before now (Err NoMemory) = now ≡ before

-- the same of a spare
abbrev pub SpareCauses : {D T : Type 0} → (D → ℕ) → Option D → Option D → Result T StoreFault → Type 0
SpareCauses faults old new (Ok value) = OnSpares (λ s t. faults t ≡ faults s) old new
SpareCauses faults old new (Err ReadFault) = SpareHas (λ s t. RoseByOne (faults s) (faults t)) old new
SpareCauses faults old new (Err (BadJournal part place)) = OnSpares (λ s t. faults t ≡ faults s) old new
SpareCauses faults old new (Err (TooLong part len)) = OnSpares (λ s t. faults t ≡ faults s) old new
SpareCauses faults old new (Err NoMemory) = OnSpares (λ s t. faults t ≡ faults s) old new

-- the answer is no fault of a disk
abbrev pub IsNoDiskFault : {T : Type 0} → Result T StoreFault → Type 0
IsNoDiskFault (Ok value) = ⊤
IsNoDiskFault (Err ReadFault) = ⊥
IsNoDiskFault (Err (BadJournal part place)) = ⊤
IsNoDiskFault (Err (TooLong part len)) = ⊥
IsNoDiskFault (Err NoMemory) = ⊤

-- what is read of two areas with heads: whether the second is taken, and what is held of the log
abbrev pub ReadsAreas : AreaState → AreaState → Result (Bool × Replay) StoreFault → Type 0
ReadsAreas a b (Ok found) = OneCounts a b × IsWhole a × IsWhole b × (found.0 ≡ is_passed a b) × (log : List Rec) × IsLogOf log (bodies_of a b) × IsReplayOf found.1 log × (bodies_of a b ≡ map spelling log)
ReadsAreas a b (Err ReadFault) = ⊥
ReadsAreas a b (Err (BadJournal part place)) = IsBadPair a b part place
ReadsAreas a b (Err (TooLong part len)) = ⊥
ReadsAreas a b (Err NoMemory) = Unit {0}

-- what is read of two disks: what is held of the log for which they stand
abbrev pub ReadsReplay : List ℕ → Option (List ℕ) → Result Replay StoreFault → Type 0
ReadsReplay a b (Ok replay) = AreShort a b × (log : List Rec) × StoreHolds log a b × IsReplayOf replay log
ReadsReplay a b (Err ReadFault) = Unit {0}
ReadsReplay a b (Err (BadJournal part place)) = AreShort a b × IsBadStore a b part place
ReadsReplay a b (Err (TooLong part len)) = IsTooLong a b part len
ReadsReplay a b (Err NoMemory) = Unit {0}

-- no disk ends where a gate is due, or the first that does
abbrev pub FindsGates : AreaState → AreaState → Result Unit StoreFault → Type 0
FindsGates a b (Ok value) = HasNo LacksGate a × HasNo LacksGate b
FindsGates a b (Err ReadFault) = ⊥
FindsGates a b (Err (BadJournal part place)) = IsFirst LacksGate LacksGate a b part place
FindsGates a b (Err (TooLong part len)) = ⊥
FindsGates a b (Err NoMemory) = ⊥

-- the log of this area, or its first bad gate
abbrev pub ReadsLog : Part → AreaState → Result Replay StoreFault → Type 0
ReadsLog part area (Ok replay) = (log : List Rec) × IsLogOf log area.bodies × IsReplayOf replay log × (area.ending ≢ Unreadable) × (area.bodies ≡ map spelling log)
ReadsLog part area (Err ReadFault) = ⊥
ReadsLog part area (Err (BadJournal p place)) = (p ≡ part) × HasBadGate area place
ReadsLog part area (Err (TooLong p len)) = ⊥
ReadsLog part area (Err NoMemory) = Unit {0}
