-- What the parts of an opening answer, and what they do to a disk, within the crate.
use Rattle.std.specs.Prelude.{◌≡◌, ◌⊎◌, ℕ, ◌≤◌, ◌<◌, ◌+◌, ◌-◌, ◌^◌, min, Bool, true, false, List, [], ◌∷◌, length, map, if◌then◌else◌, Option, None, Some, Result, Ok, Err}
use Rattle.leaf_edges.specs.Causes.{RoseByOne}
use Rattle.leaf_edges.specs.Disks.{Op}
use Rattle.gate_journal.specs.Areas.{AreaState, Holds, IsHeadless, max_area}
use Rattle.gate_journal.specs.Journals.{MayTear, journal_of}
use Rattle.gate_journal.specs.declared.fault.LoadFault.{LoadFault}
use Rattle.gate_journal.specs.declared.fault.LoadFault.TheVariants as load
use Rattle.gate_journal.specs.declared.fault.AppendFault.{AppendFault}
use Rattle.gate_journal.specs.declared.fault.AppendFault.TheVariants as append
use Rattle.record_codec.specs.declared.records.Rec.{Rec}
use Rattle.record_codec.specs.Spelling.{spelling}
use Rattle.shard_machine.specs.Legal.{IsLegal, IsLogOf}
use Rattle.shard_machine.specs.Steps.{end_after}
use Rattle.log_replay.specs.Replays.{IsReplayOf}
use Rattle.record_log.specs.declared.fault.OpenFault.{OpenFault}
use Rattle.record_log.specs.declared.fault.OpenFault.TheVariants.{ReadFault, SyncFault, BadJournal, TooLong, NoMemory}
use Rattle.record_log.specs.declared.fault.Part.{Part}
use Rattle.record_log.specs.declared.fault.StoreFault.{StoreFault}
use Rattle.record_log.specs.declared.fault.StoreFault.TheVariants as store
use Rattle.record_log.specs.declared.opening.Loaded.{Loaded}
use Rattle.record_log.specs.Standing.{StandIn, EachStandsFor, IsOneOf, IsUntorn}
use Rattle.record_log.specs.Opening.{AddsAll, AddsFront}
use Rattle.record_log.specs.Serving.{IsServed}
use Rattle.record_log.specs.Stores.{OneCounts, IsWhole, IsBadPair, is_passed, bodies_of}

-- a fault of a store's reading, without the part
abbrev pub open_fault : StoreFault → OpenFault
open_fault store.ReadFault = ReadFault
open_fault (store.BadJournal part place) = BadJournal place
open_fault (store.TooLong part len) = TooLong len
open_fault store.NoMemory = NoMemory

-- a fault of an area's reading
abbrev pub load_fault : LoadFault → OpenFault
load_fault load.ReadFault = ReadFault
load_fault load.SyncFault = SyncFault
load_fault (load.BadJournal place) = BadJournal place
load_fault (load.TooLong len) = TooLong len
load_fault load.NoMemory = NoMemory

-- a fault of the formatting of an empty disk
abbrev pub format_fault : AppendFault → OpenFault
format_fault append.DiskFault = SyncFault
format_fault append.NoMemory = NoMemory

-- whatever a crash left since a moment it left before, or it is that of an empty disk that was formatted
abbrev pub LeavesOrTears : {D : Type 0} → (D → ℕ) → (D → ℕ → List ℕ → Type 0) → (D → List ℕ) → (D → List ℕ → Type 0) → D → D → Type 0
LeavesOrTears moment left_since seen images old new = (moment old ≤ moment new)
    × ((t : ℕ) (c : List ℕ) → t ≤ moment old → left_since new t c → left_since old t c ⊎ ((seen old ≡ []) × MayTear (images old) 0 18 c))

-- what an area's opening answers of a disk with these bytes
abbrev pub OpensArea : List ℕ → Result (Option AreaState) OpenFault → Type 0
OpensArea c (Ok (Some area)) = (length c ≤ max_area) × Holds area c
OpensArea c (Ok None) = (length c ≤ max_area) × IsHeadless c
OpensArea c (Err ReadFault) = Unit {0}
OpensArea c (Err SyncFault) = Unit {0}
OpensArea c (Err (BadJournal place)) = ⊥
OpensArea c (Err (TooLong len)) = (max_area < length c) × (len ≡ length c)
OpensArea c (Err NoMemory) = Unit {0}

-- what an opening finds in the areas of two disks, or the first fault
abbrev pub OpensAreas : AreaState → AreaState → Result Loaded OpenFault → Type 0
OpensAreas a b (Ok found) = OneCounts a b × IsWhole a × IsWhole b × (found.on_spare ≡ is_passed a b) × (log : List Rec) × IsLogOf log (bodies_of a b) × IsReplayOf found.replay log × (bodies_of a b ≡ map spelling log) × (found.journal ≡ journal_of (if is_passed a b then b else a))
OpensAreas a b (Err ReadFault) = ⊥
OpensAreas a b (Err SyncFault) = ⊥
OpensAreas a b (Err (BadJournal place)) = (part : Part) × IsBadPair a b part place
OpensAreas a b (Err (TooLong len)) = ⊥
OpensAreas a b (Err NoMemory) = Unit {0}

-- the same of two disks, each of which may have no head
abbrev pub OpensBoth : Option AreaState → Option AreaState → Result Loaded OpenFault → Type 0
OpensBoth None spare result = result ≡ Err (BadJournal 0)
OpensBoth (Some a) None result = result ≡ Err (BadJournal 0)
OpensBoth (Some a) (Some b) result = OpensAreas a b result

-- Two disks were loaded: what was replayed is held of a log, behind which the journal ends. Where they tell what they hold,
-- it is the one for which they stood, and they serve it now.
pub record AreLoaded {D : Type 0} (tells : Type 0) (seen : D → List ℕ) (images : D → List ℕ → Type 0) (main spare main' spare' : D) (found : Loaded) : Type 0 where
  pub log : List Rec
  pub legal : IsLegal log
  pub replayed : IsReplayOf found.replay log
  pub end : found.journal.end ≡ end_after 17 log
  pub stood : tells → StandIn log (seen main) (seen spare)
  pub stands : tells → EachStandsFor images main' spare' (log ∷ [])
  pub among : tells → (logs : List (List Rec)) → EachStandsFor images main spare logs → IsOneOf log logs
  pub untorn : tells → IsUntorn seen images true main main' × IsUntorn seen images false spare spare'
  pub served : tells → IsServed images main' spare' found.on_spare found.journal

-- a disk has taken the calls of an opening, and at a fault a front of them
abbrev pub DoesArea : {D T : Type 0} → (D → List ℕ) → (D → Bool) → (D → List Op) → Bool → D → D → Result T OpenFault → Type 0
DoesArea seen unsynced done counts old new (Ok value) = AddsAll seen unsynced done counts old new
DoesArea seen unsynced done counts old new (Err fault) = AddsFront seen unsynced done counts old new

-- a fault of one disk comes only where its count went up by one, and every other answer leaves it
abbrev pub AreaCauses : {T : Type 0} → ℕ → ℕ → Result T OpenFault → Type 0
AreaCauses before now (Ok value) = now ≡ before
AreaCauses before now (Err ReadFault) = RoseByOne before now
AreaCauses before now (Err SyncFault) = RoseByOne before now
AreaCauses before now (Err (BadJournal place)) = now ≡ before
AreaCauses before now (Err (TooLong len)) = now ≡ before
AreaCauses before now (Err NoMemory) = now ≡ before

-- how many calls of the disks failed, after an opening that failed by this
abbrev pub tallied : ℕ → OpenFault → ℕ
tallied faults ReadFault = min (faults + 1) (2 ^ 64 - 1)
tallied faults SyncFault = min (faults + 1) (2 ^ 64 - 1)
tallied faults (BadJournal place) = faults
tallied faults (TooLong len) = faults
tallied faults NoMemory = faults
