-- What the opening of a log of records answers, and what it does to the two disks.
use Rattle.std.specs.Prelude.{◌≡◌, ◌⊎◌, ℕ, Bool, true, false, cond, List, [], ◌∷◌, ◌++◌, Some, Result, Ok, Err, ⊤}
use Rattle.leaf_edges.specs.Causes.{RoseByOne}
use Rattle.leaf_edges.specs.Disks.{Op, wrote, synced}
use Rattle.gate_journal.specs.Journals.{new_area}
use Rattle.record_codec.specs.declared.records.Rec.{Rec}
use Rattle.shard_machine.specs.Legal.{IsLegal}
use Rattle.shard_machine.specs.Steps.{end_after}
use Rattle.log_replay.specs.declared.replay.Replay.{Replay}
use Rattle.log_replay.specs.Replays.{IsReplayOf}
use Rattle.record_log.specs.declared.fault.OpenFault.{OpenFault}
use Rattle.record_log.specs.declared.fault.OpenFault.TheVariants.{ReadFault, SyncFault, BadJournal, TooLong, NoMemory}
use Rattle.record_log.specs.declared.fault.Part.{Part}
use Rattle.record_log.specs.Stores.{AreShort, IsBadStore, IsTooLong}
use Rattle.record_log.specs.Standing.{as_loaded, StandIn, EachStandsFor, IsOneOf, IsUntorn}
use Rattle.record_log.specs.LogStates.{LogState}

-- the first fault of what two disks hold once each empty one is formatted; that a disk is too long comes before all else
abbrev pub FailsBy : List ℕ → List ℕ → OpenFault → Type 0
FailsBy a b ReadFault = Unit {0}
FailsBy a b SyncFault = Unit {0}
FailsBy a b (BadJournal place) = AreShort (as_loaded true a) (Some (as_loaded false b)) × (part : Part) × IsBadStore (as_loaded true a) (Some (as_loaded false b)) part place
FailsBy a b (TooLong len) = (part : Part) × IsTooLong (as_loaded true a) (Some (as_loaded false b)) part len
FailsBy a b NoMemory = Unit {0}

-- a disk failed, or there was no memory; nothing is wrong with what the disks hold
abbrev pub IsOfCalls : OpenFault → Type 0
IsOfCalls ReadFault = ⊤
IsOfCalls SyncFault = ⊤
IsOfCalls (BadJournal place) = ⊥
IsOfCalls (TooLong len) = ⊥
IsOfCalls NoMemory = ⊤

-- A log was opened: what was replayed is held of it, and the journal ends behind it. Where the disks tell what they hold,
-- it is the one for which they stood, and whatever a crash leaves of them now stands for it.
pub record Opened {D : Type 0} (tells : Type 0) (seen : D → List ℕ) (images : D → List ℕ → Type 0) (main spare : D) (replay : Replay) (l : LogState D) : Type 0 where
  pub log : List Rec
  pub legal : IsLegal log
  pub replayed : IsReplayOf replay log
  pub is_open : l.is_open ≡ true
  pub end : l.end ≡ end_after 17 log
  pub stood : tells → StandIn log (seen main) (seen spare)
  pub stands : tells → EachStandsFor images l.main l.spare (log ∷ [])
  -- for whatever logs the disks stood, it is one of them
  pub among : tells → (logs : List (List Rec)) → EachStandsFor images main spare logs → IsOneOf log logs
  -- an empty disk was formatted whole
  pub untorn : tells → IsUntorn seen images true main l.main × IsUntorn seen images false spare l.spare

-- an opening that gives the disks back, without them
abbrev pub fault_alone : {L D : Type 0} → Result L (OpenFault × D × D) → Result L OpenFault
fault_alone (Ok opened) = Ok opened
fault_alone (Err failed) = Err failed.0

-- the two disks after an opening have this, whatever it answered
abbrev pub OnBoth : {D T : Type 0} → (D → D → Type 0) → Result (LogState D × T) (OpenFault × D × D) → Type 0
OnBoth P (Ok opened) = P opened.0.main opened.0.spare
OnBoth P (Err failed) = P failed.1 failed.2

-- the count of one disk went up by one, and that of the other stayed
abbrev pub OneRose : {D : Type 0} → (D → ℕ) → D → D → D → D → Type 0
OneRose faults main spare main' spare' = (RoseByOne (faults main) (faults main') × (faults spare' ≡ faults spare))
    ⊎ ((faults main' ≡ faults main) × RoseByOne (faults spare) (faults spare'))

-- the counts of both disks stayed
abbrev pub NoneRose : {D : Type 0} → (D → ℕ) → D → D → D → D → Type 0
NoneRose faults main spare main' spare' = (faults main' ≡ faults main) × (faults spare' ≡ faults spare)

-- a fault of a disk comes only where the count of one disk went up by one, and every other answer leaves both
abbrev pub OpenCauses : {D T : Type 0} → (D → ℕ) → D → D → D → D → Result T OpenFault → Type 0
OpenCauses faults main spare main' spare' (Ok value) = NoneRose faults main spare main' spare'
OpenCauses faults main spare main' spare' (Err ReadFault) = OneRose faults main spare main' spare'
OpenCauses faults main spare main' spare' (Err SyncFault) = OneRose faults main spare main' spare'
OpenCauses faults main spare main' spare' (Err (BadJournal place)) = NoneRose faults main spare main' spare'
OpenCauses faults main spare main' spare' (Err (TooLong len)) = NoneRose faults main spare main' spare'
OpenCauses faults main spare main' spare' (Err NoMemory) = NoneRose faults main spare main' spare'

-- what a log counts of the faults of an opening: one of a disk
abbrev pub Tallies : {T : Type 0} → ℕ → ℕ → Result T OpenFault → Type 0
Tallies before now (Ok value) = now ≡ before
Tallies before now (Err ReadFault) = RoseByOne before now
Tallies before now (Err SyncFault) = RoseByOne before now
Tallies before now (Err (BadJournal place)) = now ≡ before
Tallies before now (Err (TooLong len)) = now ≡ before
Tallies before now (Err NoMemory) = now ≡ before

-- the calls of an opening on a disk: an empty one is formatted, and any other synced where something is unsynced
abbrev pub open_calls : Bool → List ℕ → Bool → List Op
open_calls counts [] unsynced = wrote 0 (new_area counts) ∷ synced ∷ []
open_calls counts (x ∷ c) unsynced = cond unsynced (synced ∷ []) []

-- these calls were added
abbrev pub AddsAll : {D : Type 0} → (D → List ℕ) → (D → Bool) → (D → List Op) → Bool → D → D → Type 0
AddsAll seen unsynced done counts old new = done new ≡ done old ++ open_calls counts (seen old) (unsynced old)

-- some front of these calls was added
abbrev pub AddsFront : {D : Type 0} → (D → List ℕ) → (D → Bool) → (D → List Op) → Bool → D → D → Type 0
AddsFront seen unsynced done counts old new = (front rest : List Op) × (open_calls counts (seen old) (unsynced old) ≡ front ++ rest) × (done new ≡ done old ++ front)

-- at Ok both disks have taken the calls of an opening, and at a fault a front of them
abbrev pub OpenDoes : {D T : Type 0} → (D → List ℕ) → (D → Bool) → (D → List Op) → D → D → D → D → Result T OpenFault → Type 0
OpenDoes seen unsynced done main spare main' spare' (Ok value) = AddsAll seen unsynced done true main main' × AddsAll seen unsynced done false spare spare'
OpenDoes seen unsynced done main spare main' spare' (Err fault) = AddsFront seen unsynced done true main main' × AddsFront seen unsynced done false spare spare'
