-- What the calls of a journal answer, and what they do to a disk.
use Rattle.std.specs.Prelude.{◌≡◌, ◌≢◌, ◌⊎◌, ℕ, ◌+◌, ◌≤◌, ◌<◌, Bool, true, false, cond, List, [], ◌∷◌, ◌++◌, length, take, Option, Some, None, Result, Ok, Err}
use Rattle.std.specs.Int.{w32, to_le_bytes}
use Rattle.leaf_edges.specs.Causes.{RoseByOne}
use Rattle.leaf_edges.specs.Disks.{Op, Torn, wrote, synced}
use Rattle.gate_journal.specs.Areas.{head, max_area, end_of, AreaState, IsArea, IsBroken, IsHeadless, Holds}
use Rattle.gate_journal.specs.declared.area.Ending.TheVariants.{Closed}
use Rattle.gate_journal.specs.declared.fault.LoadFault.{LoadFault}
use Rattle.gate_journal.specs.declared.fault.LoadFault.TheVariants.{ReadFault, SyncFault, BadJournal, TooLong, NoMemory}
use Rattle.gate_journal.specs.declared.fault.AppendFault.{AppendFault}
use Rattle.gate_journal.specs.declared.fault.AppendFault.TheVariants.{DiskFault, NoMemory as OutOfMemory}

-- a journal: whether its area counts, its generation, and the place of the closed gate behind its bodies
pub record JournalState : Type 0 where
  pub counts : Bool
  pub generation : ℕ
  pub end : ℕ

-- in every image of the disk the journal's area counts, with its generation, these bodies and the closed gate at its end,
-- and has no more bytes than an area may have
pub record Stands {D : Type 0} (images : D → List ℕ → Type 0) (disk : D) (journal : JournalState) (bodies : List (List ℕ)) : Type 0 where
  pub counted : journal.counts ≡ true
  pub place : journal.end ≡ end_of bodies
  pub each : (c : List ℕ) → images disk c → IsArea true journal.generation bodies c
  pub short : (c : List ℕ) → images disk c → length c ≤ max_area

-- the area with these bodies, or with one more at the end, and no more bytes than an area may have
abbrev pub IsBeforeOrAfter : ℕ → List (List ℕ) → List ℕ → List ℕ → Type 0
IsBeforeOrAfter generation bodies body c = (length c ≤ max_area) × (IsArea true generation bodies c ⊎ IsArea true generation (bodies ++ body ∷ []) c)

-- an image from before, or one that a torn write made of it
abbrev pub MayTear : (List ℕ → Type 0) → ℕ → ℕ → List ℕ → Type 0
MayTear images place count c = images c ⊎ ((d : List ℕ) × images d × Torn place count d c)

-- the journal with one more body
abbrev pub with_body : JournalState → List ℕ → JournalState
with_body journal body = record journal { end = journal.end + 5 + length body }

-- the bytes of a record behind its gate, and the closed gate after it
abbrev pub staged : List ℕ → List ℕ
staged body = to_le_bytes w32 (length body) ++ body ++ 0 ∷ []

-- the calls of an append at a closed gate: what stands behind the gate, a sync, the gate, a sync
abbrev pub append_calls : ℕ → List ℕ → List Op
append_calls gate body = wrote (gate + 1) (staged body) ∷ synced ∷ wrote gate (1 ∷ []) ∷ synced ∷ []

-- the 18 bytes of a new area
abbrev pub new_area : Bool → List ℕ
new_area true = head 1 1 ++ 0 ∷ []
new_area false = head 0 0 ++ 0 ∷ []

-- the journal of a new area that counts
abbrev pub new_journal : JournalState
new_journal = record { counts = true; generation = 1; end = 17 }

-- the calls before one of these were added, and that one is the last that failed
pub record FailsWithin (old new : List Op) (failed : Option Op) (calls : List Op) : Type 0 where
  pub before : List Op
  pub call : Op
  pub after : List Op
  pub are : calls ≡ before ++ call ∷ after
  pub added : new ≡ old ++ before
  pub last : failed ≡ Some call

-- An Ok adds these calls to those that the disk has done, a fault those before the call that failed, and want of memory none or the first two.
abbrev pub Does : {D T : Type 0} → (D → List Op) → (D → Option Op) → D → D → List Op → Result T AppendFault → Type 0
Does done failed old new calls (Ok value) = (done new ≡ done old ++ calls) × (failed new ≡ failed old)
Does done failed old new calls (Err DiskFault) = FailsWithin (done old) (done new) (failed new) calls
Does done failed old new calls (Err OutOfMemory) = ((done new ≡ done old) ⊎ (done new ≡ done old ++ take 2 calls)) × (failed new ≡ failed old)

-- a load adds a sync where something was unsynced, and nothing else
abbrev pub Syncs : {D T : Type 0} → (D → List Op) → (D → Option Op) → (D → Bool) → D → D → Result T LoadFault → Type 0
Syncs done failed unsynced old new result = SyncsOr (SyncsOnce done failed unsynced old new) ((done new ≡ done old) × (failed new ≡ Some synced)) result
  where
    SyncsOnce : {D : Type 0} → (D → List Op) → (D → Option Op) → (D → Bool) → D → D → Type 0
    SyncsOnce done failed unsynced old new = (done new ≡ cond (unsynced old) (done old ++ synced ∷ []) (done old)) × (failed new ≡ failed old)

    SyncsOr : {T : Type 0} → Type 0 → Type 0 → Result T LoadFault → Type 0
    SyncsOr once fails (Ok value) = once
    SyncsOr once fails (Err ReadFault) = once
    SyncsOr once fails (Err SyncFault) = fails
    SyncsOr once fails (Err (BadJournal place)) = once
    SyncsOr once fails (Err (TooLong len)) = once
    SyncsOr once fails (Err NoMemory) = once

-- what a load answers of these bytes: an area's journal and bodies, where it breaks, or the length where there are too many
abbrev pub Reads : List ℕ → Result (JournalState × List (List ℕ)) LoadFault → Type 0
Reads c (Ok loaded) = (length c ≤ max_area) × IsArea loaded.0.counts loaded.0.generation loaded.1 c × (loaded.0.end ≡ end_of loaded.1)
Reads c (Err ReadFault) = Unit {0}
Reads c (Err SyncFault) = Unit {0}
Reads c (Err (BadJournal place)) = (length c ≤ max_area) × IsBroken place c
Reads c (Err (TooLong len)) = (max_area < length c) × (len ≡ length c)
Reads c (Err NoMemory) = Unit {0}

-- what an area's reading answers of these bytes: what they hold, that they have no head, or the length where there are too many
abbrev pub ReadsArea : List ℕ → Result (Option AreaState) LoadFault → Type 0
ReadsArea c (Ok (Some area)) = (length c ≤ max_area) × Holds area c
ReadsArea c (Ok None) = (length c ≤ max_area) × IsHeadless c
ReadsArea c (Err ReadFault) = Unit {0}
ReadsArea c (Err SyncFault) = Unit {0}
ReadsArea c (Err (BadJournal place)) = ⊥
ReadsArea c (Err (TooLong len)) = (max_area < length c) × (len ≡ length c)
ReadsArea c (Err NoMemory) = Unit {0}

-- the journal of an area whose records end at a closed gate
abbrev pub journal_of : AreaState → JournalState
journal_of area = record { counts = area.counts; generation = area.generation; end = end_of area.bodies }

-- the journal and the bodies of an area whose records end at a closed gate, else where they end
abbrev pub OfArea : AreaState → Result (JournalState × List (List ℕ)) LoadFault → Type 0
OfArea area (Ok loaded) = (area.ending ≡ Closed) × (loaded.0 ≡ journal_of area) × (loaded.1 ≡ area.bodies)
OfArea area (Err fault) = (area.ending ≢ Closed) × (fault ≡ BadJournal (end_of area.bodies))

-- a fault of a load comes only where the disk's count went up by one, and every other answer leaves the count
abbrev pub LoadCauses : {T : Type 0} → ℕ → ℕ → Result T LoadFault → Type 0
LoadCauses before now (Ok value) = now ≡ before
LoadCauses before now (Err ReadFault) = RoseByOne before now
LoadCauses before now (Err SyncFault) = RoseByOne before now
LoadCauses before now (Err (BadJournal place)) = now ≡ before
LoadCauses before now (Err (TooLong len)) = now ≡ before
LoadCauses before now (Err NoMemory) = now ≡ before

-- the same where nothing is synced
abbrev pub LookCauses : {T : Type 0} → ℕ → ℕ → Result T LoadFault → Type 0
LookCauses before now (Ok value) = now ≡ before
LookCauses before now (Err ReadFault) = RoseByOne before now
LookCauses before now (Err SyncFault) = ⊥
LookCauses before now (Err (BadJournal place)) = now ≡ before
LookCauses before now (Err (TooLong len)) = now ≡ before
LookCauses before now (Err NoMemory) = now ≡ before

-- the same of a write
abbrev pub WriteFaults : {T : Type 0} → ℕ → ℕ → Result T AppendFault → Type 0
WriteFaults before now (Ok value) = now ≡ before
WriteFaults before now (Err DiskFault) = RoseByOne before now
WriteFaults before now (Err OutOfMemory) = now ≡ before
