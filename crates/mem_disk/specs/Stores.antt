-- A store of files in memory: what it keeps, and what it tells.
use Rattle.std.specs.Prelude.{◌≡◌, ℕ, zero, suc, ◌^◌, ◌<◌, Bool, true, false, ◌||◌, ◌==◌, List, [], ◌∷◌, ◌++◌, map, length, bytes_eq, if◌then◌else◌, nat_lt, Option, Some, None, is_none, is_some, option_map, unwrap_or, Result, Ok, Err}
use Rattle.leaf_edges.specs.declared.fault.EdgeError.{EdgeError}
use Rattle.leaf_edges.specs.declared.fault.EdgeError.TheVariants.{Failed, NoMemory}
use Rattle.leaf_edges.specs.Memory.{risen, is_failing}
use Rattle.leaf_edges.specs.Files.{max_text}
use Rattle.mem_disk.specs.MemDisks.{DiskState, fresh_disk}

-- a name with its disk, which is away where it is out
pub record Slot : Type 0 where
  pub name : List ℕ
  pub disk : Option DiskState

-- a name with the bytes of its text
pub record Text : Type 0 where
  pub name : List ℕ
  pub bytes : List ℕ

-- the names with their disks, the texts, the names handed out, the numbers of the calls that fail, and the counts
pub record Store : Type 0 where
  pub slots : List Slot
  pub texts : List Text
  pub handed : List (List ℕ)
  pub failing : List ℕ
  pub calls : ℕ
  pub fault_count : ℕ
  pub disk_fault_count : ℕ

-- the disk in its place in the first slot of the name
abbrev pub disk_in : List Slot → List ℕ → Option DiskState
disk_in [] name = None
disk_in (slot ∷ slots) name = if bytes_eq slot.name name then slot.disk else disk_in slots name

-- whether that slot's disk is out
abbrev pub is_out_in : List Slot → List ℕ → Bool
is_out_in [] name = false
is_out_in (slot ∷ slots) name = if bytes_eq slot.name name then is_none slot.disk else is_out_in slots name

-- the bytes of the first text of the name
abbrev pub text_in : List Text → List ℕ → Option (List ℕ)
text_in [] name = None
text_in (text ∷ texts) name = if bytes_eq text.name name then Some text.bytes else text_in texts name

-- some slot has the name
abbrev pub has_name : List Slot → List ℕ → Bool
has_name [] name = false
has_name (slot ∷ slots) name = bytes_eq slot.name name || has_name slots name

-- the names of the slots
abbrev pub names_of : List Slot → List (List ℕ)
names_of slots = map (λ (slot : Slot). slot.name) slots

-- the first slot of the name is the one at this place
abbrev pub IsFirstOf : List Slot → List ℕ → ℕ → Type 0
IsFirstOf [] name at = ⊥
IsFirstOf (slot ∷ slots) name zero = bytes_eq slot.name name ≡ true
IsFirstOf (slot ∷ slots) name (suc at) = (bytes_eq slot.name name ≡ false) × IsFirstOf slots name at

-- the disk at a place
abbrev pub disk_at : List Slot → ℕ → Option DiskState
disk_at [] at = None
disk_at (slot ∷ slots) zero = slot.disk
disk_at (slot ∷ slots) (suc at) = disk_at slots at

-- the slots with this disk, or none, in place of the one at a place
abbrev pub with_disk : List Slot → ℕ → Option DiskState → List Slot
with_disk [] at disk = []
with_disk (slot ∷ slots) zero disk = record slot { disk = disk } ∷ slots
with_disk (slot ∷ slots) (suc at) disk = slot ∷ with_disk slots at disk

-- the slots with this disk, or none, in the first slot of a name
abbrev pub with_disk_of : List Slot → List ℕ → Option DiskState → List Slot
with_disk_of [] name disk = []
with_disk_of (slot ∷ slots) name disk = if bytes_eq slot.name name then record slot { disk = disk } ∷ slots else slot ∷ with_disk_of slots name disk

-- a disk as it is handed out
abbrev pub forgiven : DiskState → DiskState
forgiven disk = record disk { fault_count = 0 }

-- what the trait asks of it

-- it tells all
abbrev pub store_tells : Type 0
store_tells = Unit {0}

-- the disk in its place under a name
abbrev pub store_place : Store → List ℕ → Option DiskState
store_place s name = disk_in s.slots name

-- whether the disk of a name is out
abbrev pub store_is_out : Store → List ℕ → Bool
store_is_out s name = is_out_in s.slots name

-- the names whose disks were handed out
abbrev pub store_handed : Store → List (List ℕ)
store_handed s = s.handed

-- the bytes of the text under a name
abbrev pub store_text : Store → List ℕ → Option (List ℕ)
store_text s name = text_in s.texts name

-- how many of its calls failed
abbrev pub store_faults : Store → ℕ
store_faults s = s.fault_count

-- how many disks came back with a fault
abbrev pub store_disk_faults : Store → ℕ
store_disk_faults s = s.disk_fault_count

-- a text that is there is too long
abbrev pub is_too_long : Option (List ℕ) → Bool
is_too_long None = false
is_too_long (Some bytes) = nat_lt max_text (length bytes)

-- what a call answers, and what it leaves

-- one call more
abbrev pub store_counted : Store → Store
store_counted s = record s { calls = risen s.calls }

-- one call more, which failed
abbrev pub store_failed : Store → Store
store_failed s = record (store_counted s) { fault_count = risen s.fault_count }

-- the disk of a name went out
abbrev pub lent : Store → List ℕ → Store
lent s name = record (store_counted s) { slots = with_disk_of s.slots name None; handed = s.handed ++ name ∷ [] }

-- a new disk went out under a new name
abbrev pub made : Store → List ℕ → Store
made s name = record (store_counted s) { slots = s.slots ++ record { name = name; disk = None } ∷ []; handed = s.handed ++ name ∷ [] }

-- the disk is in its place again, and one that had a fault is counted
abbrev pub returned : Store → List ℕ → DiskState → Store
returned s name disk = record s {
  slots = with_disk_of s.slots name (Some disk);
  disk_fault_count = if disk.fault_count == 0 then s.disk_fault_count else risen s.disk_fault_count;
}

-- whether a call for a disk fails, which disk it hands out, and the store after it
pub record DiskAnswer : Type 0 where
  pub fails : Bool
  pub disk : Option DiskState
  pub left : Store

-- it fails where its number is listed, and makes a disk where the name has none and that is asked
abbrev pub disk_answer : Store → List ℕ → Bool → DiskAnswer
disk_answer s name make =
    if is_failing s.failing s.calls then record { fails = true; disk = None; left = store_failed s }
    else if has_name s.slots name then record { fails = false; disk = option_map forgiven (disk_in s.slots name); left = lent s name }
    else if make then record { fails = false; disk = Some (fresh_disk [] []); left = made s name }
    else record { fails = false; disk = None; left = store_counted s }

-- the call gives this answer, or there was no memory and nothing changed
abbrev pub AnswersDisk : DiskAnswer → Store → Store → Result (Option DiskState) EdgeError → Type 0
AnswersDisk answer old new (Ok disk) = (answer.fails ≡ false) × (disk ≡ answer.disk) × (new ≡ answer.left)
AnswersDisk answer old new (Err Failed) = (answer.fails ≡ true) × (new ≡ answer.left)
AnswersDisk answer old new (Err NoMemory) = new ≡ old

-- whether a call for a text fails, whether there is one, the bytes that it adds, and the store after it
pub record TextAnswer : Type 0 where
  pub fails : Bool
  pub found : Bool
  pub added : List ℕ
  pub left : Store

-- it fails where its number is listed or the text is too long
abbrev pub text_answer : Store → List ℕ → TextAnswer
text_answer s name =
    if is_failing s.failing s.calls || is_too_long (store_text s name) then record { fails = true; found = false; added = []; left = store_failed s }
    else record { fails = false; found = is_some (store_text s name); added = unwrap_or (store_text s name) []; left = store_counted s }

-- the call gives this answer, or there was no memory and nothing changed; an error adds nothing
abbrev pub AnswersText : TextAnswer → Store → Store → List ℕ → List ℕ → Result Bool EdgeError → Type 0
AnswersText answer old new before after (Ok found) = (answer.fails ≡ false) × (found ≡ answer.found) × (after ≡ before ++ answer.added) × (new ≡ answer.left)
AnswersText answer old new before after (Err Failed) = (answer.fails ≡ true) × (after ≡ before) × (new ≡ answer.left)
AnswersText answer old new before after (Err NoMemory) = (after ≡ before) × (new ≡ old)

-- what holds of every store in memory
pub record IsCounted (s : Store) : Type 0 where
  pub calls : s.calls < 2 ^ 64
  pub faults : s.fault_count < 2 ^ 64
  pub disk_faults : s.disk_fault_count < 2 ^ 64
