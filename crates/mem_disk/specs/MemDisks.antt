-- A disk in memory: what it keeps, what it tells, and what it answers.
use Rattle.std.specs.Prelude.{◌≡◌, ◌⊎◌, ℕ, ◌-◌, ◌^◌, ◌<◌, ◌≤◌, Bool, true, false, not, ◌||◌, ◌==◌, if◌then◌else◌, List, [], ◌∷◌, ◌++◌, length, take, Option, Some, None, is_some, unwrap_or, Result, Ok, Err}
use Rattle.leaf_edges.specs.declared.fault.EdgeError.{EdgeError}
use Rattle.leaf_edges.specs.declared.fault.EdgeError.TheVariants.{Failed, NoMemory}
use Rattle.mem_disk.specs.declared.fate.Fate.{Fate}
use Rattle.mem_disk.specs.declared.fate.Fate.TheVariants.{Lost}
use Rattle.leaf_edges.specs.Memory.{risen, is_failing}
use Rattle.leaf_edges.specs.Disks.{Op, wrote, cut_to, synced}
use Rattle.mem_disk.specs.Contents.{Content, settled, seen_in, after_calls, IsImage, picked}

-- the bytes at first, the calls that were Ok since, and the write at which it was stopped
pub record Past : Type 0 where
  pub first : List ℕ
  pub done : List Op
  pub tried : Option Op

-- a past, the call that failed last, whether it is stopped and with which fate, its fuse, the numbers of the calls that fail, and its counts
pub record DiskState : Type 0 where
  pub past : Past
  pub last_failed : Option Op
  pub stopped : Option Fate
  pub fuse : ℕ
  pub fuse_fate : Fate
  pub failing : List ℕ
  pub calls : ℕ
  pub fault_count : ℕ

-- nothing was done yet
abbrev pub fresh_past : List ℕ → Past
fresh_past bytes = record { first = bytes; done = []; tried = None }

-- what the calls made of the first bytes
abbrev pub content_of : Past → Content
content_of p = after_calls (settled p.first) p.done

-- with a write that was tried, of which a crash may leave any part
abbrev pub with_tried : Content → Option Op → Content
with_tried c None = c
with_tried c (Some op) = record { base = c.base; since = c.since ++ op ∷ [] }

-- what a crash has to do with
abbrev pub crash_content : Past → Content
crash_content p = with_tried (content_of p) p.tried

-- the content after so many of its calls
abbrev pub content_at : Past → ℕ → Content
content_at p k = after_calls (settled p.first) (take k p.done)

-- there is one
abbrev pub has_some : List Op → Bool
has_some [] = false
has_some (op ∷ ops) = true

-- what the trait asks of it

-- what a read gives
abbrev pub past_seen : Past → List ℕ
past_seen p = seen_in (content_of p)

-- an image that a crash may leave now
abbrev pub PastImages : Past → List ℕ → Type 0
PastImages p image = IsImage (crash_content p) image

-- the moment is the count of its calls
abbrev pub past_moment : Past → ℕ
past_moment p = length p.done

-- an image of now, or one of a moment before
abbrev pub PastLeftSince : Past → ℕ → List ℕ → Type 0
PastLeftSince p t image = PastImages p image ⊎ ((k : ℕ) × (t ≤ k) × (k < length p.done) × IsImage (content_at p k) image)

-- a call since the last sync, or a write that was tried
abbrev pub past_unsynced : Past → Bool
past_unsynced p = has_some (crash_content p).since

-- the same of the disk, which tells all

-- it tells all
abbrev pub disk_tells : Type 0
disk_tells = Unit {0}

-- what a read gives
abbrev pub disk_seen : DiskState → List ℕ
disk_seen d = past_seen d.past

-- the images that a crash may leave now
abbrev pub disk_images : DiskState → List ℕ → Type 0
disk_images d = PastImages d.past

-- the count of its calls that were Ok
abbrev pub disk_moment : DiskState → ℕ
disk_moment d = past_moment d.past

-- the images that a crash since a moment may have left
abbrev pub disk_left_since : DiskState → ℕ → List ℕ → Type 0
disk_left_since d = PastLeftSince d.past

-- whether anything is unsynced
abbrev pub disk_unsynced : DiskState → Bool
disk_unsynced d = past_unsynced d.past

-- its writes, cuts and syncs that were Ok
abbrev pub disk_done : DiskState → List Op
disk_done d = d.past.done

-- the one that failed last
abbrev pub disk_failed : DiskState → Option Op
disk_failed d = d.last_failed

-- how many of its calls failed
abbrev pub disk_faults : DiskState → ℕ
disk_faults d = d.fault_count

-- the most bytes that a disk in memory holds
abbrev pub max_disk : ℕ
max_disk = 2 ^ 39

-- what holds of every disk in memory
pub record IsSound (d : DiskState) : Type 0 where
  -- one that isn't stopped has no write that was tried
  pub idle : is_some d.stopped ≡ false → d.past.tried ≡ None
  pub range : d.fault_count < 2 ^ 64
  pub count : d.calls < 2 ^ 64
  -- it holds at most so many bytes, after a crash too
  pub short : (c : List ℕ) → disk_images d c → length c ≤ max_disk

-- what a call answers, and what it leaves

-- whether it fails, and the disk after it
pub record Answer : Type 0 where
  pub fails : Bool
  pub left : DiskState

-- it is stopped, or the call is one that is to fail
abbrev pub refuses : DiskState → Bool
refuses d = is_some d.stopped || is_failing d.failing d.calls

-- one call more
abbrev pub counted : DiskState → DiskState
counted d = record d { calls = risen d.calls }

-- one call more, which failed
abbrev pub faulted : DiskState → DiskState
faulted d = record (counted d) { fault_count = risen d.fault_count }

-- a write, cut or sync that failed
abbrev pub failed_at : Op → DiskState → DiskState
failed_at op d = record (faulted d) { last_failed = Some op }

-- the fuse stops it at this call
abbrev pub stopped_at : Op → Option Op → DiskState → DiskState
stopped_at op tried d = record (failed_at op d) { past = record d.past { tried = tried }; stopped = Some d.fuse_fate; fuse = 0 }

-- a write, cut or sync that was Ok
abbrev pub done_with : Op → DiskState → DiskState
done_with op d = record (counted d) { past = record d.past { done = d.past.done ++ op ∷ [] } }

-- the fuse counts a call
abbrev pub burnt : DiskState → DiskState
burnt d = record d { fuse = d.fuse - 1 }

-- a length or a read
abbrev pub look_answer : DiskState → Answer
look_answer d = if refuses d then record { fails = true; left = faulted d } else record { fails = false; left = counted d }

-- a write
abbrev pub write_answer : Op → DiskState → Answer
write_answer op d =
    if refuses d then record { fails = true; left = failed_at op d }
    else if d.fuse == 1 then record { fails = true; left = stopped_at op (Some op) d }
    else record { fails = false; left = burnt (done_with op d) }

-- a cut, which the fuse doesn't count
abbrev pub cut_answer : Op → DiskState → Answer
cut_answer op d = if refuses d then record { fails = true; left = failed_at op d } else record { fails = false; left = done_with op d }

-- a sync with nothing unsynced adds nothing, and the fuse doesn't count it
abbrev pub sync_answer : DiskState → Answer
sync_answer d =
    if refuses d then record { fails = true; left = failed_at synced d }
    else if not (past_unsynced d.past) then record { fails = false; left = counted d }
    else if d.fuse == 1 then record { fails = true; left = stopped_at synced None d }
    else record { fails = false; left = burnt (done_with synced d) }

-- the call gives this answer
abbrev pub Answers : {T : Type 0} → Answer → DiskState → Result T EdgeError → Type 0
Answers answer new (Ok value) = (answer.fails ≡ false) × (new ≡ answer.left)
Answers answer new (Err Failed) = (answer.fails ≡ true) × (new ≡ answer.left)
Answers answer new (Err NoMemory) = ⊥

-- the same, or there was no memory and nothing changed
abbrev pub AnswersOrNot : {T : Type 0} → Answer → DiskState → DiskState → Result T EdgeError → Type 0
AnswersOrNot answer old new (Ok value) = (answer.fails ≡ false) × (new ≡ answer.left)
AnswersOrNot answer old new (Err Failed) = (answer.fails ≡ true) × (new ≡ answer.left)
AnswersOrNot answer old new (Err NoMemory) = new ≡ old

-- the image that a stop leaves, and without a stop that of the last sync
abbrev pub crash_image : DiskState → List ℕ
crash_image d = picked (unwrap_or d.stopped Lost) (crash_content d.past)

-- that image is put in place, and its past begins anew
abbrev pub crashed : DiskState → DiskState
crashed d = record d { past = fresh_past (crash_image d); stopped = None }

-- a disk made with these bytes, whose calls with these numbers are to fail
abbrev pub fresh_disk : List ℕ → List ℕ → DiskState
fresh_disk bytes failing = record { past = fresh_past bytes; last_failed = None; stopped = None; fuse = 0; fuse_fate = Lost; failing = failing; calls = 0; fault_count = 0 }

-- a write or a cut
abbrev pub IsChange : Op → Type 0
IsChange (wrote place bytes) = Unit {0}
IsChange (cut_to len) = Unit {0}
IsChange synced = ⊥
