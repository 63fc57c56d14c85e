-- What the calls of a disk do, and what a crash may leave of them.
use Rattle.std.specs.Prelude.{◌≡◌, ◌⊎◌, ℕ, ◌+◌, ◌≤◌, min, max, Bool, cond, List, [], ◌∷◌, ◌++◌, length, take, drop, Option, Some, Result, Ok, Err}
use Rattle.leaf_edges.specs.declared.fault.EdgeError.{EdgeError}
use Rattle.leaf_edges.specs.declared.fault.EdgeError.TheVariants.{Failed, NoMemory}

-- a write of bytes at a place, a cut to a length, a sync
pub data Op : Type 0 where
  wrote : ℕ → List ℕ → Op
  cut_to : ℕ → Op
  synced : Op

-- the content with these bytes at this place
abbrev pub overwritten : List ℕ → ℕ → List ℕ → List ℕ
overwritten old place bytes = take place old ++ bytes ++ drop (place + length bytes) old

-- what a crash may make of a write of so many bytes: any bytes in its range and past the old end, the old ones elsewhere
pub record Torn (place count : ℕ) (old new : List ℕ) : Type 0 where
  pub before : take (min place (length old)) new ≡ take place old
  pub after : drop (place + count) new ≡ drop (place + count) old
  pub no_shorter : length old ≤ length new
  pub no_longer : length new ≤ max (length old) (place + count)

-- what a crash may make of a cut: some front of the old bytes that is no shorter than the cut
pub record Cut (len : ℕ) (old new : List ℕ) : Type 0 where
  pub no_shorter : min (length old) len ≤ length new
  pub front : take (length new) old ≡ new

-- each image now is what the step may make of an image from before
abbrev pub Follows : (List ℕ → List ℕ → Type 0) → (List ℕ → Type 0) → (List ℕ → Type 0) → Type 0
Follows step old new = (c : List ℕ) → new c → (d : List ℕ) × old d × step d c

-- a crash leaves this and nothing else
abbrev pub Only : List ℕ → (List ℕ → Type 0) → Type 0
Only content images = (c : List ℕ) → images c → c ≡ content

-- the disk reads and may be left as before the call, and noted nothing
pub record Unchanged {D : Type 0} (seen : D → List ℕ) (images : D → List ℕ → Type 0) (unsynced : D → Bool) (done : D → List Op) (failed : D → Option Op) (old new : D) : Type 0 where
  pub content : seen new ≡ seen old
  pub no_more : (c : List ℕ) → images new c → images old c
  pub no_fewer : (c : List ℕ) → images old c → images new c
  pub dirt : unsynced new ≡ unsynced old
  pub list : done new ≡ done old
  pub last : failed new ≡ failed old

-- time goes on: a crash since t may have left what it might have left before the call, or what it may leave now
pub record Elapses {D : Type 0} (moment : D → ℕ) (left_since : D → ℕ → List ℕ → Type 0) (images : D → List ℕ → Type 0) (old new : D) : Type 0 where
  pub later : moment old ≤ moment new
  pub nothing_else : (t : ℕ) (c : List ℕ) → t ≤ moment old → left_since new t c → left_since old t c ⊎ images new c
  pub keeps : (t : ℕ) (c : List ℕ) → t ≤ moment old → left_since old t c → left_since new t c

-- a crash at any moment since `old` leaves an image that has P
pub record LeavesOnly {D : Type 0} (moment : D → ℕ) (left_since : D → ℕ → List ℕ → Type 0) (old new : D) (P : List ℕ → Type 0) : Type 0 where
  pub later : moment old ≤ moment new
  pub each : (c : List ℕ) → left_since new (moment old) c → P c
  -- for a run that began earlier
  pub before : (t : ℕ) (c : List ℕ) → t ≤ moment old → left_since new t c → left_since old t c ⊎ P c

-- a write or a cut that was Ok joins the list, and one that failed is the last that failed
abbrev pub Notes : {D T : Type 0} → (D → List Op) → (D → Option Op) → D → D → Op → Result T EdgeError → Type 0
Notes done failed old new op (Ok value) = (done new ≡ done old ++ op ∷ []) × (failed new ≡ failed old)
Notes done failed old new op (Err Failed) = (done new ≡ done old) × (failed new ≡ Some op)
Notes done failed old new op (Err NoMemory) = (done new ≡ done old) × (failed new ≡ failed old)

-- the same for a sync, which joins the list only where something was unsynced
abbrev pub NotesSync : {D T : Type 0} → (D → List Op) → (D → Option Op) → (D → Bool) → D → D → Result T EdgeError → Type 0
NotesSync done failed unsynced old new (Ok value) = (done new ≡ cond (unsynced old) (done old ++ synced ∷ []) (done old)) × (failed new ≡ failed old)
NotesSync done failed unsynced old new (Err error) = (done new ≡ done old) × (failed new ≡ Some synced)
