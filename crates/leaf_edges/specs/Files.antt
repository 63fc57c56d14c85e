-- What the calls of a store of files do.
use Rattle.std.specs.Prelude.{◌≡◌, ◌≢◌, ℕ, ◌+◌, ◌-◌, ◌^◌, ◌≤◌, min, Bool, true, false, ◌==◌, List, [], ◌∷◌, ◌++◌, length, Option, Some, None, Result, Ok, Err, MatchBool, MatchOption}
use Rattle.leaf_edges.specs.declared.fault.EdgeError.{EdgeError}
use Rattle.leaf_edges.specs.Disks.{Op, Only}

-- two disks tell the same
pub record TellsAs {D : Type 0} (seen : D → List ℕ) (images : D → List ℕ → Type 0) (moment : D → ℕ) (left_since : D → ℕ → List ℕ → Type 0) (unsynced : D → Bool) (done : D → List Op) (failed : D → Option Op) (one other : D) : Type 0 where
  pub content : seen other ≡ seen one
  pub no_more : (c : List ℕ) → images other c → images one c
  pub no_fewer : (c : List ℕ) → images one c → images other c
  pub time : moment other ≡ moment one
  pub no_more_since : (t : ℕ) (c : List ℕ) → left_since other t c → left_since one t c
  pub no_fewer_since : (t : ℕ) (c : List ℕ) → left_since one t c → left_since other t c
  pub dirt : unsynced other ≡ unsynced one
  pub list : done other ≡ done one
  pub last : failed other ≡ failed one

-- an empty disk on which nothing was done
pub record IsEmptyDisk {D : Type 0} (seen : D → List ℕ) (images : D → List ℕ → Type 0) (unsynced : D → Bool) (done : D → List Op) (failed : D → Option Op) (disk : D) : Type 0 where
  pub content : seen disk ≡ []
  pub only : Only [] (images disk)
  pub dirt : unsynced disk ≡ false
  pub list : done disk ≡ []
  pub last : failed disk ≡ None

-- nothing of the files changed but a count
pub record SameFiles {F D : Type 0} (place : F → List ℕ → Option D) (is_out : F → List ℕ → Bool) (handed : F → List (List ℕ)) (text_of : F → List ℕ → Option (List ℕ)) (old new : F) : Type 0 where
  pub places : (name : List ℕ) → place new name ≡ place old name
  pub outs : (name : List ℕ) → is_out new name ≡ is_out old name
  pub list : handed new ≡ handed old
  pub texts : (name : List ℕ) → text_of new name ≡ text_of old name

-- the disk of this name went out, and the name joined the list
pub record GoesOut {F D : Type 0} (place : F → List ℕ → Option D) (is_out : F → List ℕ → Bool) (handed : F → List (List ℕ)) (text_of : F → List ℕ → Option (List ℕ)) (name : List ℕ) (old new : F) : Type 0 where
  pub away : place new name ≡ None
  pub out : is_out new name ≡ true
  pub other_places : (other : List ℕ) → other ≢ name → place new other ≡ place old other
  pub other_outs : (other : List ℕ) → other ≢ name → is_out new other ≡ is_out old other
  pub list : handed new ≡ handed old ++ name ∷ []
  pub texts : (other : List ℕ) → text_of new other ≡ text_of old other

-- the disk is in its place again
pub record GoesBack {F D : Type 0} (place : F → List ℕ → Option D) (is_out : F → List ℕ → Bool) (handed : F → List (List ℕ)) (text_of : F → List ℕ → Option (List ℕ)) (name : List ℕ) (disk : D) (old new : F) : Type 0 where
  pub here : place new name ≡ Some disk
  pub in_place : is_out new name ≡ false
  pub other_places : (other : List ℕ) → other ≢ name → place new other ≡ place old other
  pub other_outs : (other : List ℕ) → other ≢ name → is_out new other ≡ is_out old other
  pub list : handed new ≡ handed old
  pub texts : (other : List ℕ) → text_of new other ≡ text_of old other

-- no disk comes exactly where the name isn't there and none is to be made
abbrev pub HandsOut : {D : Type 0} → (D → D → Type 0) → (D → Type 0) → Option D → Bool → Result (Option D) EdgeError → Type 0
HandsOut tells_as is_empty here make (Ok None) = (here ≡ None) × (make ≡ false)
HandsOut tells_as is_empty here make (Ok (Some disk)) = MatchOption here ((make ≡ true) × is_empty disk) (λ kept. tells_as kept disk)
HandsOut tells_as is_empty here make (Err error) = Unit {0}

-- a disk that came has this, and where none came that
abbrev pub IfHanded : {D : Type 0} → Result (Option D) EdgeError → (D → Type 0) → Type 0 → Type 0
IfHanded (Ok (Some disk)) handed stayed = handed disk
IfHanded (Ok None) handed stayed = stayed
IfHanded (Err error) handed stayed = stayed

-- the most bytes that a text may have
abbrev pub max_text : ℕ
max_text = 16777216

-- the text's bytes were added, `false` means that there is no such text, and an error adds nothing
abbrev pub AddsText : Type 0 → Option (List ℕ) → List ℕ → List ℕ → Result Bool EdgeError → Type 0
AddsText tells text old new (Ok true) = (bytes : List ℕ) × (new ≡ old ++ bytes) × (length bytes ≤ max_text) × (tells → text ≡ Some bytes)
AddsText tells text old new (Ok false) = (new ≡ old) × (tells → text ≡ None)
AddsText tells text old new (Err error) = new ≡ old

-- the count goes up by one, up to its type's end, exactly where the disk's own count isn't 0
abbrev pub CountsDisk : ℕ → ℕ → ℕ → Type 0
CountsDisk disk_faults old new = MatchBool (disk_faults == 0) (new ≡ old) (new ≡ min (old + 1) (2 ^ 64 - 1))

-- the two counts of a store
pub record FileCounts : Type 0 where
  pub faults : ℕ
  pub disk_faults : ℕ
