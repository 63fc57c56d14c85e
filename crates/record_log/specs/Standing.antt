-- For which logs two disks stand, and for which they stand at each moment of a run.
use Rattle.std.specs.Prelude.{◌≡◌, ◌≢◌, ◌⊎◌, ℕ, Bool, true, false, List, [], ◌∷◌, Some}
use Rattle.leaf_edges.specs.Disks.{Torn}
use Rattle.gate_journal.specs.Journals.{new_area}
use Rattle.record_codec.specs.declared.records.Rec.{Rec}
use Rattle.record_log.specs.Stores.{StoreHolds, AreShort}

-- a disk as it is read: an empty one is formatted first
abbrev pub as_loaded : Bool → List ℕ → List ℕ
as_loaded counts [] = new_area counts
as_loaded counts (x ∷ c) = x ∷ c

-- two disks with these bytes stand for the log: whoever reads them finds it
pub record StandIn (log : List Rec) (a b : List ℕ) : Type 0 where
  pub short : AreShort (as_loaded true a) (Some (as_loaded false b))
  pub holds : StoreHolds log (as_loaded true a) (Some (as_loaded false b))

-- two disks with these bytes stand for one of the logs
abbrev pub StandFor : List ℕ → List ℕ → List (List Rec) → Type 0
StandFor a b [] = ⊥
StandFor a b (log ∷ logs) = StandIn log a b ⊎ StandFor a b logs

-- whatever a crash leaves now of the two disks stands for one of the logs
abbrev pub EachStandsFor : {D : Type 0} → (D → List ℕ → Type 0) → D → D → List (List Rec) → Type 0
EachStandsFor images main spare logs = (a b : List ℕ) → images main a → images spare b → StandFor a b logs

-- whatever a crash left at any moments since these two of the disks stands for one of the logs
abbrev pub SinceStandFor : {D : Type 0} → (D → ℕ → List ℕ → Type 0) → ℕ → ℕ → D → D → List (List Rec) → Type 0
SinceStandFor left_since t u main spare logs = (a b : List ℕ) → left_since main t a → left_since spare u b → StandFor a b logs

-- a disk was empty, and the write of its 18 bytes was torn: a part of the new area, or other bytes in its place, which isn't
-- read as a new area
abbrev pub IsTornFormat : {D : Type 0} → (D → List ℕ) → (D → List ℕ → Type 0) → Bool → D → List ℕ → Type 0
IsTornFormat seen images counts disk c = (seen disk ≡ []) × (as_loaded counts c ≢ new_area counts) × (d : List ℕ) × images disk d × Torn 0 18 d c

-- nothing that a crash leaves now of a disk is such a torn write
abbrev pub IsUntorn : {D : Type 0} → (D → List ℕ) → (D → List ℕ → Type 0) → Bool → D → D → Type 0
IsUntorn seen images counts old new = (c : List ℕ) → images new c → IsTornFormat seen images counts old c → ⊥

-- whatever a crash left at any moments since these two stands for one of the logs, or one of it is a torn write on an empty disk
abbrev pub SinceStandOrTorn : {D : Type 0} → (D → List ℕ) → (D → List ℕ → Type 0) → (D → ℕ → List ℕ → Type 0) → ℕ → ℕ → D → D → List (List Rec) → D → D → Type 0
SinceStandOrTorn seen images left_since t u main spare logs main' spare' = (a b : List ℕ) → left_since main' t a → left_since spare' u b
    → StandFor a b logs ⊎ (IsTornFormat seen images true main a ⊎ IsTornFormat seen images false spare b)

-- it is one of the logs
abbrev pub IsOneOf : List Rec → List (List Rec) → Type 0
IsOneOf log [] = ⊥
IsOneOf log (other ∷ logs) = (log ≡ other) ⊎ IsOneOf log logs
