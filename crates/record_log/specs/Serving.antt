-- What holds of the disks of a log of records, within the crate.
use Rattle.std.specs.Prelude.{◌≡◌, ℕ, ◌≤◌, ◌<◌, Bool, true, false, List, length, Option, None, Some}
use Rattle.gate_journal.specs.Areas.{AreaState, Holds}
use Rattle.gate_journal.specs.Journals.{JournalState, Stands}
use Rattle.record_log.specs.LogStates.{in_use}

-- an area that counts is not taken before one of this generation, which is on the main disk, or on the spare
abbrev pub IsBehind : Bool → ℕ → AreaState → Type 0
IsBehind false generation area = area.counts ≡ true → area.generation ≤ generation
IsBehind true generation area = area.counts ≡ true → area.generation < generation

-- whatever a crash leaves of the disk holds an area that isn't taken
abbrev pub IsPassedOver : {D : Type 0} → (D → List ℕ → Type 0) → Bool → ℕ → D → Type 0
IsPassedOver images on_spare generation disk = (c : List ℕ) → images disk c → (area : AreaState) × Holds area c × IsBehind on_spare generation area

-- whatever a crash leaves of the disk has the bytes of a head and a gate
abbrev pub IsFormatted : {D : Type 0} → (D → List ℕ → Type 0) → D → Type 0
IsFormatted images disk = (c : List ℕ) → images disk c → 18 ≤ length c

-- the journal stands on the disk that counts, and the other one isn't taken
pub record IsServed {D : Type 0} (images : D → List ℕ → Type 0) (main spare : D) (on_spare : Bool) (journal : JournalState) : Type 0 where
  pub bodies : List (List ℕ)
  pub stands : Stands images (in_use on_spare main spare) journal bodies
  pub other : IsPassedOver images on_spare journal.generation (in_use on_spare spare main)

-- an open log has a journal that stands, and both disks are formatted, where they tell what they hold
abbrev pub Serves : {D : Type 0} → Type 0 → (D → List ℕ → Type 0) → D → D → Bool → Option JournalState → Type 0
Serves tells images main spare on_spare None = tells → IsFormatted images main × IsFormatted images spare
Serves tells images main spare on_spare (Some journal) = tells → IsServed images main spare on_spare journal

-- the place where an open log's journal ends, else 0
abbrev pub end_in : Option JournalState → ℕ
end_in None = 0
end_in (Some journal) = journal.end
