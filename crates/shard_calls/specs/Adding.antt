-- What adding a record leaves of a shard's log.
use Rattle.std.specs.Prelude.{◌≡◌, ◌⊎◌, ℕ, ◌+◌, ◌^◌, Bool, true, false, ◌&&◌, nat_le, List, [], ◌∷◌, ◌++◌, Result, Ok, Err}
use Rattle.leaf_edges.specs.Causes.{RoseByOne}
use Rattle.leaf_edges.specs.Disks.{Op}
use Rattle.gate_journal.specs.Journals.{append_calls}
use Rattle.record_codec.specs.Spelling.{spelling}
use Rattle.record_codec.specs.declared.records.Rec.{Rec}
use Rattle.record_log.specs.Appending.{IsOpenAt, IsShut}
use Rattle.record_log.specs.LogStates.{LogState, counted}
use Rattle.shard_machine.specs.Steps.{taken, needed}
use Rattle.shard_calls.specs.declared.adding.AddFault.{AddFault}
use Rattle.shard_calls.specs.declared.adding.AddFault.TheVariants.{Full, NoMemory, DiskFault}

-- the numbers of a record are small enough, and the journal that ends here has room for it
abbrev pub has_place : ℕ → Rec → Bool → Bool
has_place end it numbered = nat_le (end + needed it) (2 ^ 40) && numbered

-- where a log ends after a record was added: behind it at Ok; where it was; or nowhere, as it isn't open after a fault
abbrev pub AddsAt : {D T : Type 0} → LogState D → LogState D → Rec → Bool → Result T AddFault → Type 0
AddsAt old new it numbered (Ok value) = (has_place old.end it numbered ≡ true) × IsOpenAt new (old.end + taken it)
AddsAt old new it numbered (Err (Full end need)) = (has_place old.end it numbered ≡ false) × (new ≡ old) × (end ≡ old.end) × (need ≡ needed it)
AddsAt old new it numbered (Err NoMemory) = (new ≡ old) ⊎ ((has_place old.end it numbered ≡ true) × IsOpenAt new old.end)
AddsAt old new it numbered (Err DiskFault) = (has_place old.end it numbered ≡ true) × IsShut new

-- the logs for which the disks may stand afterwards: with the record at Ok, without it where it wasn't added, and both after a fault
abbrev pub EndsFor : {T : Type 0} → List Rec → Rec → Result T AddFault → List (List Rec)
EndsFor log it (Ok value) = (log ++ it ∷ []) ∷ []
EndsFor log it (Err (Full end need)) = log ∷ []
EndsFor log it (Err NoMemory) = log ∷ []
EndsFor log it (Err DiskFault) = log ∷ (log ++ it ∷ []) ∷ []

-- some front of an append's calls was made on the disk that counts
abbrev pub AddsCalls : {D : Type 0} → (D → List Op) → LogState D → LogState D → Rec → Type 0
AddsCalls done old new it = (front rest : List Op) × (append_calls old.end (spelling it) ≡ front ++ rest) × (done (counted new) ≡ done (counted old) ++ front)

-- a fault comes only where the count of the disk that counts went up by one, and every other answer leaves the counts
abbrev pub AddCauses : {D T : Type 0} → (D → ℕ) → LogState D → LogState D → Result T AddFault → Type 0
AddCauses faults old new (Ok value) = (faults (counted new) ≡ faults (counted old)) × (new.faults ≡ old.faults)
AddCauses faults old new (Err (Full end need)) = (faults (counted new) ≡ faults (counted old)) × (new.faults ≡ old.faults)
AddCauses faults old new (Err NoMemory) = (faults (counted new) ≡ faults (counted old)) × (new.faults ≡ old.faults)
AddCauses faults old new (Err DiskFault) = RoseByOne (faults (counted old)) (faults (counted new)) × RoseByOne old.faults new.faults
