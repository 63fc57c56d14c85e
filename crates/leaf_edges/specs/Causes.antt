-- When a call to the outside may fail, and what a failure leaves behind.
use Rattle.std.specs.Prelude.{◌≡◌, ℕ, ◌+◌, ◌-◌, ◌^◌, ◌≤◌, min, max, List, ◌++◌, length, Option, Result, Ok, Err, Bool, ◌&&◌, ◌==◌, nat_lt, MatchBool}
use Rattle.std.specs.Io.KnownBytes.{Appends}
use Rattle.leaf_edges.specs.declared.fault.EdgeError.{EdgeError}
use Rattle.leaf_edges.specs.declared.fault.EdgeError.TheVariants.{Failed, NoMemory}

-- a count of faults rose; one that stands at its type's end counts as having risen
abbrev pub Rose : ℕ → ℕ → Type 0
Rose before now = (before ≤ now) × (min (before + 1) (2 ^ 64 - 1) ≤ now)

-- `Failed` comes only where the count rose, and every other answer leaves the count
abbrev pub Causes : {T : Type 0} → ℕ → ℕ → Result T EdgeError → Type 0
Causes before now (Ok value) = now ≡ before
Causes before now (Err Failed) = Rose before now
Causes before now (Err NoMemory) = now ≡ before

-- a count of faults went up by one, up to its type's end
abbrev pub RoseByOne : ℕ → ℕ → Type 0
RoseByOne before now = now ≡ max before (min (before + 1) (2 ^ 64 - 1))

-- `Failed` comes only where the count went up by one, and every other answer leaves the count
abbrev pub CausesOne : {T : Type 0} → ℕ → ℕ → Result T EdgeError → Type 0
CausesOne before now (Ok value) = now ≡ before
CausesOne before now (Err Failed) = RoseByOne before now
CausesOne before now (Err NoMemory) = now ≡ before

-- the same for a read
abbrev pub ReadCauses : ℕ → ℕ → Result ℕ EdgeError → Type 0
ReadCauses before now result = Causes before now result

-- nothing was taken of a piece that isn't empty
abbrev pub is_idle : ℕ → List ℕ → Bool
is_idle count bytes = (count == 0) && nat_lt 0 (length bytes)

-- the same for a write, where taking nothing counts as a fault
abbrev pub WriteCauses : ℕ → ℕ → Result ℕ EdgeError → List ℕ → Type 0
WriteCauses before now (Ok count) bytes = MatchBool (is_idle count bytes) (Rose before now) (now ≡ before)
WriteCauses before now (Err Failed) bytes = Rose before now
WriteCauses before now (Err NoMemory) bytes = now ≡ before

-- some front of the bytes was written
pub record AppendsPrefix (old new : Option (List ℕ)) (bytes : List ℕ) : Type 0 where
  pub front : List ℕ
  pub rest : List ℕ
  pub whole : bytes ≡ front ++ rest
  pub grows : Appends old new front

-- all the bytes were written, or at an error a front of them
abbrev pub Pumps : {T : Type 0} → Option (List ℕ) → Option (List ℕ) → Result T EdgeError → List ℕ → Type 0
Pumps old new (Ok value) bytes = Appends old new bytes
Pumps old new (Err error) bytes = AppendsPrefix old new bytes
