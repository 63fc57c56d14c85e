-- What the sources and sinks in memory do at each call.
use Rattle.std.specs.Prelude.{◌≡◌, ℕ, ◌+◌, ◌-◌, ◌^◌, min, List, ◌++◌, length, take, drop, Bool, ◌==◌, Result, Ok, Err, MatchBool}
use Rattle.std.specs.List.{list_any}
use Rattle.leaf_edges.specs.declared.fault.EdgeError.{EdgeError}
use Rattle.leaf_edges.specs.declared.fault.EdgeError.TheVariants.{Failed, NoMemory}

-- a source in memory: the bytes left, the numbers of the calls that fail, and its counts of calls and faults
pub record Reading : Type 0 where
  pub left : List ℕ
  pub failing : List ℕ
  pub calls : ℕ
  pub faults : ℕ

-- a sink in memory, with the bytes that it took
pub record Writing : Type 0 where
  pub taken : List ℕ
  pub failing : List ℕ
  pub calls : ℕ
  pub faults : ℕ

-- a count goes up by one, and stands still at its type's end
abbrev pub risen : ℕ → ℕ
risen n = min (n + 1) (2 ^ 64 - 1)

-- whether the call after so many is one that is to fail
abbrev pub is_failing : List ℕ → ℕ → Bool
is_failing failing calls = list_any (λ n. n == risen calls) failing

-- a read gives as much as there is and fits the buffer
abbrev pub ReadsMost : Reading → Reading → Result ℕ EdgeError → List ℕ → Type 0
ReadsMost old new (Ok count) buf =
    (count ≡ min (length buf) (length old.left)) × (take count buf ≡ take count old.left) × (new ≡ record old { left = drop count old.left; calls = risen old.calls })
ReadsMost old new (Err error) buf = ⊥

-- a read fails exactly where its number is listed, and else gives as much as there is and fits
abbrev pub ReadsExactly : Reading → Reading → Result ℕ EdgeError → List ℕ → Type 0
ReadsExactly old new result buf = MatchBool (is_failing old.failing old.calls)
    ((result ≡ Err Failed) × (new ≡ record old { calls = risen old.calls; faults = risen old.faults }))
    (ReadsMost old new result buf)

-- a write takes the whole piece, unless there is no memory
abbrev pub WritesAll : Writing → Writing → Result ℕ EdgeError → List ℕ → Type 0
WritesAll old new (Ok count) bytes = (count ≡ length bytes) × (new ≡ record old { taken = old.taken ++ bytes; calls = risen old.calls })
WritesAll old new (Err Failed) bytes = ⊥
WritesAll old new (Err NoMemory) bytes = new ≡ record old { calls = risen old.calls }

-- a write fails exactly where its number is listed, and else takes the whole piece
abbrev pub WritesExactly : Writing → Writing → Result ℕ EdgeError → List ℕ → Type 0
WritesExactly old new result bytes = MatchBool (is_failing old.failing old.calls)
    ((result ≡ Err Failed) × (new ≡ record old { calls = risen old.calls; faults = risen old.faults }))
    (WritesAll old new result bytes)
