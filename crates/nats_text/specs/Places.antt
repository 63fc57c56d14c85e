-- Where bytes stop being the beginning of a legal text.
use Rattle.std.specs.Prelude.{◌≡◌, ◌⊎◌, ℕ, ◌+◌, ◌<◌, List, ◌++◌, length, take, Bool, false, IsTrue}

-- some legal text begins with these bytes
abbrev pub Begins : (List ℕ → Bool) → List ℕ → Type 0
Begins legal front = (rest : List ℕ) × IsTrue (legal (front ++ rest))

-- a legal text may begin with the bytes before the place, and none with those up to and including it
pub record IsCutAt (legal : List ℕ → Bool) (bytes : List ℕ) (place : ℕ) : Type 0 where
  pub within : place < length bytes
  pub before : Begins legal (take place bytes)
  pub never : Begins legal (take (place + 1) bytes) → ⊥

-- a longer text would be legal, and this one isn't
pub record EndsEarly (legal : List ℕ → Bool) (bytes : List ℕ) (place : ℕ) : Type 0 where
  pub end : place ≡ length bytes
  pub before : Begins legal bytes
  pub short : legal bytes ≡ false

-- the least place such that no legal text begins with the bytes up to and including it, or the
-- length where the bytes end too early
abbrev pub IsBadPlace : (List ℕ → Bool) → List ℕ → ℕ → Type 0
IsBadPlace legal bytes place = IsCutAt legal bytes place ⊎ EndsEarly legal bytes place
