-- A row of taps before and after it is told a notice.
use Rattle.std.specs.Prelude.{◌≡◌, ◌≤◌, ℕ, List, [], ◌∷◌, ◌++◌, Bool, true, false, Option, None, Some, length, slice_get, remove}
use Rattle.tap_row.specs.declared.notice.Notice.{Notice}

module _ {B : Type 0} (stands : B → List Notice → Type 0) (has_left : B → Bool) (notice : Notice) where
  -- whatever the tap was told before, it was told this notice behind it
  abbrev pub WasTold : B → B → Type 0
  WasTold old new = (notices : List Notice) → stands old notices → stands new (notices ++ notice ∷ [])

  -- each tap was told, in order, and those that then leave are gone
  pub data IsTold : List B → List B → Type 0 where
    none : IsTold [] []
    stays : (b c : B) (bs cs : List B) → WasTold b c → has_left c ≡ false → IsTold bs cs → IsTold (b ∷ bs) (c ∷ cs)
    leaves : (b c : B) (bs cs : List B) → WasTold b c → has_left c ≡ true → IsTold bs cs → IsTold (b ∷ bs) cs

-- the lines of these taps, each with its line feed
abbrev pub lines_of : {B : Type 0} → (B → List ℕ) → List B → List ℕ
lines_of line [] = []
lines_of line (b ∷ bs) = line b ++ 10 ∷ lines_of line bs

-- the tap of the place is taken out, and none where there is none
abbrev pub Detaches : {B : Type 0} → ℕ → List B → Option B → List B → Type 0
Detaches place old None new = (length old ≤ place) × (new ≡ old)
Detaches place old (Some b) new = (slice_get old place ≡ Some b) × (new ≡ remove old place)
