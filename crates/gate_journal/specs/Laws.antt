-- What holds of areas, whatever the code does.
use Rattle.std.specs.Prelude.{◌≡◌, ◌↔◌, ℕ, Bool, List}
use Rattle.gate_journal.specs.declared.area.Ending.TheVariants.{Closed}
use Rattle.gate_journal.specs.Areas.{AreaState, IsArea, IsBroken, IsHeadless, Holds}

-- bytes are an area in one way only
abbrev pub AreasAreRead : Type 0
AreasAreRead = (c : List ℕ) (k k' : Bool) (g g' : ℕ) (bs bs' : List (List ℕ)) → IsArea k g bs c → IsArea k' g' bs' c → (k ≡ k') × (g ≡ g') × (bs ≡ bs')

-- bytes break at one place only
abbrev pub BreaksAreRead : Type 0
BreaksAreRead = (c : List ℕ) (p p' : ℕ) → IsBroken p c → IsBroken p' c → p ≡ p'

-- no area breaks
abbrev pub AreasAreWhole : Type 0
AreasAreWhole = (c : List ℕ) (k : Bool) (g p : ℕ) (bs : List (List ℕ)) → IsArea k g bs c → IsBroken p c → ⊥

-- bytes hold one area, whole or broken
abbrev pub AreasAreHeld : Type 0
AreasAreHeld = (c : List ℕ) (x y : AreaState) → Holds x c → Holds y c → x ≡ y

-- bytes are an area exactly where they hold it, and its records end at a closed gate
abbrev pub AreasHoldBodies : Type 0
AreasHoldBodies = (c : List ℕ) (k : Bool) (g : ℕ) (bs : List (List ℕ)) → IsArea k g bs c ↔ Holds (record { counts = k; generation = g; bodies = bs; ending = Closed }) c

-- bytes without a head hold none
abbrev pub HeadsAreHeld : Type 0
HeadsAreHeld = (c : List ℕ) (x : AreaState) → Holds x c → IsHeadless c → ⊥
