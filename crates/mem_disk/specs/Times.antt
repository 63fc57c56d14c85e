-- A clock of a list of moments.
use Rattle.std.specs.Prelude.{◌≡◌, ℕ, ◌-◌, ◌^◌, min, List, [], ◌∷◌, ◌++◌, Option, None, option_map}

-- the last moment that there is
abbrev pub last_moment : ℕ
last_moment = 2 ^ 63 - 1

-- a clock of a list: the moments that are left, the one that it gave last, and those that it gave
pub record Times : Type 0 where
  pub left : List ℕ
  pub last : ℕ
  pub given : Option (List ℕ)

-- a moment, or the last there is where it is past that
abbrev pub within_bound : ℕ → ℕ
within_bound moment = min moment last_moment

-- the next of the list, or the last again where there is none
abbrev pub GivesNext : Times → Times → ℕ → Type 0
GivesNext old new moment = NextOf old.left old new moment
  where
    NextOf : List ℕ → Times → Times → ℕ → Type 0
    NextOf [] old new moment = (moment ≡ old.last) × (new ≡ record old { given = None })
    NextOf (next ∷ rest) old new moment = (moment ≡ next) × (new ≡ record { left = rest; last = next; given = option_map (λ l. l ++ next ∷ []) old.given })
