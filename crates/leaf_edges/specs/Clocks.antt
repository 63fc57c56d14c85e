-- What the calls of a clock do.
use Rattle.std.specs.Prelude.{◌≡◌, ℕ, List, [], ◌∷◌, ◌++◌, Option, Some, None}

-- the moments that it gave grow by one; a clock that tells them has told them all along, and may stop telling
abbrev pub Gives : Option (List ℕ) → Option (List ℕ) → ℕ → Type 0
Gives old None moment = Unit {0}
Gives None (Some given) moment = ⊥
Gives (Some before) (Some given) moment = given ≡ before ++ moment ∷ []
