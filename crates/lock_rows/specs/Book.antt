use Rattle.std.specs.Prelude.{ℕ, List, [], ◌∷◌, Option, Some, None}

-- what the steps wrote. A step that found no memory wrote nothing
abbrev pub written : List (Option ℕ) → List ℕ
written [] = []
written (None ∷ h) = written h
written (Some x ∷ h) = x ∷ written h
