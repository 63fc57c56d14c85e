use Rattle.std.proofs.Common.{◌≡◌, ℕ, List, [], ◌∷◌, ◌++◌, Option, Some, None, refl, ap}
use Rattle.lock_rows.specs.Book.{written}

pub written_snoc : (h : List (Option ℕ)) (s : Option ℕ) → written (h ++ s ∷ []) ≡ written h ++ written (s ∷ [])
written_snoc [] s = refl
written_snoc (None ∷ h) s = written_snoc h s
written_snoc (Some x ∷ h) s = ap (λ l. x ∷ l) (written_snoc h s)
