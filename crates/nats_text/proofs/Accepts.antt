-- The texts that lead a walk, byte by byte, to a state that needs no more.
use Rattle.std.proofs.Common.{◌≡◌, ℕ, ◌+◌, ◌≤◌, List, [], ◌∷◌, length, Bool, true, false, ◌==◌, Option, Some, None, refl, arith, eqb-true}
use Rattle.std.proofs.lemmas.Bool.{false≢true}

abbrev pub passes : {S : Type 0} → Option S → (S → Bool) → Bool
passes None f = false
passes (Some s) f = f s

module _ {S : Type 0} (step : S → ℕ → Option S) (need : S → ℕ) where
  abbrev pub accepts : S → List ℕ → Bool
  accepts s [] = need s == 0
  accepts s (b ∷ bs) = passes (step s b) (λ t. accepts t bs)

  -- a text has the bytes that the state needs
  pub need_le : ((s : S) (b : ℕ) (t : S) → step s b ≡ Some t → need s ≤ need t + 1) → (s : S) (bs : List ℕ) → accepts s bs ≡ true → need s ≤ length bs
  need_le falls s [] e = omega (arith, eqb-true (need s) 0 e)
  need_le falls s (b ∷ bs) e = go (λ t. need_le falls t bs) (step s b) refl e
    where
      go : ((t : S) → accepts t bs ≡ true → need t ≤ length bs) → (r : Option S) → step s b ≡ r → passes r (λ t. accepts t bs) ≡ true → need s ≤ length (b ∷ bs)
      go later None p q = absurd (false≢true q)
      go later (Some t) p q = omega (arith, falls s b t p, later t q)
