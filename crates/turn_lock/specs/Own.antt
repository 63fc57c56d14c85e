-- Histories, which are lists of steps, and the own steps of a seat, which are pairs of a ticket and a step.
use Rattle.std.specs.Prelude.{◌≡◌, ◌⊎◌, ℕ, suc, ◌≤◌, ltb, cond, List, [], ◌∷◌, ◌++◌, length}

module _ {S : Type 0} where
  -- the seat made the step x with the ticket k
  abbrev pub Owns : List (ℕ × S) → ℕ → S → Type 0
  Owns [] k x = ⊥
  Owns (p ∷ ps) k x = (p ≡ (k, x)) ⊎ Owns ps k x

  -- the tickets are n or more, and rise
  abbrev pub RisesFrom : ℕ → List (ℕ × S) → Type 0
  RisesFrom n [] = Unit {0}
  RisesFrom n (p ∷ ps) = (n ≤ p.0) × RisesFrom (suc p.0) ps

  -- the pair at the place of its ticket
  abbrev pub put_in : ℕ × S → List (ℕ × S) → List (ℕ × S)
  put_in p [] = p ∷ []
  put_in p (q ∷ qs) = cond (ltb p.0 q.0) (p ∷ q ∷ qs) (q ∷ put_in p qs)

  -- the pairs of both lists, in the order of their tickets
  abbrev pub merged : List (ℕ × S) → List (ℕ × S) → List (ℕ × S)
  merged [] bs = bs
  merged (a ∷ as') bs = put_in a (merged as' bs)

  -- the longer of two histories, the first where they are as long as each other
  abbrev pub longer : List S → List S → List S
  longer xs ys = cond (ltb (length xs) (length ys)) ys xs

  -- the other one
  abbrev pub shorter : List S → List S → List S
  shorter xs ys = cond (ltb (length xs) (length ys)) xs ys

  -- the history `new` begins with all of `old`
  abbrev pub Begins : List S → List S → Type 0
  Begins old new = (rest : List S) × (new ≡ old ++ rest)
