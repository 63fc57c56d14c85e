-- What a seat at rest and one with the value know, and the slot that is out with it.
use Rattle.std.specs.Prelude.{◌≡◌, ℕ, ◌<◌, [], ◌∷◌, length, Option, Some, None}
use Rattle.atomic_table.specs.Table.{Me}
use Rattle.turn_lock.specs.declared.rule.View.{View}

module _ {V S O : Type 0} where
  -- the seat waits for no turn, and has no slot
  abbrev pub IsResting : Me (Option V) (View S O) → Type 0
  IsResting m = (m.0.turn ≡ None) × (m.0.stage ≡ 0) × (0 < m.0.parts) × (m.1 ≡ [])

  -- it is the seat's turn, it has seen the whole history before it, and the slot is out with it, empty
  abbrev pub IsHolding : ℕ → Me (Option V) (View S O) → Type 0
  IsHolding ticket m = (m.0.turn ≡ Some ticket) × (m.0.stage ≡ 1) × (0 < m.0.parts) × (m.1 ≡ (0, None) ∷ []) × (length m.0.seen ≡ ticket)
