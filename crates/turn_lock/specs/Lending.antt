-- The value of a turn, lent through a reference.
use Rattle.std.specs.Borrow.{Lends, MutBor, Fml, RattleType}
use Rattle.turn_lock.specs.contracts.seat.Held.{the_row}
use Rattle.turn_lock.specs.declared.kept.Kept.{Ghosts}

module _ (V S O : RattleType) (kept : Ghosts V.Denot S.Denot O.Denot) where
  -- the value is this one, and nothing else changed
  abbrev pub with_value : (the_row V S O kept).Denot → V.Denot → (the_row V S O kept).Denot
  with_value h w = record h { value = w }

  -- the value is lent, and what is then written through the reference stands in its place
  abbrev pub LendsValue : MutBor (the_row V S O kept).Denot → MutBor V.Denot → Fml
  LendsValue h r = Lends (the_row V S O kept) V h r (with_value h.now)
