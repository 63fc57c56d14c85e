use Rattle.std.proofs.Common.{rules, Some, refl}
use Rattle.turn_lock.proofs.lock.TurnLock.take.Goals as goal

pub exchange-requires : goal.exchange-requires
exchange-requires g c = let lent = c.wait.ensures.lent in (search rules, (Some lent.value, rw lent.now refl))
