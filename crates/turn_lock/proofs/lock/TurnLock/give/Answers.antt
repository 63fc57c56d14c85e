use Rattle.std.proofs.Common.{refl, ap, ◌∷◌, Some}
use Rattle.atomic_table.specs.Table.{rest}
use Rattle.turn_lock.specs.Shares.{Lock, SeatState}
use Rattle.turn_lock.proofs.lock.TurnLock.give.Goals as goal

pub serve-requires-clause-stands : goal.serve-requires-clause-stands
serve-requires-clause-stands g c =
    let was = c.turn.invariant.0 in
    let now = c.exchange-old.ensures.3 in
    let opening = ap (λ (l : Lock g.row.V-Opening.Denot). l.opening) c.self.view_is in
    let seen = ap (λ (s : SeatState g.row.V-Step.Denot g.row.V-Opening.Denot). s.seen) c.turn.view_is in (
      c.args.step.now,
      c.args.held.value,
      refl,
      rw now (ap (λ l. (0, Some c.args.held.value) ∷ rest l) was.3),
      rw (now, opening, seen) c.requires.stands,
    )
