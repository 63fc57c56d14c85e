use Rattle.std.proofs.Common.{rules, arith, ◌≡◌, ap, subst, Option}
use Rattle.atomic_table.specs.Table.{Me}
use Rattle.turn_lock.specs.declared.rule.View.{View}
use Rattle.turn_lock.specs.Own.{Begins, longer, shorter}
use Rattle.turn_lock.specs.Shares.{SeatState}
use Rattle.turn_lock.proofs.Shares.{join_allowed}
use Rattle.turn_lock.proofs.Steps.{recall_allowed}
use Rattle.turn_lock.proofs.Owned.{both_begin}
use Rattle.turn_lock.proofs.lock.TurnLock.join.Goals as goal

pub join_seat-requires : goal.join_seat-requires
join_seat-requires g c =
    let sized = c.self.inside.gate.sized in
    let key = c.self.inside.gate.table.shared.key in
    let a = c.a.inside.inner in
    let b = c.b.inside.inner in
    let rests = c.a.invariant in
    let rests' = c.b.invariant in (
      search rules,
      search rules,
      rests'.3,
      omega (arith, sized.0),
      join_allowed g.V.Kept.stands (g.V.Kept.opening key.value) key.seats a.id a.me.0 b.id b.me.0 rests.0 rests.1 rests.2 rests'.0 rests'.1 rests'.2,
    )

pub load-requires : goal.load-requires
load-requires g c =
    let sized = c.self.inside.gate.sized in
    let key = c.self.inside.gate.table.shared.key in
    let seat = c.join_seat.new.seat in
    let rests : seat.me.0.stage ≡ 0 = search rules in (
      search rules,
      omega (arith, sized.0),
      recall_allowed g.V.Kept.stands (g.V.Kept.opening key.value) key.seats c.self.inside.gate.table.shared.table_id.slots seat.id seat.me.0 seat.me.1 rests,
    )

pub returns-clause-begins : goal.returns-clause-begins
returns-clause-begins g c =
    let (_, _, both) = c.load.ensures in
    let (same, told, _) = both in
    let (_, _, now) = c.join_seat.ensures in
    let a = c.a.inside.inner.me.0.seen in
    let b = c.b.inside.inner.me.0.seen in
    let short : Begins (shorter a b) (longer a b) = subst (λ (m : Me (Option g.row.V.Denot) (View g.row.V-Step.Denot g.row.V-Opening.Denot)). Begins m.0.shorter m.0.seen) now told in
    let first : a ≡ c.args.a.seen = ap (λ (s : SeatState g.row.V-Step.Denot g.row.V-Opening.Denot). s.seen) c.a.view_is in
    let second : b ≡ c.args.b.seen = ap (λ (s : SeatState g.row.V-Step.Denot g.row.V-Opening.Denot). s.seen) c.b.view_is in
    rw (same, now, ← first, ← second) (both_begin a b short)

pub returns-clause-rising : goal.returns-clause-rising
returns-clause-rising g c =
    let (_, _, both) = c.load.ensures in
    let (same, _, rising) = both in
    rw same rising
