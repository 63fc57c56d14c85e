use Rattle.std.proofs.Common.{rules, sym, ◌∙◌, ◌≡◌, ◌*◌, ◌^◌, Some, subst, ap, refl, unwrap_or}
use Rattle.std.specs.Prelude.{slice_get}
use Rattle.turn_lock.specs.Own.{Owns}
use Rattle.turn_lock.specs.Shares.{Lock, SeatState}
use mathlib.Core.Option.{some-injective}
use Rattle.turn_lock.proofs.Shares.{ends}
use Rattle.turn_lock.proofs.lock.TurnLock.close.Goals as goal

pub unwrap-value-requires : goal.unwrap-value-requires
unwrap-value-requires g c =
    let key = c.self.inside.gate.table.shared.key in
    let seat = c.seat.inside.inner in
    let rests = c.seat.invariant in
    let all : seat.me.0.parts ≡ key.seats * 2 ^ seat.me.0.halvings = search rules in
    let e = ends g.V.Kept.stands (g.V.Kept.opening key.value) key.seats seat.id seat.me.0 rests.0 rests.1 all _ _ c.close_with-closed.ensures.values.2 in
    let same : c.take.result ≡ Some e.value = some-injective _ _ (sym c.take.ensures.value ∙ e.place) in
    rw same refl

pub returns-clause-stands : goal.returns-clause-stands
returns-clause-stands g c =
    let key = c.self.inside.gate.table.shared.key in
    let seat = c.seat.inside.inner in
    let rests = c.seat.invariant in
    let all : seat.me.0.parts ≡ key.seats * 2 ^ seat.me.0.halvings = search rules in
    let e = ends g.V.Kept.stands (g.V.Kept.opening key.value) key.seats seat.id seat.me.0 rests.0 rests.1 all _ _ c.close_with-closed.ensures.values.2 in
    let same : c.take.result ≡ Some e.value = some-injective _ _ (sym c.take.ensures.value ∙ e.place) in
    let value : e.value ≡ c.unwrap-value.result = ap (λ x. unwrap_or x e.value) (sym same ∙ c.unwrap-value.ensures) in
    let opening = ap (λ (l : Lock g.row.V-Opening.Denot). l.opening) c.self.view_is in
    let seen = ap (λ (s : SeatState g.row.V-Step.Denot g.row.V-Opening.Denot). s.seen) c.seat.view_is in
    rw (← value, ← opening, ← seen) e.meets

pub returns-clause-whole : goal.returns-clause-whole
returns-clause-whole g c =
    let key = c.self.inside.gate.table.shared.key in
    let seat = c.seat.inside.inner in
    let rests = c.seat.invariant in
    let all : seat.me.0.parts ≡ key.seats * 2 ^ seat.me.0.halvings = search rules in
    let e = ends g.V.Kept.stands (g.V.Kept.opening key.value) key.seats seat.id seat.me.0 rests.0 rests.1 all _ _ c.close_with-closed.ensures.values.2 in
    let seen = ap (λ (s : SeatState g.row.V-Step.Denot g.row.V-Opening.Denot). s.seen) c.seat.view_is in
    let own = ap (λ (s : SeatState g.row.V-Step.Denot g.row.V-Opening.Denot). s.own) c.seat.view_is in
    rw (← seen, ← own) e.whole

pub returns-clause-places : goal.returns-clause-places
returns-clause-places g c =
    let key = c.self.inside.gate.table.shared.key in
    let seat = c.seat.inside.inner in
    let rests = c.seat.invariant in
    let all : seat.me.0.parts ≡ key.seats * 2 ^ seat.me.0.halvings = search rules in
    let e = ends g.V.Kept.stands (g.V.Kept.opening key.value) key.seats seat.id seat.me.0 rests.0 rests.1 all _ _ c.close_with-closed.ensures.values.2 in
    let seen = ap (λ (s : SeatState g.row.V-Step.Denot g.row.V-Opening.Denot). s.seen) c.seat.view_is in
    let own = ap (λ (s : SeatState g.row.V-Step.Denot g.row.V-Opening.Denot). s.own) c.seat.view_is in
    λ k x owns. subst (λ l. slice_get l k ≡ Some x) seen (e.own k x (subst (λ l. Owns l k x) (sym own) owns))
