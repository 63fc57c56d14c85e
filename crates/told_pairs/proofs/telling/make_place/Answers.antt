use Rattle.std.proofs.Common.{◌≡◌, cond, Some, false, sym, ap, ◌∙◌, subst}
use Rattle.told_pairs.specs.Tellings.{has_place, told_list}
use Rattle.std.specs.Map.{lookup}
use Rattle.told_pairs.specs.declared.pair.Pair.{Pair}
use Rattle.told_pairs.specs.Keys.{same_key}
use Rattle.told_pairs.proofs.Loops.{new_place, place_stays, placed_list}
use Rattle.told_pairs.proofs.telling.make_place.Goals as goal

pub returns-in_ok-insert-clause-same : goal.returns-in_ok-insert-clause-same
returns-in_ok-insert-clause-same c =
    let old = c.args.told.now.entries in
    let new = c.insert.new.self.entries in
    new_place c.args.pair.now old new (sym c.contains_key.ensures ∙ c.if-not-contains_key.true)
    (subst (λ (k : Pair). (p : Pair) → lookup (same_key p) new ≡ cond (same_key k p) (Some 0) (lookup (same_key p) old)) c.in_ok-copied.ensures c.in_ok-insert.ensures.updates.0)

pub returns-in_ok-insert-clause-stay : goal.returns-in_ok-insert-clause-stay
returns-in_ok-insert-clause-stay c =
    let old = c.args.told.now.entries in
    let new = c.insert.new.self.entries in
    place_stays c.args.pair.now 0 old new
    (subst (λ (k : Pair). (p : Pair) → lookup (same_key p) new ≡ cond (same_key k p) (Some 0) (lookup (same_key p) old)) c.in_ok-copied.ensures c.in_ok-insert.ensures.updates.0)

pub returns-in_ok-insert-clause-list : goal.returns-in_ok-insert-clause-list
returns-in_ok-insert-clause-list c =
    let k = c.in_ok-copied.field-0 in
    let none = subst (λ (q : Pair). has_place q c.args.told.now.entries ≡ false) (sym c.in_ok-copied.ensures) (sym c.contains_key.ensures ∙ c.if-not-contains_key.true) in
    ap told_list c.in_ok-insert.ensures.entries ∙ placed_list k c.args.told.now.entries none
