use Rattle.std.proofs.Common.{◌≡◌, ℕ, length, sym, ap, ◌∙◌, arith}
use Rattle.std.specs.Prelude.{insert}
use Rattle.interest_list.proofs.Places.{place-less, place-equal, place-greater, place-end}
use Rattle.interest_list.proofs.order.place_of.Goals as goal

pub returns-in-Less-clause-placed : goal.returns-in-Less-clause-placed
returns-in-Less-clause-placed g c = place-less g.T.Placed.order c.args.item.now c.args.items.now c.loop-at.at c.index-items-at.result c.loop-at-test.true c.index-items-at.is (sym c.order.ensures ∙ c.in-Less.is) c.loop-at.invariant

pub returns-in-Equal-clause-placed : goal.returns-in-Equal-clause-placed
returns-in-Equal-clause-placed g c = place-equal g.T.Placed.order c.args.item.now c.args.items.now c.loop-at.at c.index-items-at.result c.loop-at-test.true c.index-items-at.is (sym c.order.ensures ∙ c.in-Equal.is) c.loop-at.invariant

pub loop-at-preserved : goal.loop-at-preserved
loop-at-preserved g c = place-greater g.T.Placed.order c.args.item.now c.args.items.now c.loop-at.at c.index-items-at.result c.loop-at-test.true c.index-items-at.is (sym c.order.ensures ∙ c.in-Greater.is) c.loop-at.invariant

pub returns-clause-placed : goal.returns-clause-placed
returns-clause-placed g c =
    let xs = c.args.items.now in
    let all : c.loop-at.at ≡ length xs = omega (arith, c.loop-at.auto.at-end, c.loop-at-test.false) in
    place-end g.T.Placed.order c.args.item.now xs c.loop-at.at (omega (arith, c.loop-at-test.false)) c.loop-at.invariant ∙ ap (λ (n : ℕ). insert xs n c.args.item.now) all
