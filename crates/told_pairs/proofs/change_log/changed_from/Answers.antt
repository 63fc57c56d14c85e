use Rattle.std.proofs.Common.{◌≡◌, ◌+◌, ◌∷◌, drop, sym, ap, ◌∙◌, arith}
use Rattle.told_pairs.specs.declared.pair.Pair.{Pair}
use Rattle.told_pairs.proofs.Loops.{collected_more, rest_at}
use Rattle.told_pairs.proofs.change_log.changed_from.Goals as goal

pub loop-at-preserved : goal.loop-at-preserved
loop-at-preserved c =
    let items = c.args.changes.now.pairs.items in
    let at = c.loop-at.at in
    let k = c.in_ok-copied.field-0 in
    let is : drop at items ≡ k ∷ drop (at + 1) items = rest_at items at c.index.result.now (omega (arith, c.loop-at-test.true, c.len-at-end.ensures)) c.index.ensures ∙ ap (λ (p : Pair). p ∷ drop (at + 1) items) (sym c.in_ok-copied.ensures) in
    collected_more (drop c.args.from items) (drop at items) (drop (at + 1) items) k c.loop-at.set c.insert.new.self is c.in_ok-insert.ensures.updates.0 c.loop-at.invariant
