use Rattle.std.proofs.Common.{◌≡◌, ◌∙◌, ℕ, ◌+◌, List, ◌∷◌, drop, sym, ap}
use Rattle.std.specs.Borrow.{Bor}
use Rattle.std.specs.BTreeSet.{BTreeSet}
use Rattle.interest_list.specs.declared.subscription.Subscription.{Subscription}
use Rattle.interest_list.specs.Orders.{placed_among}
use Rattle.interest_list.specs.Lists.{subscription_cmp}
use Rattle.pattern_tree.specs.Reached.{seen}
use Rattle.pattern_tree.specs.Standing.{all_of}
use Rattle.pattern_tree.proofs.Gathered.{among_parts, drop_read}
use Rattle.pattern_tree.proofs.found.in_order.Goals as goal

pub loop-set-preserved : goal.loop-set-preserved
loop-set-preserved c =
    let sets : List (Bor (BTreeSet Subscription)) = c.args.sets.now in
    let rest : List Subscription = all_of (seen (drop (c.loop-set.set-index + 1) sets)) in
    let found : List Subscription = seen c.loop-set.found.keys in
    ap (placed_among subscription_cmp rest) c.in_ok-add_all.ensures
    ∙ (sym (among_parts subscription_cmp c.set-item.result.now.keys rest found)
    ∙ (sym (ap (λ (left : List (Bor (BTreeSet Subscription))). placed_among subscription_cmp (all_of (seen left)) found) (drop_read sets c.loop-set.set-index c.set-item.result c.loop-set-test.true c.set-item.is))
    ∙ c.loop-set.invariant))
