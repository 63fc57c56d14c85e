use Rattle.std.proofs.Common.{◌≡◌, ◌∙◌, List, ◌∷◌, sym, ap}
use Rattle.interest_list.specs.declared.subscription.Subscription.{Subscription}
use Rattle.interest_list.specs.Orders.{placed, placed_among}
use Rattle.interest_list.specs.Lists.{subscription_cmp}
use Rattle.pattern_tree.specs.Reached.{seen}
use Rattle.pattern_tree.proofs.Gathered.{seen_replaced}
use Rattle.pattern_tree.proofs.found.add_all.Goals as goal

pub loop-entry-init : goal.loop-entry-init
loop-entry-init c = ap (λ (left : List Subscription). placed_among subscription_cmp left (seen c.args.found.now.keys)) c.into_iter-entry-iterator.ensures.into_iter_gives.0

pub loop-entry-preserved : goal.loop-entry-preserved
loop-entry-preserved c =
    let rest : List Subscription = c.next.new.self in
    let put : seen c.replace.new.self.keys ≡ placed subscription_cmp c.in-Some.entry.now (seen c.loop-entry.found.keys) = ap seen c.in_ok-replace.ensures.keys ∙ seen_replaced subscription_cmp c.in-Some.entry c.loop-entry.found.keys in
    ap (placed_among subscription_cmp rest) put
    ∙ (sym (ap (λ (left : List Subscription). placed_among subscription_cmp left (seen c.loop-entry.found.keys)) c.in-Some.ensures.steps)
    ∙ c.loop-entry.invariant)

pub returns : goal.returns
returns c =
    sym (ap (λ (left : List Subscription). placed_among subscription_cmp left (seen c.loop-entry.found.keys)) c.in-None.ensures.steps.0)
    ∙ c.loop-entry.invariant
