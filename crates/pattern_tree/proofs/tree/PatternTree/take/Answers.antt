use Rattle.std.proofs.Common.{sym, ap, ◌∙◌, not, List}
use Rattle.std.specs.Prelude.{filter}
use Rattle.interest_list.specs.Lists.{subscription_cmp}
use Rattle.interest_list.specs.declared.subscription.Subscription.{Subscription}
use Rattle.pattern_tree.specs.Order.{is_same, subscriptions_total}
use Rattle.pattern_tree.proofs.Changed.{taken_listed}
use Rattle.pattern_tree.proofs.Sorted.{removed_all}
use Rattle.pattern_tree.proofs.tree.PatternTree.take.Goals as goal

pub returns-in_err-taken-clause-others : goal.returns-in_err-taken-clause-others
returns-in_err-taken-clause-others c =
    c.take.ensures.keys ∙ (removed_all subscription_cmp subscriptions_total c.args.entry.now c.self.inside.in_order.keys c.self.invariant.rises ∙ ap (λ (ks : List Subscription). filter (λ s. not (is_same c.args.entry.now s)) ks) c.self.view_is)

pub invariant_of-self-2 : goal.invariant_of-self-2
invariant_of-self-2 c =
    taken_listed c.args.entry.now c.in_ok-taken.taken c.self.inside.in_order.keys c.take.new.self.keys c.self.inside.by_pattern c.unlist.new.listing c.pattern.result.now c.self.invariant
    (sym c.take.ensures.key ∙ c.in_ok-taken.was) c.take.ensures.keys c.take.ensures.ordered c.pattern.ensures c.unlist.ensures

pub returns-clause-others : goal.returns-clause-others
returns-clause-others c =
    c.take.ensures.keys ∙ (removed_all subscription_cmp subscriptions_total c.args.entry.now c.self.inside.in_order.keys c.self.invariant.rises ∙ ap (λ (ks : List Subscription). filter (λ s. not (is_same c.args.entry.now s)) ks) c.self.view_is)
