use Rattle.std.proofs.Common.{◌≡◌, ◌∙◌, ℕ, List, [], subst, sym, ap}
use Rattle.std.proofs.lemmas.Result.{IfOk-weaker}
use Rattle.std.specs.Borrow.{Bor}
use Rattle.std.specs.BTreeSet.{BTreeSet}
use Rattle.interest_list.specs.declared.subscription.Subscription.{Subscription}
use Rattle.interest_list.specs.Orders.{in_order}
use Rattle.interest_list.specs.Lists.{subscription_cmp}
use Rattle.pattern_tree.specs.Reached.{Adds, Reached, seen}
use Rattle.pattern_tree.specs.Standing.{all_of, matching}
use Rattle.pattern_tree.proofs.Matched.{matched}
use Rattle.pattern_tree.proofs.tree.PatternTree.matching.Goals as goal

pub returns : goal.returns
returns c =
    let sets : List (BTreeSet Subscription) = seen c.in_ok-sets.sets.items in
    let subject : List ℕ = c.args.subject.now in
    let found : Adds (Reached [] subject) c.self.inside.by_pattern [] sets =
    subst (λ (s : List ℕ). Adds (Reached [] s) c.self.inside.by_pattern [] sets) c.bytes.ensures.value
    (subst (λ (old : List (BTreeSet Subscription)). Adds (Reached [] c.bytes.result.now) c.self.inside.by_pattern old sets) (ap seen c.new-none.ensures.items) c.in_ok-sets.ensures) in
    let is : in_order subscription_cmp (all_of sets) ≡ matching subject c.args.self.now = matched c.self.inside.in_order.keys c.self.inside.by_pattern sets subject c.self.invariant found ∙ ap (matching subject) c.self.view_is in
    IfOk-weaker c.in_order.result _ _ (λ it e. e ∙ (ap (λ (s : List (Bor (BTreeSet Subscription))). in_order subscription_cmp (all_of (seen s))) c.as_slice.ensures.value ∙ is)) c.in_order.ensures
