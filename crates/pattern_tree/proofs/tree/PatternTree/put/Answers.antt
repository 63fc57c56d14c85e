use Rattle.std.proofs.Common.{◌≡◌, ◌∙◌, ℕ, List, subst, sym, ap}
use Rattle.std.specs.Prelude.{false, IfSome}
use Rattle.std.specs.BTreeSet.{replace_key}
use Rattle.std.specs.List.{find, list_any}
use Rattle.std.specs.Set.{remove_key}
use Rattle.interest_list.specs.declared.subscription.Subscription.{Subscription}
use Rattle.interest_list.specs.Orders.{placed}
use Rattle.interest_list.specs.Lists.{subscription_cmp}
use Rattle.pattern_tree.specs.Order.{is_same}
use Rattle.pattern_tree.proofs.Changed.{put_listed, undone}
use Rattle.pattern_tree.proofs.Listings.{Lists}
use Rattle.pattern_tree.proofs.Sorted.{replaced_is_placed}
use Rattle.pattern_tree.proofs.tree.PatternTree.put.Goals as goal

pub invariant_of-self-in_default : goal.invariant_of-self-in_default
invariant_of-self-in_default c =
    let x : Subscription = c.args.subscription.now in
    let subs : List Subscription = c.self.inside.in_order.keys in
    let first : Lists (λ ks. replace_key subscription_cmp ks x) x.pattern c.self.inside.by_pattern c.list.new.listing =
    subst (λ (s : Subscription). Lists (λ ks. replace_key subscription_cmp ks s) s.pattern c.self.inside.by_pattern c.list.new.listing) c.in_ok-copy.ensures c.in_ok-list.ensures.ok in
    put_listed x subs c.stand.new.in_order.keys c.self.inside.by_pattern c.list.new.listing c.self.invariant
    (subst (λ (ks : List Subscription). IfSome (find (is_same x) ks) (λ s. s.pattern ≡ x.pattern)) (sym c.self.view_is) c.requires)
    (c.in_default.ensures.ok ∙ ap (replace_key subscription_cmp subs) c.in_ok-entry.ensures) c.stand.ensures.rises first

pub returns-in_default-clause-ok : goal.returns-in_default-clause-ok
returns-in_default-clause-ok c =
    let x : Subscription = c.args.subscription.now in
    let subs : List Subscription = c.self.inside.in_order.keys in
    c.in_default.ensures.ok ∙ (ap (replace_key subscription_cmp subs) c.in_ok-entry.ensures ∙ (replaced_is_placed subscription_cmp x subs ∙ ap (placed subscription_cmp x) c.self.view_is))

pub invariant_of-self-2 : goal.invariant_of-self-2
invariant_of-self-2 c =
    let x : Subscription = c.args.subscription.now in
    let subs : List Subscription = c.self.inside.in_order.keys in
    let mid = c.list.new.listing in
    let first : Lists (λ ks. replace_key subscription_cmp ks x) x.pattern c.self.inside.by_pattern mid =
    subst (λ (s : Subscription). Lists (λ ks. replace_key subscription_cmp ks s) s.pattern c.self.inside.by_pattern mid) c.in_ok-copy.ensures c.in_ok-list.ensures.ok in
    let back : c.in-Err.entry ≡ x = c.in-Err.ensures.back ∙ c.in_ok-entry.ensures in
    let then : Lists (λ ks. remove_key (is_same x) ks) x.pattern mid c.unlist.new.listing =
    subst (λ (s : Subscription). Lists (λ ks. remove_key (is_same s) ks) s.pattern mid c.unlist.new.listing) back
    (subst (λ (p : List ℕ). Lists (λ ks. remove_key (is_same c.in-Err.entry) ks) p mid c.unlist.new.listing) c.pattern.ensures c.unlist.ensures) in
    undone x subs c.stand.new.in_order.keys c.self.inside.by_pattern mid c.unlist.new.listing c.self.invariant
    (subst (λ (s : Subscription). list_any (is_same s) subs ≡ false) c.in_ok-entry.ensures c.in-Err.ensures.absent) c.in-Err.ensures.err first then
