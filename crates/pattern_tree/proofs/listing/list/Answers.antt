use Rattle.std.proofs.Common.{◌≡◌, sym, ap, ◌∙◌, subst, Some, None, List, ℕ}
use Rattle.std.specs.BTreeSet.{replace_key}
use Rattle.interest_list.specs.Lists.{subscription_cmp}
use Rattle.interest_list.specs.declared.subscription.Subscription.{Subscription}
use Rattle.pattern_tree.specs.Reached.{value_at}
use Rattle.pattern_tree.proofs.Listings.{Lists, Puts, puts, writes, relisted, stays, on_err}
use Rattle.pattern_tree.proofs.listing.list.Goals as goal

pub returns-in_err-replace-clause-err : goal.returns-in_err-replace-clause-err
returns-in_err-replace-clause-err c =
    let k = c.as_slice.result.now in
    let old = c.args.listing.now in
    let new = c.get_mut.follows.lender c.replace.new.self in
    let here : value_at k old ≡ Some c.in-Some.entries.now = sym c.in-Some.ensures.value in
    on_err c.from_residual-in_err-replace.result
    (stays k (Some c.in-Some.entries.now) (Some c.replace.new.self) old new here (c.in_err-replace.ensures).err
    (writes k c.in-Some.entries.now c.replace.new.self old new here (c.get_mut.follows.holds c.replace.new.self)))

pub returns-in-Some-clause-ok : goal.returns-in-Some-clause-ok
returns-in-Some-clause-ok c =
    let k = c.as_slice.result.now in
    let old = c.args.listing.now in
    let new = c.get_mut.follows.lender c.replace.new.self in
    let here : value_at k old ≡ Some c.in-Some.entries.now = sym c.in-Some.ensures.value in
    subst (λ (p : List ℕ). Lists (λ ks. replace_key subscription_cmp ks c.args.entry) p old new) (c.as_slice.ensures.value ∙ (c.in_ok-pattern.ensures.items ∙ c.pattern.ensures))
    (relisted (λ (ks : List Subscription). replace_key subscription_cmp ks c.args.entry) k (Some c.in-Some.entries.now) (Some c.replace.new.self) old new here (c.in_ok-replace.ensures).keys
    (writes k c.in-Some.entries.now c.replace.new.self old new here (c.get_mut.follows.holds c.replace.new.self)))

pub returns-clause-ok : goal.returns-clause-ok
returns-clause-ok c =
    let k = c.in_ok-pattern.pattern.items in
    let old = c.args.listing.now in
    let new = c.insert.new.self in
    let F : List Subscription → List Subscription = λ ks. replace_key subscription_cmp ks c.args.entry in
    let here : value_at k old ≡ None = ap (λ (p : List ℕ). value_at p old) (sym c.as_slice.ensures.value) ∙ sym c.in_default.ensures.value in
    subst (λ (p : List ℕ). Lists F p old new) (c.in_ok-pattern.ensures.items ∙ c.pattern.ensures)
    (relisted F k None (Some c.replace-2.new.self) old new here ((c.in_ok-replace-2.ensures).keys ∙ ap F c.new-entries.ensures.empty)
    (subst (λ m. Puts k (Some c.replace-2.new.self) m new) c.get_mut.follows.holds-at-none (puts k (Some c.replace-2.new.self) c.get_mut.follows.lender-at-none new c.in_ok-insert.ensures.updates)))
