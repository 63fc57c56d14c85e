use Rattle.std.proofs.Common.{◌≡◌, sym, Some, List}
use Rattle.std.specs.Set.{remove_key}
use Rattle.interest_list.specs.declared.subscription.Subscription.{Subscription}
use Rattle.pattern_tree.specs.Order.{is_same}
use Rattle.pattern_tree.specs.Reached.{value_at}
use Rattle.pattern_tree.proofs.Listings.{writes, relisted}
use Rattle.pattern_tree.proofs.listing.take_listed.Goals as goal

pub returns-in-Some : goal.returns-in-Some
returns-in-Some c =
    let here : value_at c.args.pattern.now c.args.listing.now ≡ Some c.in-Some.entries.now = sym c.in-Some.ensures.value in
    relisted (λ (ks : List Subscription). remove_key (is_same c.args.entry.now) ks) c.args.pattern.now (Some c.in-Some.entries.now) (Some c.remove.new.self) c.args.listing.now (c.get_mut.follows.lender c.remove.new.self) here c.remove.ensures.keys
    (writes c.args.pattern.now c.in-Some.entries.now c.remove.new.self c.args.listing.now (c.get_mut.follows.lender c.remove.new.self) here (c.get_mut.follows.holds c.remove.new.self))
