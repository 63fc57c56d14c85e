use Rattle.std.proofs.Common.{sym, refl, None}
use Rattle.pattern_tree.specs.Reached.{value_at}
use Rattle.pattern_tree.proofs.Listings.{puts, stays}
use Rattle.pattern_tree.proofs.listing.drop_if_empty.Goals as goal

pub returns-then-is_unused : goal.returns-then-is_unused
returns-then-is_unused c =
    stays c.args.pattern.now (value_at c.args.pattern.now c.args.listing.now) None c.args.listing.now c.remove.new.self refl (sym (c.is_unused.ensures c.if-is_unused.true))
    (puts c.args.pattern.now None c.args.listing.now c.remove.new.self c.remove.ensures.updates)
