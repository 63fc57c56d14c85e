use Rattle.std.proofs.Common.{sym, ap, BTreeMap}
use Rattle.told_pairs.specs.declared.pair.Pair.{Pair}
use Rattle.told_pairs.specs.Wants.{Weight, lowered}
use Rattle.told_pairs.proofs.Weights.{write_becomes, none_lowered}
use Rattle.told_pairs.proofs.wants.lower.Goals as goal

pub returns-in-Some : goal.returns-in-Some
returns-in-Some c = write_becomes c.args.pair.now c.args.link (lowered c.args.weight) c.in-Some.want.now c.lower_want.new.want c.args.wants.now (c.get_mut.follows.lender c.lower_want.new.want) (sym c.in-Some.ensures.value) (c.get_mut.follows.holds c.lower_want.new.want) c.lower_want.ensures

pub returns-in_default : goal.returns-in_default
returns-in_default c = none_lowered c.args.pair.now c.args.link c.args.weight c.args.wants.now.entries c.get_mut.follows.lender-at-none.entries (sym c.in_default.ensures.value) (ap (λ (m : BTreeMap Pair Weight). m.entries) c.get_mut.follows.holds-at-none)
