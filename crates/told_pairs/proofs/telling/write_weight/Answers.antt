use Rattle.told_pairs.proofs.Loops.{place_stays, wrote}
use Rattle.told_pairs.proofs.telling.write_weight.Goals as goal

pub returns-in-Some-clause-stay : goal.returns-in-Some-clause-stay
returns-in-Some-clause-stay c =
    let old = c.args.told.now in
    let new = c.get_mut.follows.lender c.args.weight in
    place_stays c.args.pair.now c.args.weight old.entries new.entries (wrote c.args.pair.now c.args.weight old new c.requires (c.get_mut.follows.holds c.args.weight))
