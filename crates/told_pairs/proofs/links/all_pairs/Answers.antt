use Rattle.told_pairs.proofs.Loops.{all_are}
use Rattle.told_pairs.proofs.links.all_pairs.Goals as goal

pub returns : goal.returns
returns c = all_are c.args.wants.now.entries c.args.told.now.entries c.add_keys-2.new.set.keys (λ p none. c.in_ok-add_keys.ensures.keys p (c.in_ok-add_keys-2.ensures.old p none)) c.in_ok-add_keys-2.ensures.keys
