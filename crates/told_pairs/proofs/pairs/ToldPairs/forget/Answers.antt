use Rattle.std.proofs.Common.{None}
use Rattle.told_pairs.proofs.Covering.{covered_put}
use Rattle.told_pairs.proofs.LinkLists.{none_some}
use Rattle.told_pairs.proofs.pairs.ToldPairs.forget.Goals as goal

pub invariant_of-self : goal.invariant_of-self
invariant_of-self c =
    covered_put c.self.inside.wants.entries c.self.inside.changes.pairs.items c.self.inside.changes.base c.args.link c.self.inside.links.entries c.forget.new.links.entries None c.forget.ensures.others
    (λ to e. absurd (none_some to e)) c.self.invariant
