use Rattle.std.proofs.Common.{sym, refl, Some}
use Rattle.told_pairs.proofs.Weights.{shares_by, share_there}
use Rattle.told_pairs.proofs.wants.set_share.Goals as goal

pub returns-in-Some : goal.returns-in-Some
returns-in-Some c = λ some. shares_by c.args.link (λ _. c.args.weight) c.args.shares.now.entries _ (Some c.args.weight) refl ((c.get_mut.follows.holds c.args.weight).3 (rw (sym c.in-Some.ensures.value) refl)).0

pub returns-in_default : goal.returns-in_default
returns-in_default c = λ some. absurd (share_there c.args.link c.args.shares.now.entries (sym c.in_default.ensures.value) some)
