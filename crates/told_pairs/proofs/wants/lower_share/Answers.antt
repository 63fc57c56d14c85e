use Rattle.std.proofs.Common.{sym, ◌∙◌, ap, None}
use Rattle.told_pairs.specs.Wants.{lowered}
use Rattle.told_pairs.proofs.Weights.{shares_by}
use Rattle.told_pairs.proofs.wants.lower_share.Goals as goal

pub returns-then-left-eq0 : goal.returns-then-left-eq0
returns-then-left-eq0 c = shares_by c.args.link (lowered c.args.weight) c.args.shares.now.entries c.remove.new.self.entries None (sym c.if-left-eq0.true ∙ (c.saturating_sub-left.ensures ∙ ap (lowered c.args.weight) c.share.ensures)) c.remove.ensures.updates.0
