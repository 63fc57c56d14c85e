use Rattle.std.proofs.Common.{ap, ◌∙◌, Some}
use Rattle.told_pairs.specs.Wants.{raised}
use Rattle.told_pairs.proofs.Weights.{shares_by}
use Rattle.told_pairs.proofs.wants.raise_share.Goals as goal

pub returns-clause-ok : goal.returns-clause-ok
returns-clause-ok c = shares_by c.args.link (raised c.args.weight) c.args.shares.now.entries c.insert.new.self.entries (Some c.saturating_add-more.result) (c.saturating_add-more.ensures ∙ ap (raised c.args.weight) c.share.ensures) c.in_ok-insert.ensures.updates.0
