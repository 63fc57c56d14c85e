use Rattle.std.proofs.Common.{sym, ◌∙◌}
use Rattle.told_pairs.proofs.Weights.{tidied}
use Rattle.told_pairs.proofs.wants.tidy.Goals as goal

pub returns-then-total-eq0 : goal.returns-then-total-eq0
returns-then-total-eq0 c = tidied c.args.pair.now c.args.wants.now.entries c.remove.new.self.entries (sym c.total.ensures ∙ c.if-total-eq0.true) c.remove.ensures.updates.0
