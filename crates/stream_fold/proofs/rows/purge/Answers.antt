use Rattle.std.proofs.Common.{rules, not}
use Rattle.std.proofs.lemmas.Fn.{filter_same}
use Rattle.stream_fold.specs.Histories.{is_purged}
use Rattle.stream_fold.proofs.rows.purge.Goals as goal

pub returns : goal.returns
returns c = filter_same _ (λ row. not (is_purged c.args.pattern.now c.args.below row)) _ (λ x b f t. search rules) _ _ c.retain.ensures.filtered
