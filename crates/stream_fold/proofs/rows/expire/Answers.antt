use Rattle.std.proofs.Common.{rules, not}
use Rattle.std.proofs.lemmas.Fn.{filter_same}
use Rattle.stream_fold.specs.Histories.{is_expired}
use Rattle.stream_fold.proofs.rows.expire.Goals as goal

pub returns : goal.returns
returns c = filter_same _ (λ row. not (is_expired c.args.max_age c.args.now row)) _ (λ x b f t. search rules) _ _ c.retain.ensures.filtered
