use Rattle.std.proofs.Common.{rules, not, ◌==◌}
use Rattle.std.proofs.lemmas.Fn.{filter_same}
use Rattle.stream_fold.specs.declared.entry.Numbered.{Numbered}
use Rattle.stream_fold.proofs.rows.delete.Goals as goal

pub returns : goal.returns
returns c = filter_same _ (λ (row : Numbered). not (row.seq == c.args.seq)) _ (λ x b f t. search rules) _ _ c.retain.ensures.filtered
