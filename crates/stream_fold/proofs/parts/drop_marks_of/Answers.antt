use Rattle.std.proofs.Common.{rules, not, ◌==◌}
use Rattle.std.proofs.lemmas.Fn.{filter_same}
use Rattle.stream_fold.specs.declared.entry.Mark.{Mark}
use Rattle.stream_fold.proofs.parts.drop_marks_of.Goals as goal

pub returns-clause-items : goal.returns-clause-items
returns-clause-items c = filter_same _ (λ (m : Mark). not (m.index == c.args.index)) _ (λ x b f t. search rules) _ _ c.retain.ensures.filtered
