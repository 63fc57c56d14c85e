use Rattle.std.proofs.Common.{rules, not}
use Rattle.std.specs.Str.{bytes_eq}
use Rattle.std.proofs.lemmas.Fn.{filter_same}
use Rattle.stream_fold.specs.declared.parts.Sent.{Sent}
use Rattle.stream_fold.proofs.parts.drop_sent_as.Goals as goal

pub returns-clause-items : goal.returns-clause-items
returns-clause-items c = filter_same _ (λ (s : Sent). not (bytes_eq s.id c.args.id.now)) _ (λ x b f t. search rules) _ _ c.retain.ensures.filtered
