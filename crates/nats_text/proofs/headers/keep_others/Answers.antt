use Rattle.std.proofs.Common.{not, rules}
use Rattle.std.proofs.lemmas.Fn.{filter_same}
use Rattle.nats_text.specs.Headers.{is_named}
use Rattle.nats_text.proofs.headers.keep_others.Goals as goal

pub returns-clause-items : goal.returns-clause-items
returns-clause-items c = filter_same _ (λ pair. not (is_named c.args.name.now pair)) _ (λ x b f' k. search rules) _ _ c.retain.ensures.filtered
