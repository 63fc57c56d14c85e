use Rattle.std.proofs.Common.{◌==◌, rules, not}
use Rattle.std.proofs.lemmas.Fn.{filter_same}
use Rattle.interest_list.specs.declared.telling.ToldTo.{ToldTo}
use Rattle.interest_list.proofs.kept.forget.Goals as goal

pub returns : goal.returns
returns c = filter_same _ (λ (t : ToldTo). not (t.link == c.args.conn)) _ (λ x b f t. search rules) _ _ c.retain.ensures.filtered
