use Rattle.std.proofs.Common.{rules, not}
use Rattle.std.proofs.lemmas.Fn.{filter_same}
use Rattle.interest_list.specs.declared.subscription.Subscription.{Subscription}
use Rattle.interest_list.specs.Lists.{is_of_client}
use Rattle.interest_list.proofs.kept.remove.Goals as goal

pub returns-clause-ok : goal.returns-clause-ok
returns-clause-ok c = filter_same _ (λ (s : Subscription). not (is_of_client c.args.conn c.args.sid.now s)) _ (λ x b f t. search rules) _ _ c.retain.ensures.filtered
