use Rattle.std.proofs.Common.{rules, not}
use Rattle.std.proofs.lemmas.Fn.{filter_same}
use Rattle.std.specs.Option.{option_copied}
use Rattle.interest_list.specs.declared.subscription.Subscription.{Subscription}
use Rattle.interest_list.specs.Lists.{is_of_link}
use Rattle.interest_list.proofs.kept.link_off.Goals as goal

pub returns-clause-ok : goal.returns-clause-ok
returns-clause-ok c = filter_same _ (λ (s : Subscription). not (is_of_link c.args.conn c.args.pattern.now (option_copied c.args.queue) s)) _ (λ x b f t. search rules) _ _ c.retain.ensures.filtered
