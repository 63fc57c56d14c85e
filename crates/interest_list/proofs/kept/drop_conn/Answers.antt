use Rattle.std.proofs.Common.{rules, not}
use Rattle.std.proofs.lemmas.Fn.{filter_same}
use Rattle.interest_list.specs.declared.subscription.Subscription.{Subscription}
use Rattle.interest_list.specs.Lists.{is_of}
use Rattle.interest_list.proofs.kept.drop_conn.Goals as goal

pub returns : goal.returns
returns c = filter_same _ (λ (s : Subscription). not (is_of c.args.conn s)) _ (λ x b f t. search rules) _ _ c.retain.ensures.filtered
