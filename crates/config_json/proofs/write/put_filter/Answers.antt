use Rattle.std.proofs.Common.{sym, ap, ◌∙◌}
use Rattle.std.specs.Prelude.{codes}
use Rattle.serde_json.specs.Data.{put}
use Rattle.serde_json.specs.View.{members_view}
use Rattle.config_json.specs.Writing.{with_filter}
use Rattle.config_json.proofs.write.put_filter.Goals as goal

pub returns-in_ok-put : goal.returns-in_ok-put
returns-in_ok-put c =
    let old = members_view c.args.members.now.entries in
    c.in_ok-put.ensures.ok ∙ (ap (λ v. put (codes "filter_subject") v old) c.in_ok-value.ensures ∙ ap (λ f. with_filter f old) (sym c.in-Some.is))
