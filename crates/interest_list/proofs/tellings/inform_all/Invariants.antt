use Rattle.std.proofs.Common.{◌≡◌, ◌++◌, drop}
use Rattle.interest_list.specs.Changes.{all_news, all_informed}
use Rattle.interest_list.proofs.tellings.inform_all.Given as goal

-- the links that were looked at were told
abbrev pub invariant-loop-link : goal.invariant-loop-link
invariant-loop-link g l = record {
  frames : l.all.items ++ all_news g.P.Carrier.carried (drop l.link-index l.links) (record { subs = l.subs; told_to = l.told_to.items })
      ≡ l.fn.first ++ all_news g.P.Carrier.carried l.links (record { subs = l.subs; told_to = l.initial.told_to.items });
  told : all_informed (drop l.link-index l.links) (record { subs = l.subs; told_to = l.told_to.items })
      ≡ all_informed l.links (record { subs = l.subs; told_to = l.initial.told_to.items });
}
