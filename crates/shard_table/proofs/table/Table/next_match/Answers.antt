use Rattle.std.proofs.Common.{sym, ap, ◌∙◌}
use Rattle.shard_table.specs.Holding.{match_seen}
use Rattle.shard_table.proofs.Beginning.{match-here}
use Rattle.shard_table.proofs.table.Table.next_match.Goals as goal

pub returns-in-None : goal.returns-in-None
returns-in-None c = λ v held. sym (ap (match_seen c.args.from c.args.filters.now) (c.in-None.ensures v.image held.streams))

pub returns-in-Some : goal.returns-in-Some
returns-in-Some c = λ v held. let (known, live, is) = c.in-Some.ensures v.image held.streams in c.next_match.ensures ∙ match-here v c.args.stream.now known live c.facts_of_histories.ensures.tell c.in-Some.standing.now c.args.from c.args.filters.now is
