use Rattle.std.proofs.Common.{◌≡◌, sym, subst}
use Rattle.shard_machine.specs.Images.{LogImage, live_in}
use Rattle.shard_table.specs.Holding.{Holds, match_seen}
use Rattle.shard_calls.specs.Memories.{ShardState}
use Rattle.shard_calls.proofs.TableKinds.{kept-view}
use Rattle.shard_calls.proofs.shard.Shard.next_match.Goals as goal

pub returns : goal.returns
returns g c h keeps =
    let v = kept-view c.args.self.now h keeps in
    let e = c.next_match.ensures v.0 (subst (λ (s : ShardState g.row.D.Denot). Holds s.memory.table v.0) (sym c.self.view_is) v.1) in
    subst (λ (i : LogImage). c.next_match.result ≡ match_seen c.args.from c.args.filters.now (live_in i c.args.stream.now)) v.2 e
