use Rattle.std.proofs.Common.{◌∙◌, sym, ap, subst}
use Rattle.shard_machine.specs.Images.{LogImage}
use Rattle.shard_table.specs.Holding.{Holds}
use Rattle.shard_calls.specs.Memories.{ShardState}
use Rattle.shard_calls.proofs.TableKinds.{kept-view}
use Rattle.shard_calls.proofs.shard.Shard.boot.Goals as goal

pub returns : goal.returns
returns g c h keeps =
    let v = kept-view c.args.self.now h keeps in
    c.boot.ensures v.0 (subst (λ (s : ShardState g.row.D.Denot). Holds s.memory.table v.0) (sym c.self.view_is) v.1) ∙ ap (λ (i : LogImage). i.boot) v.2
