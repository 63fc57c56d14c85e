use Rattle.std.proofs.Common.{◌≡◌, ℕ, List, [], ◌∷◌, ◌++◌, true, false, Option, Some, None, refl, sym, ap, ◌∙◌, subst}
use Rattle.std.specs.Option.{option_copied}
use Rattle.shard_table.specs.declared.table.Table.{Table}
use Rattle.shard_copies.specs.Standing.{ConsumersState}
use Rattle.shard_table.proofs.CommitSteps.{commits-take}
use Rattle.shard_table.proofs.table.Table.commit_take.Goals as goal

pub returns : goal.returns
returns c = λ v e called m.
    let old = c.args.self.now in
    let r = m.is_prepared in
    let h = m.holds in
    let new : Table = record { alloc = old.alloc; streams = c.commit_remove.new.self; consumers = c.remove.new.self; askers = c.idle_under.new.self } in
    let gone = c.remove.ensures in
    commits-take old new v e c.args.name c.args.removal r c.new.result c.new-2.result c.new.ensures c.new-2.ensures
    h (c.commit_remove.ensures v.image h.streams)
    (ap (λ (x : ConsumersState). x.boot) gone) (ap (λ (x : ConsumersState). x.given) gone) (ap (λ (x : ConsumersState). x.all) gone)
    (c.idle_under.ensures v h.askers)
