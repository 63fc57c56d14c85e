use Rattle.std.proofs.Common.{◌≡◌, ℕ, List, [], ◌∷◌, ◌++◌, true, false, Option, Some, None, refl, sym, ap, ◌∙◌, subst}
use Rattle.std.specs.Option.{option_copied}
use Rattle.shard_table.specs.declared.table.Table.{Table}
use Rattle.shard_table.proofs.CommitSteps.{commits-write}
use Rattle.shard_table.proofs.table.Table.commit_write.Goals as goal

pub commit_entry-entry-requires : goal.commit_entry-entry-requires
commit_entry-entry-requires c =
    let v = c.requires.0 in
    let m = c.requires.3 in
    record { prepared = (m.is_prepared.name, m.is_prepared.change, m.is_prepared.ready); follows = (v.image, m.holds.streams, m.follows) }

pub returns : goal.returns
returns c = λ v e called m.
    let old = c.args.self.now in
    let r = m.is_prepared in
    let h = m.holds in
    let new : Table = record { alloc = old.alloc; streams = c.commit_entry-entry.new.self; consumers = old.consumers; askers = old.askers } in
    let is = r.ready.record_is in
    commits-write old new v called e c.args.entry c.args.outcome r c.commit_entry-entry.result.0 c.new.result c.commit_entry-entry.result.1
    (c.commit_entry-entry.ensures.entry r.name r.change is) c.new.ensures (c.commit_entry-entry.ensures.notices v.image r.name r.change r.known h.streams m.follows is r.stands)
    h (c.commit_entry-entry.ensures.held v.image h.streams m.follows) refl refl
