use Rattle.std.proofs.Common.{◌≡◌, ℕ, List, [], ◌∷◌, ◌++◌, true, false, Option, Some, None, refl, sym, ap, ◌∙◌, subst}
use Rattle.std.specs.Option.{option_copied}
use Rattle.shard_table.specs.declared.table.Table.{Table}
use Rattle.record_codec.specs.declared.records.Rec.TheVariants.{Create}
use Rattle.shard_machine.specs.Answers.{with_record}
use Rattle.shard_machine.specs.Views.{copies_under}
use Rattle.shard_table.proofs.CommitSteps.{commits-make, shows-made}
use Rattle.shard_table.proofs.table.Table.commit_make.Goals as goal

pub commit_create-requires : goal.commit_create-requires
commit_create-requires c =
    let v = c.requires.0 in
    let m = c.requires.3 in
    record { prepared = (m.is_prepared.config, m.is_prepared.now, m.is_prepared.ready); follows = (v.image, m.holds.streams, m.follows) }

pub asked-packets-requires : goal.asked-packets-requires
asked-packets-requires c = c.requires.3.is_prepared.kept

pub returns : goal.returns
returns c = λ v e called m.
    let old = c.args.self.now in
    let r = m.is_prepared in
    let h = m.holds in
    let new : Table = record { alloc = old.alloc; streams = c.commit_create.new.self; consumers = old.consumers; askers = c.asked-packets.new.self } in
    let w = with_record v (Create r.now r.config) in
    commits-make old new v e c.args.stream c.args.asking r c.asked-packets.result c.new.result c.asked-packets.ensures.packets c.new.ensures
    h (c.commit_create.ensures v.image h.streams m.follows) refl
    (c.asked-packets.ensures.shown w r.now (copies_under w.image r.config.name) (shows-made old.askers v r.config r.now h.askers) r.asked)
