use Rattle.std.proofs.Common.{◌≡◌, ℕ, List, [], ◌∷◌, ◌++◌, true, false, Option, Some, None, refl, sym, ap, ◌∙◌, subst}
use Rattle.std.specs.Option.{option_copied}
use Rattle.shard_table.specs.declared.table.Table.{Table}
use Rattle.std.specs.Prelude.{IsSome}
use Rattle.shard_table.proofs.Decided.{prepares-bind}
use Rattle.shard_table.proofs.Moving.{holds-streams}
use Rattle.shard_table.proofs.table.Table.bind_ready.Goals as goal

pub prepare_entry-requires : goal.prepare_entry-requires
prepare_entry-requires c =
    let v = c.requires.0 in
    (v.image, c.requires.3.streams, subst IsSome (sym c.requires.4.stands) refl)

pub returns-in-Ok : goal.returns-in-Ok
returns-in-Ok c = λ v packet now h x same told.
    let new : Table = record { alloc = c.args.self.now.alloc; streams = c.prepare_entry.new.self; consumers = c.args.self.now.consumers; askers = c.args.self.now.askers } in
    prepares-bind new v c.args.id.now packet now c.args.entry c.args.copy c.args.notices c.in-Ok.prepared x same told c.in-Ok.ensures.ok (holds-streams c.args.self.now new v h (c.prepare_entry.ensures.held v.image h.streams) refl refl)

pub returns-in-Err : goal.returns-in-Err
returns-in-Err c = λ v packet now h x same told.
    let new : Table = record { alloc = c.args.self.now.alloc; streams = c.prepare_entry.new.self; consumers = c.args.self.now.consumers; askers = c.args.self.now.askers } in
    (tt, holds-streams c.args.self.now new v h (c.prepare_entry.ensures.held v.image h.streams) refl refl)
