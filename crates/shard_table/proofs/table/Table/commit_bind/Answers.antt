use Rattle.std.proofs.Common.{◌≡◌, ℕ, List, [], ◌∷◌, ◌++◌, true, false, Option, Some, None, refl, sym, ap, ◌∙◌, subst}
use Rattle.std.specs.Option.{option_copied}
use Rattle.shard_table.specs.declared.table.Table.{Table}
use Rattle.shard_machine.specs.Images.{next}
use Rattle.shard_streams.specs.declared.streams.Streams.{Streams}
use Rattle.shard_streams.specs.HeldImages.{HoldsImage}
use Rattle.shard_table.proofs.CommitSteps.{commits-bind}
use Rattle.shard_table.proofs.table.Table.commit_bind.Goals as goal

pub commit_entry-entry-requires : goal.commit_entry-entry-requires
commit_entry-entry-requires c =
    let v = c.requires.0 in
    let m = c.requires.2 in
    record { prepared = (m.is_prepared.hears.copy.stream, m.is_prepared.change, m.is_prepared.hears.ready); follows = (v.image, m.holds.streams, m.follows) }

pub returns : goal.returns
returns c = λ v e m.
    let old = c.args.self.now in
    let r = m.is_prepared in
    let h = m.holds in
    let x = r.hears in
    let is = x.ready.record_is in
    let moved = c.move_on_with.ensures.askers v x.copy x.packet x.now h.askers x.decided.call_is x.decided.copy x.decided.decided in
    commits-bind old c.move_on_with.new.self v c.args.call.now e c.args.entry c.args.decision c.args.notices r c.commit_entry-entry.result.0 c.new.result
    (c.commit_entry-entry.ensures.entry x.copy.stream r.change is) c.new.ensures
    h (subst (λ (y : Streams). HoldsImage y.replay (next v.image c.args.entry.rec)) (sym c.move_on_with.ensures.streams) (c.commit_entry-entry.ensures.held v.image h.streams m.follows)) c.move_on_with.ensures.consumers moved
