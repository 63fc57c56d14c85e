-- The opening that a first load adds.
use Rattle.record_codec.specs.declared.records.Rec.TheVariants.{Boot}
use Rattle.shard_calls.proofs.Devices.{appends-front}
use Rattle.shard_calls.proofs.FaultCounts.{add-fails}
use Rattle.shard_calls.proofs.FirstOpenings.{apart-still, first-apart, first-full, first-keeps, first-may, first-number, first-room, first-since, first-stands, since-still}
use Rattle.shard_calls.proofs.Loading.{below-number, numbers-agree}
use Rattle.shard_calls.proofs.ShardCalls.{place-number}
use Rattle.shard_calls.proofs.opening.open_first.Goals as goal
use Rattle.shard_calls.specs.FirstLoads.{opened_log}
use Rattle.shard_calls.specs.declared.adding.AddFault.TheVariants as fault
use Rattle.shard_machine.specs.Images.{image, next}
use Rattle.shard_table.specs.Effects.{opened}
use Rattle.shard_table.specs.Holding.{Holds}
use Rattle.std.proofs.Common.{Err, Ok, ap, inl, inr, subst, sym, ℕ, ◌+◌, ◌∙◌}

pub open-requires : goal.open-requires
open-requires g c =
    let some = c.requires.replayed in
    let small = place-number c.args.log.now.end (Boot c.saturating_add-number.result) _ c.in-Ok.ensures.ends.0 in
    (some.0, some.1, some.2, below-number c.args.streams.boot _ some.2.boot_is small)

pub returns-in-Ok-clause-keeps : goal.returns-in-Ok-clause-keeps
returns-in-Ok-clause-keeps g c v before holds legal replayed end =
    let is = first-number c.args.log.now c.add_opening.new.log c.args.streams before legal replayed end c.saturating_add-number.result c.saturating_add-number.ensures in
    let numbers = numbers-agree c.args.streams.boot c.saturating_add-number.result is in
    let small = place-number c.args.log.now.end (Boot c.saturating_add-number.result) _ c.in-Ok.ensures.ends.0 in
    let room = sym (first-room c.args.log.now c.add_opening.new.log c.args.streams before legal replayed end c.saturating_add-number.result c.saturating_add-number.ensures _ numbers) ∙ c.in-Ok.ensures.ends.0 in
    let bound = below-number c.args.streams.boot _ replayed.boot_is small in
    let then = c.open.ensures.holds v before holds legal replayed bound in (
      room,
      first-keeps c.args.log.now c.add_opening.new.log c.args.streams before legal replayed end c.saturating_add-number.result c.saturating_add-number.ensures c.open.new.self v c.open.ensures.loaded c.in-Ok.ensures.ends.1
          (subst (λ (k : ℕ). Holds c.open.new.self.table (opened v.node (next (image before) (Boot k)))) (sym (is ∙ ap (λ (k : ℕ). k + 1) replayed.boot_is)) then),
    )

pub returns-in-Ok-clause-stands : goal.returns-in-Ok-clause-stands
returns-in-Ok-clause-stands g c node before tells legal replayed end stands =
    let is = first-number c.args.log.now c.add_opening.new.log c.args.streams before legal replayed end c.saturating_add-number.result c.saturating_add-number.ensures in
    let numbers = numbers-agree c.args.streams.boot c.saturating_add-number.result is in
    let small = place-number c.args.log.now.end (Boot c.saturating_add-number.result) _ c.in-Ok.ensures.ends.0 in
    let may = first-may c.args.log.now c.add_opening.new.log c.args.streams before legal replayed end c.saturating_add-number.result c.saturating_add-number.ensures (sym numbers ∙ small) in
    first-stands c.args.log.now c.add_opening.new.log c.args.streams before legal replayed end c.saturating_add-number.result c.saturating_add-number.ensures g.D.Disk.images node may (c.in-Ok.ensures.disks before tells stands may)

pub returns-in-Ok-clause-any_moment : goal.returns-in-Ok-clause-any_moment
returns-in-Ok-clause-any_moment g c t u before logs tells le le' legal replayed end stands since =
    let is = first-number c.args.log.now c.add_opening.new.log c.args.streams before legal replayed end c.saturating_add-number.result c.saturating_add-number.ensures in
    let numbers = numbers-agree c.args.streams.boot c.saturating_add-number.result is in
    let small = place-number c.args.log.now.end (Boot c.saturating_add-number.result) _ c.in-Ok.ensures.ends.0 in
    let may = first-may c.args.log.now c.add_opening.new.log c.args.streams before legal replayed end c.saturating_add-number.result c.saturating_add-number.ensures (sym numbers ∙ small) in
    first-since c.args.log.now c.add_opening.new.log c.args.streams before legal replayed end c.saturating_add-number.result c.saturating_add-number.ensures g.D.Disk.left_since t u logs (c.in-Ok.ensures.any_moment t u before logs tells le le' stands may since)

pub returns-in-Ok-clause-since_opened : goal.returns-in-Ok-clause-since_opened
returns-in-Ok-clause-since_opened g c t u main spare before logs tells le le' legal replayed end stands untorn untorn' since =
    let is = first-number c.args.log.now c.add_opening.new.log c.args.streams before legal replayed end c.saturating_add-number.result c.saturating_add-number.ensures in
    let numbers = numbers-agree c.args.streams.boot c.saturating_add-number.result is in
    let small = place-number c.args.log.now.end (Boot c.saturating_add-number.result) _ c.in-Ok.ensures.ends.0 in
    let may = first-may c.args.log.now c.add_opening.new.log c.args.streams before legal replayed end c.saturating_add-number.result c.saturating_add-number.ensures (sym numbers ∙ small) in
    first-apart c.args.log.now c.add_opening.new.log c.args.streams before legal replayed end c.saturating_add-number.result c.saturating_add-number.ensures g.D.Disk.seen g.D.Disk.images g.D.Disk.left_since t u main spare logs (c.in-Ok.ensures.since_opened t u main spare before logs tells le le' stands may untorn untorn' since)

pub returns-in-Err-DiskFault-clause-any_moment : goal.returns-in-Err-DiskFault-clause-any_moment
returns-in-Err-DiskFault-clause-any_moment g c t u before logs tells le le' legal replayed end stands since =
    let is = first-number c.args.log.now c.add_opening.new.log c.args.streams before legal replayed end c.saturating_add-number.result c.saturating_add-number.ensures in
    let numbers = numbers-agree c.args.streams.boot c.saturating_add-number.result is in
    let ends = rw c.in-Err-DiskFault.field-0-is at c.in-Err-DiskFault.ensures.ends in
    let small = place-number c.args.log.now.end (Boot c.saturating_add-number.result) _ ends.0 in
    let may = first-may c.args.log.now c.add_opening.new.log c.args.streams before legal replayed end c.saturating_add-number.result c.saturating_add-number.ensures (sym numbers ∙ small) in
    first-since c.args.log.now c.add_opening.new.log c.args.streams before legal replayed end c.saturating_add-number.result c.saturating_add-number.ensures g.D.Disk.left_since t u logs (c.in-Err-DiskFault.ensures.any_moment t u before logs tells le le' stands may since)

pub returns-in-Err-DiskFault-clause-since_opened : goal.returns-in-Err-DiskFault-clause-since_opened
returns-in-Err-DiskFault-clause-since_opened g c t u main spare before logs tells le le' legal replayed end stands untorn untorn' since =
    let is = first-number c.args.log.now c.add_opening.new.log c.args.streams before legal replayed end c.saturating_add-number.result c.saturating_add-number.ensures in
    let numbers = numbers-agree c.args.streams.boot c.saturating_add-number.result is in
    let ends = rw c.in-Err-DiskFault.field-0-is at c.in-Err-DiskFault.ensures.ends in
    let small = place-number c.args.log.now.end (Boot c.saturating_add-number.result) _ ends.0 in
    let may = first-may c.args.log.now c.add_opening.new.log c.args.streams before legal replayed end c.saturating_add-number.result c.saturating_add-number.ensures (sym numbers ∙ small) in
    first-apart c.args.log.now c.add_opening.new.log c.args.streams before legal replayed end c.saturating_add-number.result c.saturating_add-number.ensures g.D.Disk.seen g.D.Disk.images g.D.Disk.left_since t u main spare logs (c.in-Err-DiskFault.ensures.since_opened t u main spare before logs tells le le' stands may untorn untorn' since)

pub returns-in-Err-Full-clause-fault : goal.returns-in-Err-Full-clause-fault
returns-in-Err-Full-clause-fault g c before legal replayed end =
    let is = first-number c.args.log.now c.add_opening.new.log c.args.streams before legal replayed end c.saturating_add-number.result c.saturating_add-number.ensures in
    let numbers = numbers-agree c.args.streams.boot c.saturating_add-number.result is in
    let ends = rw c.in-Err-Full.field-0-is at c.in-Err-Full.ensures.ends in
    let lacks = sym (first-room c.args.log.now c.add_opening.new.log c.args.streams before legal replayed end c.saturating_add-number.result c.saturating_add-number.ensures _ numbers) ∙ ends.0 in
    first-full c.args.log.now c.add_opening.new.log c.args.streams before legal replayed end c.saturating_add-number.result c.saturating_add-number.ensures c.in-Err-Full.end c.in-Err-Full.need _ lacks ends.2 ends.3 c.saturating_add.ensures

pub returns-in-Err-Full-clause-any_moment : goal.returns-in-Err-Full-clause-any_moment
returns-in-Err-Full-clause-any_moment g c t u before logs tells le le' legal replayed end stands since =
    let ends = rw c.in-Err-Full.field-0-is at c.in-Err-Full.ensures.ends in
    since-still g.D.Disk.left_since t u c.args.log.now c.add_opening.new.log (opened_log before) logs ends.1 since

pub returns-in-Err-Full-clause-since_opened : goal.returns-in-Err-Full-clause-since_opened
returns-in-Err-Full-clause-since_opened g c t u main spare before logs tells le le' legal replayed end stands untorn untorn' since =
    let ends = rw c.in-Err-Full.field-0-is at c.in-Err-Full.ensures.ends in
    apart-still g.D.Disk.seen g.D.Disk.images g.D.Disk.left_since t u main spare c.args.log.now c.add_opening.new.log (opened_log before) logs ends.1 since

pub returns-clause-any_moment : goal.returns-clause-any_moment
returns-clause-any_moment g c t u before logs tells le le' legal replayed end stands since =
    let is = first-number c.args.log.now c.add_opening.new.log c.args.streams before legal replayed end c.saturating_add-number.result c.saturating_add-number.ensures in
    let numbers = numbers-agree c.args.streams.boot c.saturating_add-number.result is in
    let ends = rw c.in-Err-NoMemory.field-0-is at c.in-Err-NoMemory.ensures.ends in
    elim ends [
      | inl same ↦ since-still g.D.Disk.left_since t u c.args.log.now c.add_opening.new.log (opened_log before) logs same since
      | inr opened_at ↦ (let small = place-number c.args.log.now.end (Boot c.saturating_add-number.result) _ opened_at.0 in
          let may = first-may c.args.log.now c.add_opening.new.log c.args.streams before legal replayed end c.saturating_add-number.result c.saturating_add-number.ensures (sym numbers ∙ small) in
          first-since c.args.log.now c.add_opening.new.log c.args.streams before legal replayed end c.saturating_add-number.result c.saturating_add-number.ensures g.D.Disk.left_since t u logs (c.in-Err-NoMemory.ensures.any_moment t u before logs tells le le' stands may since))
    ]

pub returns-clause-since_opened : goal.returns-clause-since_opened
returns-clause-since_opened g c t u main spare before logs tells le le' legal replayed end stands untorn untorn' since =
    let is = first-number c.args.log.now c.add_opening.new.log c.args.streams before legal replayed end c.saturating_add-number.result c.saturating_add-number.ensures in
    let numbers = numbers-agree c.args.streams.boot c.saturating_add-number.result is in
    let ends = rw c.in-Err-NoMemory.field-0-is at c.in-Err-NoMemory.ensures.ends in
    elim ends [
      | inl same ↦ apart-still g.D.Disk.seen g.D.Disk.images g.D.Disk.left_since t u main spare c.args.log.now c.add_opening.new.log (opened_log before) logs same since
      | inr opened_at ↦ (let small = place-number c.args.log.now.end (Boot c.saturating_add-number.result) _ opened_at.0 in
          let may = first-may c.args.log.now c.add_opening.new.log c.args.streams before legal replayed end c.saturating_add-number.result c.saturating_add-number.ensures (sym numbers ∙ small) in
          first-apart c.args.log.now c.add_opening.new.log c.args.streams before legal replayed end c.saturating_add-number.result c.saturating_add-number.ensures g.D.Disk.seen g.D.Disk.images g.D.Disk.left_since t u main spare logs (c.in-Err-NoMemory.ensures.since_opened t u main spare before logs tells le le' stands may untorn untorn' since))
    ]

pub returns-in-Ok-clause-cause : goal.returns-in-Ok-clause-cause
returns-in-Ok-clause-cause g c = (add-fails {T = Unit} g.D.Disk.faults c.args.log.now c.add_opening.new.log (Ok tt) c.in-Ok.ensures.disk c.in-Ok.ensures.one c.in-Ok.ensures.cause).0

pub returns-in-Ok-clause-calls : goal.returns-in-Ok-clause-calls
returns-in-Ok-clause-calls g c tells = inr (Boot c.saturating_add-number.result, appends-front g.D.Disk.done c.args.log.now c.add_opening.new.log (Boot c.saturating_add-number.result) c.in-Ok.ensures.disk c.in-Ok.ensures.one (c.in-Ok.ensures.calls tells))

pub returns-in-Err-DiskFault-clause-cause : goal.returns-in-Err-DiskFault-clause-cause
returns-in-Err-DiskFault-clause-cause g c = (add-fails {T = Unit} g.D.Disk.faults c.args.log.now c.add_opening.new.log (Err fault.DiskFault) c.in-Err-DiskFault.ensures.disk c.in-Err-DiskFault.ensures.one (rw c.in-Err-DiskFault.field-0-is at c.in-Err-DiskFault.ensures.cause)).0

pub returns-in-Err-DiskFault-clause-calls : goal.returns-in-Err-DiskFault-clause-calls
returns-in-Err-DiskFault-clause-calls g c tells = inr (Boot c.saturating_add-number.result, appends-front g.D.Disk.done c.args.log.now c.add_opening.new.log (Boot c.saturating_add-number.result) c.in-Err-DiskFault.ensures.disk c.in-Err-DiskFault.ensures.one (c.in-Err-DiskFault.ensures.calls tells))

pub returns-in-Err-Full-clause-cause : goal.returns-in-Err-Full-clause-cause
returns-in-Err-Full-clause-cause g c = (add-fails {T = Unit} g.D.Disk.faults c.args.log.now c.add_opening.new.log (Err (fault.Full c.in-Err-Full.end c.in-Err-Full.need)) c.in-Err-Full.ensures.disk c.in-Err-Full.ensures.one (rw c.in-Err-Full.field-0-is at c.in-Err-Full.ensures.cause)).0

pub returns-in-Err-Full-clause-calls : goal.returns-in-Err-Full-clause-calls
returns-in-Err-Full-clause-calls g c tells = inr (Boot c.saturating_add-number.result, appends-front g.D.Disk.done c.args.log.now c.add_opening.new.log (Boot c.saturating_add-number.result) c.in-Err-Full.ensures.disk c.in-Err-Full.ensures.one (c.in-Err-Full.ensures.calls tells))

pub returns-clause-cause : goal.returns-clause-cause
returns-clause-cause g c = (add-fails {T = Unit} g.D.Disk.faults c.args.log.now c.add_opening.new.log (Err fault.NoMemory) c.in-Err-NoMemory.ensures.disk c.in-Err-NoMemory.ensures.one (rw c.in-Err-NoMemory.field-0-is at c.in-Err-NoMemory.ensures.cause)).0

pub returns-clause-calls : goal.returns-clause-calls
returns-clause-calls g c tells = inr (Boot c.saturating_add-number.result, appends-front g.D.Disk.done c.args.log.now c.add_opening.new.log (Boot c.saturating_add-number.result) c.in-Err-NoMemory.ensures.disk c.in-Err-NoMemory.ensures.one (c.in-Err-NoMemory.ensures.calls tells))
