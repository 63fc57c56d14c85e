use Rattle.record_codec.specs.declared.records.Rec.TheVariants.{Boot}
use Rattle.shard_calls.proofs.CallSteps.{without_memory}
use Rattle.shard_calls.proofs.Devices.{appends-front, opening-of}
use Rattle.shard_calls.proofs.FaultCounts.{add-fails, refusing-causes}
use Rattle.shard_calls.proofs.FirstOpenings.{first-keeps, first-number, first-room, opening-is}
use Rattle.shard_calls.proofs.LogsRead.{kept-off, opening-in-doubt, stays-unread}
use Rattle.shard_calls.proofs.Loading.{below-number, keeps-still, numbers-agree, opening-follows, opening-full, opening-number, opening-room, opens, opens-in-doubt, opens-not, opens-short, parts, streams-small}
use Rattle.shard_calls.proofs.ShardCalls.{place-number}
use Rattle.shard_calls.proofs.Readable.{needs-some}
use Rattle.shard_calls.proofs.calls.begin.Goals as goal
use Rattle.shard_calls.specs.declared.adding.AddFault.TheVariants as fault
use Rattle.record_codec.specs.declared.records.Rec.{Rec}
use Rattle.shard_calls.specs.FirstLoads.{held_of, opened_log}
use Rattle.shard_calls.specs.Memories.{at}
use Rattle.shard_calls.specs.Shards.{Keeps}
use Rattle.shard_machine.specs.Images.{image, next}
use Rattle.shard_machine.specs.declared.reply.ShardRefusal.TheVariants as refusal
use Rattle.shard_table.specs.Effects.{opened}
use Rattle.shard_table.specs.Holding.{Holds}
use Rattle.std.proofs.Common.{Err, List, Ok, Some, ap, inl, inr, refl, subst, sym, ℕ, ◌++◌, ◌+◌, ◌∙◌}

pub open-requires : goal.open-requires
open-requires g c =
    let some = c.requires.replayed in
    let small = place-number c.args.log.now.end (Boot c.saturating_add-number.result) _ c.in-Ok.ensures.ends.0 in
    (some.0, some.1, some.2, below-number c.args.streams.boot _ some.2.boot_is small)

pub returns-in-Ok-clause-on : goal.returns-in-Ok-clause-on
returns-in-Ok-clause-on g c h before settled tells keeps re =
    let is = opening-number c.args.streams.boot c.saturating_add-number.result (streams-small g.D.Disk.images g.D.Disk.moment g.D.Disk.left_since c.args.memory.now c.open.new.self c.args.log.now c.add_opening.new.log c.args.streams h before settled keeps re c.saturating_add-number.result) c.saturating_add-number.ensures in
    let numbers = numbers-agree c.args.streams.boot c.saturating_add-number.result is in
    let small = place-number c.args.log.now.end (Boot c.saturating_add-number.result) _ c.in-Ok.ensures.ends.0 in
    let place = sym (opening-room g.D.Disk.images g.D.Disk.moment g.D.Disk.left_since c.args.memory.now c.open.new.self c.args.log.now c.add_opening.new.log c.args.streams h before settled keeps re c.saturating_add-number.result _ is numbers) ∙ c.in-Ok.ensures.ends.0 in
    let may = opening-follows g.D.Disk.images g.D.Disk.moment g.D.Disk.left_since c.args.memory.now c.open.new.self c.args.log.now c.add_opening.new.log c.args.streams h before settled keeps re c.saturating_add-number.result is (sym numbers ∙ small) in
    let stands = re.stands in
    let held = parts g.D.Disk.images g.D.Disk.moment g.D.Disk.left_since c.args.memory.now c.open.new.self c.args.log.now c.add_opening.new.log c.args.streams h before settled keeps re c.saturating_add-number.result in
    let bound = below-number c.args.streams.boot _ re.replayed.boot_is small in
    let holds = c.open.ensures.holds held.1 (before ++ settled) held.2 re.legal re.replayed bound in
    opens g.D.Disk.images g.D.Disk.moment g.D.Disk.left_since c.args.memory.now c.open.new.self c.args.log.now c.add_opening.new.log c.args.streams h before settled keeps re c.saturating_add-number.result is (c.in-Ok.ensures.later tells) (λ t u logs le le' since. c.in-Ok.ensures.any_moment t u (before ++ settled) logs tells le le' stands may since)
    place may c.in-Ok.ensures.ends.1 (c.in-Ok.ensures.disks (before ++ settled) tells stands may) c.open.ensures.loaded
    (subst (λ (k : ℕ). Holds c.open.new.self.table (opened held.1.node (next (image (before ++ settled)) (Boot k)))) (sym (is ∙ ap (λ (k : ℕ). k + 1) re.replayed.boot_is)) holds) _ refl

pub returns-in-Err-DiskFault-clause-on : goal.returns-in-Err-DiskFault-clause-on
returns-in-Err-DiskFault-clause-on g c h before settled tells keeps re =
    let is = opening-number c.args.streams.boot c.saturating_add-number.result (streams-small g.D.Disk.images g.D.Disk.moment g.D.Disk.left_since c.args.memory.now c.leave_opening_in_doubt.new.self c.args.log.now c.add_opening.new.log c.args.streams h before settled keeps re c.saturating_add-number.result) c.saturating_add-number.ensures in
    let numbers = numbers-agree c.args.streams.boot c.saturating_add-number.result is in
    let ends = rw c.in-Err-DiskFault.field-0-is at c.in-Err-DiskFault.ensures.ends in
    let small = place-number c.args.log.now.end (Boot c.saturating_add-number.result) _ ends.0 in
    let place = sym (opening-room g.D.Disk.images g.D.Disk.moment g.D.Disk.left_since c.args.memory.now c.leave_opening_in_doubt.new.self c.args.log.now c.add_opening.new.log c.args.streams h before settled keeps re c.saturating_add-number.result _ is numbers) ∙ ends.0 in
    let may = opening-follows g.D.Disk.images g.D.Disk.moment g.D.Disk.left_since c.args.memory.now c.leave_opening_in_doubt.new.self c.args.log.now c.add_opening.new.log c.args.streams h before settled keeps re c.saturating_add-number.result is (sym numbers ∙ small) in
    let stands = re.stands in
    let held = parts g.D.Disk.images g.D.Disk.moment g.D.Disk.left_since c.args.memory.now c.leave_opening_in_doubt.new.self c.args.log.now c.add_opening.new.log c.args.streams h before settled keeps re c.saturating_add-number.result in
    let disks = rw c.in-Err-DiskFault.field-0-is at (c.in-Err-DiskFault.ensures.disks (before ++ settled) tells stands may) in
    let holds = c.leave_opening_in_doubt.ensures.holds held.1 (before ++ settled) held.2 re.legal re.replayed in
    rw c.refusing.ensures (opens-in-doubt g.D.Disk.images g.D.Disk.moment g.D.Disk.left_since c.args.memory.now c.leave_opening_in_doubt.new.self c.args.log.now c.add_opening.new.log c.args.streams h before settled keeps re c.saturating_add-number.result is (c.in-Err-DiskFault.ensures.later tells) (λ t u logs le le' since. c.in-Err-DiskFault.ensures.any_moment t u (before ++ settled) logs tells le le' stands may since)
    place disks c.leave_opening_in_doubt.ensures.loaded c.leave_opening_in_doubt.ensures.doubt holds)

pub returns-in-Err-Full-clause-on : goal.returns-in-Err-Full-clause-on
returns-in-Err-Full-clause-on g c h before settled tells keeps re =
    let is = opening-number c.args.streams.boot c.saturating_add-number.result (streams-small g.D.Disk.images g.D.Disk.moment g.D.Disk.left_since c.args.memory.now c.args.memory.now c.args.log.now c.add_opening.new.log c.args.streams h before settled keeps re c.saturating_add-number.result) c.saturating_add-number.ensures in
    let numbers = numbers-agree c.args.streams.boot c.saturating_add-number.result is in
    let ends = rw c.in-Err-Full.field-0-is at c.in-Err-Full.ensures.ends in
    let lacks = sym (opening-room g.D.Disk.images g.D.Disk.moment g.D.Disk.left_since c.args.memory.now c.args.memory.now c.args.log.now c.add_opening.new.log c.args.streams h before settled keeps re c.saturating_add-number.result _ is numbers) ∙ ends.0 in
    rw c.refusing-in-Err-Full.ensures (opens-not g.D.Disk.images g.D.Disk.moment g.D.Disk.left_since c.args.memory.now c.args.memory.now c.args.log.now c.add_opening.new.log c.args.streams h before settled keeps re c.saturating_add-number.result (record { why = refusal.JournalFull c.in-Err-Full.end c.in-Err-Full.need; doubted = _ }) (opening-full g.D.Disk.images g.D.Disk.moment g.D.Disk.left_since c.args.memory.now c.args.memory.now c.args.log.now c.add_opening.new.log c.args.streams h before settled keeps re c.saturating_add-number.result c.in-Err-Full.end c.in-Err-Full.need is lacks ends.2 ends.3) ends.1 refl)

pub returns-in-Err-NoMemory-clause-on : goal.returns-in-Err-NoMemory-clause-on
returns-in-Err-NoMemory-clause-on g c h before settled tells keeps re =
    let is = opening-number c.args.streams.boot c.saturating_add-number.result (streams-small g.D.Disk.images g.D.Disk.moment g.D.Disk.left_since c.args.memory.now c.args.memory.now c.args.log.now c.add_opening.new.log c.args.streams h before settled keeps re c.saturating_add-number.result) c.saturating_add-number.ensures in
    let numbers = numbers-agree c.args.streams.boot c.saturating_add-number.result is in
    let ends = rw c.in-Err-NoMemory.field-0-is at c.in-Err-NoMemory.ensures.ends in
    let stands = re.stands in
    elim ends [
      | inl same ↦ rw c.refusing-in-Err-NoMemory.ensures (opens-not g.D.Disk.images g.D.Disk.moment g.D.Disk.left_since c.args.memory.now c.args.memory.now c.args.log.now c.add_opening.new.log c.args.streams h before settled keeps re c.saturating_add-number.result (record { why = refusal.NoMemory; doubted = _ }) (λ called. without_memory h called) same refl)
      | inr opened_at ↦ (let small = place-number c.args.log.now.end (Boot c.saturating_add-number.result) _ opened_at.0 in
          let may = opening-follows g.D.Disk.images g.D.Disk.moment g.D.Disk.left_since c.args.memory.now c.args.memory.now c.args.log.now c.add_opening.new.log c.args.streams h before settled keeps re c.saturating_add-number.result is (sym numbers ∙ small) in
          let disks = rw c.in-Err-NoMemory.field-0-is at (c.in-Err-NoMemory.ensures.disks (before ++ settled) tells stands may) in
          rw c.refusing-in-Err-NoMemory.ensures (opens-short g.D.Disk.images g.D.Disk.moment g.D.Disk.left_since c.args.memory.now c.args.memory.now c.args.log.now c.add_opening.new.log c.args.streams h before settled keeps re c.saturating_add-number.result is (c.in-Err-NoMemory.ensures.later tells) (λ t u logs le le' since. c.in-Err-NoMemory.ensures.any_moment t u (before ++ settled) logs tells le le' stands may since) refl disks))
    ]

pub returns-in-Ok-clause-cause : goal.returns-in-Ok-clause-cause
returns-in-Ok-clause-cause g c = add-fails {T = Unit} g.D.Disk.faults c.args.log.now c.add_opening.new.log (Ok tt) c.in-Ok.ensures.disk c.in-Ok.ensures.one c.in-Ok.ensures.cause

pub returns-in-Ok-clause-calls : goal.returns-in-Ok-clause-calls
returns-in-Ok-clause-calls g c tells = inr (Boot c.saturating_add-number.result, appends-front g.D.Disk.done c.args.log.now c.add_opening.new.log (Boot c.saturating_add-number.result) c.in-Ok.ensures.disk c.in-Ok.ensures.one (c.in-Ok.ensures.calls tells))

pub returns-in-Err-DiskFault-clause-cause : goal.returns-in-Err-DiskFault-clause-cause
returns-in-Err-DiskFault-clause-cause g c = refusing-causes g.D.Disk.faults c.args.log.now c.add_opening.new.log c.refusing.result _ c.refusing.ensures (add-fails {T = Unit} g.D.Disk.faults c.args.log.now c.add_opening.new.log (Err fault.DiskFault) c.in-Err-DiskFault.ensures.disk c.in-Err-DiskFault.ensures.one (rw c.in-Err-DiskFault.field-0-is at c.in-Err-DiskFault.ensures.cause))

pub returns-in-Err-DiskFault-clause-calls : goal.returns-in-Err-DiskFault-clause-calls
returns-in-Err-DiskFault-clause-calls g c tells = inr (Boot c.saturating_add-number.result, appends-front g.D.Disk.done c.args.log.now c.add_opening.new.log (Boot c.saturating_add-number.result) c.in-Err-DiskFault.ensures.disk c.in-Err-DiskFault.ensures.one (c.in-Err-DiskFault.ensures.calls tells))

pub returns-in-Err-Full-clause-cause : goal.returns-in-Err-Full-clause-cause
returns-in-Err-Full-clause-cause g c = refusing-causes g.D.Disk.faults c.args.log.now c.add_opening.new.log c.refusing-in-Err-Full.result _ c.refusing-in-Err-Full.ensures (add-fails {T = Unit} g.D.Disk.faults c.args.log.now c.add_opening.new.log (Err (fault.Full c.in-Err-Full.end c.in-Err-Full.need)) c.in-Err-Full.ensures.disk c.in-Err-Full.ensures.one (rw c.in-Err-Full.field-0-is at c.in-Err-Full.ensures.cause))

pub returns-in-Err-Full-clause-calls : goal.returns-in-Err-Full-clause-calls
returns-in-Err-Full-clause-calls g c tells = inr (Boot c.saturating_add-number.result, appends-front g.D.Disk.done c.args.log.now c.add_opening.new.log (Boot c.saturating_add-number.result) c.in-Err-Full.ensures.disk c.in-Err-Full.ensures.one (c.in-Err-Full.ensures.calls tells))

pub returns-in-Err-NoMemory-clause-cause : goal.returns-in-Err-NoMemory-clause-cause
returns-in-Err-NoMemory-clause-cause g c = refusing-causes g.D.Disk.faults c.args.log.now c.add_opening.new.log c.refusing-in-Err-NoMemory.result _ c.refusing-in-Err-NoMemory.ensures (add-fails {T = Unit} g.D.Disk.faults c.args.log.now c.add_opening.new.log (Err fault.NoMemory) c.in-Err-NoMemory.ensures.disk c.in-Err-NoMemory.ensures.one (rw c.in-Err-NoMemory.field-0-is at c.in-Err-NoMemory.ensures.cause))

pub returns-in-Err-NoMemory-clause-calls : goal.returns-in-Err-NoMemory-clause-calls
returns-in-Err-NoMemory-clause-calls g c tells = inr (Boot c.saturating_add-number.result, appends-front g.D.Disk.done c.args.log.now c.add_opening.new.log (Boot c.saturating_add-number.result) c.in-Err-NoMemory.ensures.disk c.in-Err-NoMemory.ensures.one (c.in-Err-NoMemory.ensures.calls tells))

pub returns-in-Ok-clause-opens : goal.returns-in-Ok-clause-opens
returns-in-Ok-clause-opens g c h before settled tells keeps re = opening-of g.D.Disk.images g.D.Disk.done c.args.memory.now c.args.log.now c.add_opening.new.log c.args.streams h before settled keeps re c.saturating_add-number.result c.saturating_add-number.ensures
    (appends-front g.D.Disk.done c.args.log.now c.add_opening.new.log (Boot c.saturating_add-number.result) c.in-Ok.ensures.disk c.in-Ok.ensures.one (c.in-Ok.ensures.calls tells))

pub returns-in-Err-DiskFault-clause-opens : goal.returns-in-Err-DiskFault-clause-opens
returns-in-Err-DiskFault-clause-opens g c h before settled tells keeps re = opening-of g.D.Disk.images g.D.Disk.done c.args.memory.now c.args.log.now c.add_opening.new.log c.args.streams h before settled keeps re c.saturating_add-number.result c.saturating_add-number.ensures
    (appends-front g.D.Disk.done c.args.log.now c.add_opening.new.log (Boot c.saturating_add-number.result) c.in-Err-DiskFault.ensures.disk c.in-Err-DiskFault.ensures.one (c.in-Err-DiskFault.ensures.calls tells))

pub returns-in-Err-Full-clause-opens : goal.returns-in-Err-Full-clause-opens
returns-in-Err-Full-clause-opens g c h before settled tells keeps re = opening-of g.D.Disk.images g.D.Disk.done c.args.memory.now c.args.log.now c.add_opening.new.log c.args.streams h before settled keeps re c.saturating_add-number.result c.saturating_add-number.ensures
    (appends-front g.D.Disk.done c.args.log.now c.add_opening.new.log (Boot c.saturating_add-number.result) c.in-Err-Full.ensures.disk c.in-Err-Full.ensures.one (c.in-Err-Full.ensures.calls tells))

pub returns-in-Err-NoMemory-clause-opens : goal.returns-in-Err-NoMemory-clause-opens
returns-in-Err-NoMemory-clause-opens g c h before settled tells keeps re = opening-of g.D.Disk.images g.D.Disk.done c.args.memory.now c.args.log.now c.add_opening.new.log c.args.streams h before settled keeps re c.saturating_add-number.result c.saturating_add-number.ensures
    (appends-front g.D.Disk.done c.args.log.now c.add_opening.new.log (Boot c.saturating_add-number.result) c.in-Err-NoMemory.ensures.disk c.in-Err-NoMemory.ensures.one (c.in-Err-NoMemory.ensures.calls tells))

pub returns-in-Ok-clause-read : goal.returns-in-Ok-clause-read
returns-in-Ok-clause-read g c h before keeps off legal replayed end =
    let is = first-number c.args.log.now c.add_opening.new.log c.args.streams before legal replayed end c.saturating_add-number.result c.saturating_add-number.ensures in
    let numbers = numbers-agree c.args.streams.boot c.saturating_add-number.result is in
    let small = place-number c.args.log.now.end (Boot c.saturating_add-number.result) _ c.in-Ok.ensures.ends.0 in
    let bound = below-number c.args.streams.boot _ replayed.boot_is small in
    let was = kept-off c.args.memory.now c.args.log.now h keeps off in
    let then = c.open.ensures.holds was.1 before was.2 legal replayed bound in
    let kept = first-keeps c.args.log.now c.add_opening.new.log c.args.streams before legal replayed end c.saturating_add-number.result c.saturating_add-number.ensures c.open.new.self was.1 c.open.ensures.loaded c.in-Ok.ensures.ends.1
    (subst (λ (k : ℕ). Holds c.open.new.self.table (opened was.1.node (next (image before) (Boot k)))) (sym (is ∙ ap (λ (k : ℕ). k + 1) replayed.boot_is)) then) in
    record {
      log = before;
      legal = legal;
      room = sym (first-room c.args.log.now c.add_opening.new.log c.args.streams before legal replayed end c.saturating_add-number.result c.saturating_add-number.ensures _ numbers) ∙ c.in-Ok.ensures.ends.0;
      keeps = subst (λ (node : List ℕ). Keeps (at c.open.new.self c.add_opening.new.log) (held_of node (opened_log before))) was.3 kept;
    }

pub returns-in-Err-DiskFault-clause-read : goal.returns-in-Err-DiskFault-clause-read
returns-in-Err-DiskFault-clause-read g c h before keeps off legal replayed end =
    let is = first-number c.args.log.now c.add_opening.new.log c.args.streams before legal replayed end c.saturating_add-number.result c.saturating_add-number.ensures in
    let numbers = numbers-agree c.args.streams.boot c.saturating_add-number.result is in
    let ends = rw c.in-Err-DiskFault.field-0-is at c.in-Err-DiskFault.ensures.ends in
    let was = kept-off c.args.memory.now c.args.log.now h keeps off in
    rw c.refusing.ensures (opening-in-doubt c.args.memory.now c.leave_opening_in_doubt.new.self c.args.log.now c.add_opening.new.log h before keeps off legal (sym (first-room c.args.log.now c.add_opening.new.log c.args.streams before legal replayed end c.saturating_add-number.result c.saturating_add-number.ensures _ numbers) ∙ ends.0)
    c.leave_opening_in_doubt.ensures.loaded (c.leave_opening_in_doubt.ensures.doubt ∙ ap (λ (r : Rec). Some r) (opening-is c.args.log.now c.add_opening.new.log c.args.streams before legal replayed end c.saturating_add-number.result c.saturating_add-number.ensures)) (c.leave_opening_in_doubt.ensures.holds was.1 before was.2 legal replayed))

pub returns-in-Err-Full-clause-read : goal.returns-in-Err-Full-clause-read
returns-in-Err-Full-clause-read g c h before keeps off legal replayed end =
    rw c.refusing-in-Err-Full.ensures (stays-unread (at c.args.memory.now c.add_opening.new.log) h (refusal.JournalFull c.in-Err-Full.end c.in-Err-Full.need) _ (keeps-still c.args.memory.now c.args.memory.now c.args.log.now c.add_opening.new.log h keeps off refl (sym keeps.loaded ∙ off) refl) refl)

pub returns-in-Err-NoMemory-clause-read : goal.returns-in-Err-NoMemory-clause-read
returns-in-Err-NoMemory-clause-read g c h before keeps off legal replayed end =
    rw c.refusing-in-Err-NoMemory.ensures (stays-unread (at c.args.memory.now c.add_opening.new.log) h refusal.NoMemory _ (keeps-still c.args.memory.now c.args.memory.now c.args.log.now c.add_opening.new.log h keeps off refl (sym keeps.loaded ∙ off) refl) refl)

pub returns-in-Err-DiskFault-clause-stood : goal.returns-in-Err-DiskFault-clause-stood
returns-in-Err-DiskFault-clause-stood g c = rw c.refusing.ensures refl

pub returns-in-Err-Full-clause-stood : goal.returns-in-Err-Full-clause-stood
returns-in-Err-Full-clause-stood g c =
    let ends = rw c.in-Err-Full.field-0-is at c.in-Err-Full.ensures.ends in
    rw c.refusing-in-Err-Full.ensures (needs-some c.in-Err-Full.need _ ends.3)

pub returns-in-Err-NoMemory-clause-stood : goal.returns-in-Err-NoMemory-clause-stood
returns-in-Err-NoMemory-clause-stood g c = rw c.refusing-in-Err-NoMemory.ensures refl
