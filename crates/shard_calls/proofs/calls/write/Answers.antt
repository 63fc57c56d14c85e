use Rattle.record_codec.specs.declared.records.Rec.{Rec}
use Rattle.shard_calls.proofs.CallSteps.{without_memory}
use Rattle.shard_calls.proofs.Devices.{appends-front}
use Rattle.shard_calls.proofs.FaultCounts.{add-fails, none-said, refused-causes, reply-faultless}
use Rattle.shard_calls.proofs.ShardCalls.{added-from, added-on, fault-from, fault-on, has-none, may-follow, place-number, room-is, same-from, same-on, short-from, short-on, stands-alone, written}
use Rattle.shard_calls.proofs.calls.write.Goals as goal
use Rattle.shard_calls.specs.Causes.{is_fault}
use Rattle.shard_calls.specs.DeviceCalls.{AppendsFront}
use Rattle.shard_calls.specs.declared.adding.AddFault.TheVariants as fault
use Rattle.shard_machine.specs.Steps.{entry_of, has_number, view_in}
use Rattle.shard_machine.specs.declared.reply.ShardRefusal.TheVariants as refusal
use Rattle.shard_table.specs.Effects.{opened}
use Rattle.std.proofs.Common.{Err, None, Ok, Some, ap, inl, inr, refl, subst, sym, ◌∙◌}

pub commit-requires-clause-ready : goal.commit-requires-clause-ready
commit-requires-clause-ready g c =
    let some = c.requires.is_prepared in
    let number = place-number c.args.log.now.end c.record-2.result.now c.has_number-numbered.result c.in-Ok.ensures.ends.0 in
    (some.0, some.1, some.2, sym (c.has_number-numbered.ensures some.0 some.2.holds ∙ ap (has_number some.0.image) c.record.ensures) ∙ number)

pub returns-in-Ok : goal.returns-in-Ok
returns-in-Ok g c =
    let small = place-number c.args.log.now.end c.record-2.result.now c.has_number-numbered.result c.in-Ok.ensures.ends.0 in
    record {
      loaded = λ h e keeps ready.
          let w = (written c.args.memory.now c.args.log.now c.args.call.now h e c.args.prepared c.record-2.result.now c.requires.loaded keeps ready c.record-2.ensures) in
          let number = (c.has_number-numbered.ensures (view_in h) ready.holds ∙ ap (has_number h.image) (c.record.ensures ∙ sym c.record-2.ensures)) in
          let done = c.commit.ensures.done (view_in h) e ready (sym (c.has_number-numbered.ensures (view_in h) ready.holds ∙ ap (has_number h.image) c.record.ensures) ∙ small) in
          added-from g.D.Disk.images g.D.Disk.moment g.D.Disk.left_since c.args.memory.now c.commit.new.self c.args.log.now c.add.new.log c.args.call.now h e c.record-2.result.now w c.commit.result c.commit.ensures.loaded (sym (room-is g.D.Disk.images g.D.Disk.moment g.D.Disk.left_since c.args.memory.now c.commit.new.self c.args.log.now c.add.new.log c.args.call.now h e c.record-2.result.now w c.has_number-numbered.result number) ∙ c.in-Ok.ensures.ends.0) c.in-Ok.ensures.ends.1 done.0 done.1;
      on = λ h e before tells keeps is ready.
          let w = (written c.args.memory.now c.args.log.now c.args.call.now h e c.args.prepared c.record-2.result.now c.requires.loaded keeps ready c.record-2.ensures) in
          let number = (c.has_number-numbered.ensures (view_in h) ready.holds ∙ ap (has_number h.image) (c.record.ensures ∙ sym c.record-2.ensures)) in
          let done = c.commit.ensures.done (view_in h) e ready (sym (c.has_number-numbered.ensures (view_in h) ready.holds ∙ ap (has_number h.image) c.record.ensures) ∙ small) in
          let may = may-follow g.D.Disk.images g.D.Disk.moment g.D.Disk.left_since c.args.memory.now c.commit.new.self c.args.log.now c.add.new.log c.args.call.now h e c.record-2.result.now w before is (sym number ∙ small) in
          let stands = stands-alone g.D.Disk.images g.D.Disk.moment g.D.Disk.left_since c.args.memory.now c.commit.new.self c.args.log.now c.add.new.log c.args.call.now h e c.record-2.result.now w before is in
          added-on g.D.Disk.images g.D.Disk.moment g.D.Disk.left_since c.args.memory.now c.commit.new.self c.args.log.now c.add.new.log c.args.call.now h e c.record-2.result.now w c.commit.result c.commit.ensures.loaded (sym (room-is g.D.Disk.images g.D.Disk.moment g.D.Disk.left_since c.args.memory.now c.commit.new.self c.args.log.now c.add.new.log c.args.call.now h e c.record-2.result.now w c.has_number-numbered.result number) ∙ c.in-Ok.ensures.ends.0) c.in-Ok.ensures.ends.1 done.0 done.1 before is may (c.in-Ok.ensures.disks before tells stands may) (c.in-Ok.ensures.later tells) (λ t u logs le le' since. c.in-Ok.ensures.any_moment t u before logs tells le le' stands may since);
      cause = (let some = c.requires.is_prepared in
          let done = c.commit.ensures.done some.0 some.1 some.2 (sym (c.has_number-numbered.ensures some.0 some.2.holds ∙ ap (has_number some.0.image) c.record.ensures) ∙ small) in
          none-said g.D.Disk.faults c.args.log.now c.add.new.log (is_fault c.commit.result.outcome) (reply-faultless some.0 c.args.call.now some.1 c.commit.result some.2.answers done.0) (add-fails {T = Unit} g.D.Disk.faults c.args.log.now c.add.new.log (Ok tt) c.in-Ok.ensures.disk c.in-Ok.ensures.one c.in-Ok.ensures.cause));
      calls = λ tells. subst (λ (r : Rec). AppendsFront g.D.Disk.done c.args.log.now c.add.new.log r) c.record-2.ensures (appends-front g.D.Disk.done c.args.log.now c.add.new.log c.record-2.result.now c.in-Ok.ensures.disk c.in-Ok.ensures.one (c.in-Ok.ensures.calls tells));
      leads = c.in-Ok.ensures.leads;
    }

pub returns-in-Err-DiskFault : goal.returns-in-Err-DiskFault
returns-in-Err-DiskFault g c =
    let ends = rw c.in-Err-DiskFault.field-0-is at c.in-Err-DiskFault.ensures.ends in
    let small = place-number c.args.log.now.end c.record-2.result.now c.has_number-numbered.result ends.0 in
    let doubted = c.leave_in_doubt-doubted.ensures.doubt ∙ ap (λ (r : Rec). Some r) (sym c.record-2.ensures) in
    let entry = c.leave_in_doubt-doubted.ensures.entry ∙ ap entry_of (sym c.record-2.ensures) in
    let replies = rw entry at c.refused.ensures in
    record {
      loaded = λ h e keeps ready.
          let w = (written c.args.memory.now c.args.log.now c.args.call.now h e c.args.prepared c.record-2.result.now c.requires.loaded keeps ready c.record-2.ensures) in
          let number = (c.has_number-numbered.ensures (view_in h) ready.holds ∙ ap (has_number h.image) (c.record.ensures ∙ sym c.record-2.ensures)) in
          fault-from g.D.Disk.images g.D.Disk.moment g.D.Disk.left_since c.args.memory.now c.leave_in_doubt-doubted.new.self c.args.log.now c.add.new.log c.args.call.now h e c.record-2.result.now w c.refused.result c.leave_in_doubt-doubted.ensures.loaded doubted c.leave_in_doubt-doubted.ensures.table (sym (room-is g.D.Disk.images g.D.Disk.moment g.D.Disk.left_since c.args.memory.now c.leave_in_doubt-doubted.new.self c.args.log.now c.add.new.log c.args.call.now h e c.record-2.result.now w c.has_number-numbered.result number) ∙ ends.0) replies;
      on = λ h e before tells keeps is ready.
          let w = (written c.args.memory.now c.args.log.now c.args.call.now h e c.args.prepared c.record-2.result.now c.requires.loaded keeps ready c.record-2.ensures) in
          let number = (c.has_number-numbered.ensures (view_in h) ready.holds ∙ ap (has_number h.image) (c.record.ensures ∙ sym c.record-2.ensures)) in
          let may = may-follow g.D.Disk.images g.D.Disk.moment g.D.Disk.left_since c.args.memory.now c.leave_in_doubt-doubted.new.self c.args.log.now c.add.new.log c.args.call.now h e c.record-2.result.now w before is (sym number ∙ small) in
          let stands = stands-alone g.D.Disk.images g.D.Disk.moment g.D.Disk.left_since c.args.memory.now c.leave_in_doubt-doubted.new.self c.args.log.now c.add.new.log c.args.call.now h e c.record-2.result.now w before is in
          let disks = rw c.in-Err-DiskFault.field-0-is at (c.in-Err-DiskFault.ensures.disks before tells stands may) in
          fault-on g.D.Disk.images g.D.Disk.moment g.D.Disk.left_since c.args.memory.now c.leave_in_doubt-doubted.new.self c.args.log.now c.add.new.log c.args.call.now h e c.record-2.result.now w c.refused.result c.leave_in_doubt-doubted.ensures.loaded doubted c.leave_in_doubt-doubted.ensures.table (sym (room-is g.D.Disk.images g.D.Disk.moment g.D.Disk.left_since c.args.memory.now c.leave_in_doubt-doubted.new.self c.args.log.now c.add.new.log c.args.call.now h e c.record-2.result.now w c.has_number-numbered.result number) ∙ ends.0) replies before is disks (c.in-Err-DiskFault.ensures.later tells) (λ t u logs le le' since. c.in-Err-DiskFault.ensures.any_moment t u before logs tells le le' stands may since);
      cause = refused-causes g.D.Disk.faults c.args.log.now c.add.new.log c.args.call.now refusal.DiskFault c.leave_in_doubt-doubted.result c.refused.result c.refused.ensures (add-fails {T = Unit} g.D.Disk.faults c.args.log.now c.add.new.log (Err fault.DiskFault) c.in-Err-DiskFault.ensures.disk c.in-Err-DiskFault.ensures.one (rw c.in-Err-DiskFault.field-0-is at c.in-Err-DiskFault.ensures.cause));
      calls = λ tells. subst (λ (r : Rec). AppendsFront g.D.Disk.done c.args.log.now c.add.new.log r) c.record-2.ensures (appends-front g.D.Disk.done c.args.log.now c.add.new.log c.record-2.result.now c.in-Err-DiskFault.ensures.disk c.in-Err-DiskFault.ensures.one (c.in-Err-DiskFault.ensures.calls tells));
      leads = c.in-Err-DiskFault.ensures.leads;
    }

pub returns-in-Err-Full : goal.returns-in-Err-Full
returns-in-Err-Full g c =
    let ends = rw c.in-Err-Full.field-0-is at c.in-Err-Full.ensures.ends in
    record {
      loaded = λ h e keeps ready.
          let w = (written c.args.memory.now c.args.log.now c.args.call.now h e c.args.prepared c.record-2.result.now c.requires.loaded keeps ready c.record-2.ensures) in
          let number = (c.has_number-numbered.ensures (view_in h) ready.holds ∙ ap (has_number h.image) (c.record.ensures ∙ sym c.record-2.ensures)) in
          let none = has-none g.D.Disk.images g.D.Disk.moment g.D.Disk.left_since c.args.memory.now c.args.memory.now c.args.log.now c.add.new.log c.args.call.now h e c.record-2.result.now w c.in-Err-Full.end c.in-Err-Full.need (sym (room-is g.D.Disk.images g.D.Disk.moment g.D.Disk.left_since c.args.memory.now c.args.memory.now c.args.log.now c.add.new.log c.args.call.now h e c.record-2.result.now w c.has_number-numbered.result number) ∙ ends.0) ends.2 ends.3 in
          same-from g.D.Disk.images g.D.Disk.moment g.D.Disk.left_since c.args.memory.now c.args.memory.now c.args.log.now c.add.new.log c.args.call.now h e c.record-2.result.now w (refusal.JournalFull c.in-Err-Full.end c.in-Err-Full.need) c.refused-in-Err-Full.result none ends.1 refl c.refused-in-Err-Full.ensures;
      on = λ h e before tells keeps is ready.
          let w = (written c.args.memory.now c.args.log.now c.args.call.now h e c.args.prepared c.record-2.result.now c.requires.loaded keeps ready c.record-2.ensures) in
          let number = (c.has_number-numbered.ensures (view_in h) ready.holds ∙ ap (has_number h.image) (c.record.ensures ∙ sym c.record-2.ensures)) in
          let none = has-none g.D.Disk.images g.D.Disk.moment g.D.Disk.left_since c.args.memory.now c.args.memory.now c.args.log.now c.add.new.log c.args.call.now h e c.record-2.result.now w c.in-Err-Full.end c.in-Err-Full.need (sym (room-is g.D.Disk.images g.D.Disk.moment g.D.Disk.left_since c.args.memory.now c.args.memory.now c.args.log.now c.add.new.log c.args.call.now h e c.record-2.result.now w c.has_number-numbered.result number) ∙ ends.0) ends.2 ends.3 in
          same-on g.D.Disk.images g.D.Disk.moment g.D.Disk.left_since c.args.memory.now c.args.memory.now c.args.log.now c.add.new.log c.args.call.now h e c.record-2.result.now w (refusal.JournalFull c.in-Err-Full.end c.in-Err-Full.need) c.refused-in-Err-Full.result none ends.1 refl c.refused-in-Err-Full.ensures before is;
      cause = refused-causes g.D.Disk.faults c.args.log.now c.add.new.log c.args.call.now (refusal.JournalFull c.in-Err-Full.end c.in-Err-Full.need) None c.refused-in-Err-Full.result c.refused-in-Err-Full.ensures (add-fails {T = Unit} g.D.Disk.faults c.args.log.now c.add.new.log (Err (fault.Full c.in-Err-Full.end c.in-Err-Full.need)) c.in-Err-Full.ensures.disk c.in-Err-Full.ensures.one (rw c.in-Err-Full.field-0-is at c.in-Err-Full.ensures.cause));
      calls = λ tells. subst (λ (r : Rec). AppendsFront g.D.Disk.done c.args.log.now c.add.new.log r) c.record-2.ensures (appends-front g.D.Disk.done c.args.log.now c.add.new.log c.record-2.result.now c.in-Err-Full.ensures.disk c.in-Err-Full.ensures.one (c.in-Err-Full.ensures.calls tells));
      leads = c.in-Err-Full.ensures.leads;
    }

pub returns-in-Err-NoMemory : goal.returns-in-Err-NoMemory
returns-in-Err-NoMemory g c =
    let ends = rw c.in-Err-NoMemory.field-0-is at c.in-Err-NoMemory.ensures.ends in
    record {
      loaded = λ h e keeps ready.
          let w = (written c.args.memory.now c.args.log.now c.args.call.now h e c.args.prepared c.record-2.result.now c.requires.loaded keeps ready c.record-2.ensures) in
          let number = (c.has_number-numbered.ensures (view_in h) ready.holds ∙ ap (has_number h.image) (c.record.ensures ∙ sym c.record-2.ensures)) in
          elim ends [
            | inl same ↦ same-from g.D.Disk.images g.D.Disk.moment g.D.Disk.left_since c.args.memory.now c.args.memory.now c.args.log.now c.add.new.log c.args.call.now h e c.record-2.result.now w refusal.NoMemory c.refused-in-Err-NoMemory.result (without_memory h c.args.call.now) same refl c.refused-in-Err-NoMemory.ensures
            | inr opened ↦ short-from g.D.Disk.images g.D.Disk.moment g.D.Disk.left_since c.args.memory.now c.args.memory.now c.args.log.now c.add.new.log c.args.call.now h e c.record-2.result.now w c.refused-in-Err-NoMemory.result opened.1 refl c.refused-in-Err-NoMemory.ensures
          ];
      on = λ h e before tells keeps is ready.
          let w = (written c.args.memory.now c.args.log.now c.args.call.now h e c.args.prepared c.record-2.result.now c.requires.loaded keeps ready c.record-2.ensures) in
          let number = (c.has_number-numbered.ensures (view_in h) ready.holds ∙ ap (has_number h.image) (c.record.ensures ∙ sym c.record-2.ensures)) in
          elim ends [
            | inl same ↦ same-on g.D.Disk.images g.D.Disk.moment g.D.Disk.left_since c.args.memory.now c.args.memory.now c.args.log.now c.add.new.log c.args.call.now h e c.record-2.result.now w refusal.NoMemory c.refused-in-Err-NoMemory.result (without_memory h c.args.call.now) same refl c.refused-in-Err-NoMemory.ensures before is
            | inr opened ↦ (let small = place-number c.args.log.now.end c.record-2.result.now c.has_number-numbered.result opened.0 in
                let may = may-follow g.D.Disk.images g.D.Disk.moment g.D.Disk.left_since c.args.memory.now c.args.memory.now c.args.log.now c.add.new.log c.args.call.now h e c.record-2.result.now w before is (sym number ∙ small) in
                let stands = stands-alone g.D.Disk.images g.D.Disk.moment g.D.Disk.left_since c.args.memory.now c.args.memory.now c.args.log.now c.add.new.log c.args.call.now h e c.record-2.result.now w before is in
                let disks = rw c.in-Err-NoMemory.field-0-is at (c.in-Err-NoMemory.ensures.disks before tells stands may) in
                short-on g.D.Disk.images g.D.Disk.moment g.D.Disk.left_since c.args.memory.now c.args.memory.now c.args.log.now c.add.new.log c.args.call.now h e c.record-2.result.now w c.refused-in-Err-NoMemory.result opened.1 refl c.refused-in-Err-NoMemory.ensures before is disks (c.in-Err-NoMemory.ensures.later tells) (λ t u logs le le' since. c.in-Err-NoMemory.ensures.any_moment t u before logs tells le le' stands may since))
          ];
      cause = refused-causes g.D.Disk.faults c.args.log.now c.add.new.log c.args.call.now refusal.NoMemory None c.refused-in-Err-NoMemory.result c.refused-in-Err-NoMemory.ensures (add-fails {T = Unit} g.D.Disk.faults c.args.log.now c.add.new.log (Err fault.NoMemory) c.in-Err-NoMemory.ensures.disk c.in-Err-NoMemory.ensures.one (rw c.in-Err-NoMemory.field-0-is at c.in-Err-NoMemory.ensures.cause));
      calls = λ tells. subst (λ (r : Rec). AppendsFront g.D.Disk.done c.args.log.now c.add.new.log r) c.record-2.ensures (appends-front g.D.Disk.done c.args.log.now c.add.new.log c.record-2.result.now c.in-Err-NoMemory.ensures.disk c.in-Err-NoMemory.ensures.one (c.in-Err-NoMemory.ensures.calls tells));
      leads = c.in-Err-NoMemory.ensures.leads;
    }

pub leave_in_doubt-doubted-requires : goal.leave_in_doubt-doubted-requires
leave_in_doubt-doubted-requires g c = let some = c.requires.is_prepared in (c.args.memory.now.table, c.args.call.now, some.0, some.1, some.2)
