use Rattle.shard_calls.proofs.Devices.{nothing-here}
use Rattle.shard_calls.proofs.FaultCounts.{none-here, none-said, refused-causes}
use Rattle.shard_calls.proofs.ShardCalls.{done-from, done-on, prepared-effect, prepared-keeps, prepared-ready, turned-from, turned-on}
use Rattle.shard_calls.proofs.calls.perform.Goals as goal
use Rattle.shard_calls.specs.Causes.{is_disk_fault, is_fault}
use Rattle.shard_table.specs.Answering.{record_in}
use Rattle.std.proofs.Common.{None, inl, inr}

pub write-requires-clause-is_prepared : goal.write-requires-clause-is_prepared
write-requires-clause-is_prepared g c = rw c.in-Ok-Append.field-0-is at c.in-Ok-Append.ensures.prepared

pub returns-in-Err : goal.returns-in-Err
returns-in-Err g c = record {
  loaded = λ h keeps. turned-from g.D.Disk.images g.D.Disk.moment g.D.Disk.left_since c.args.memory.now c.answer.new.self c.args.log.now c.args.call.now h c.requires.loaded c.answer.ensures.loaded keeps c.in-Err.why c.refused.result c.in-Err.ensures.gives c.refused.ensures;
  on = λ h before tells keeps is. turned-on g.D.Disk.images g.D.Disk.moment g.D.Disk.left_since c.args.memory.now c.answer.new.self c.args.log.now c.args.call.now h c.requires.loaded c.answer.ensures.loaded keeps c.in-Err.why c.refused.result c.in-Err.ensures.gives c.refused.ensures before is;
  cause = refused-causes g.D.Disk.faults c.args.log.now c.args.log.now c.args.call.now c.in-Err.why None c.refused.result c.refused.ensures (none-said g.D.Disk.faults c.args.log.now c.args.log.now (is_disk_fault c.in-Err.why) c.in-Err.ensures.faultless (none-here g.D.Disk.faults c.args.log.now));
  calls = λ tells. inl (nothing-here g.D.Disk.done c.args.log.now);
  appends = λ h tells keeps. inl (nothing-here g.D.Disk.done c.args.log.now);
  leads = (g.met.D.Disk.leads_here _, g.met.D.Disk.leads_here _);
}

pub returns-in-Ok-Done : goal.returns-in-Ok-Done
returns-in-Ok-Done g c =
    let gives = rw c.in-Ok-Done.field-0-is at c.in-Ok-Done.ensures.gives in
    record {
      loaded = λ h keeps. done-from g.D.Disk.images g.D.Disk.moment g.D.Disk.left_since c.args.memory.now c.answer.new.self c.args.log.now c.args.call.now h c.requires.loaded c.answer.ensures.loaded keeps c.in-Ok-Done.reply gives;
      on = λ h before tells keeps is. done-on g.D.Disk.images g.D.Disk.moment g.D.Disk.left_since c.args.memory.now c.answer.new.self c.args.log.now c.args.call.now h c.requires.loaded c.answer.ensures.loaded keeps c.in-Ok-Done.reply gives before is;
      cause = none-said g.D.Disk.faults c.args.log.now c.args.log.now (is_fault c.in-Ok-Done.reply.outcome) (rw c.in-Ok-Done.field-0-is at c.in-Ok-Done.ensures.faultless) (none-here g.D.Disk.faults c.args.log.now);
      calls = λ tells. inl (nothing-here g.D.Disk.done c.args.log.now);
      appends = λ h tells keeps. inl (nothing-here g.D.Disk.done c.args.log.now);
      leads = (g.met.D.Disk.leads_here _, g.met.D.Disk.leads_here _);
    }

pub returns-in-Ok-Append : goal.returns-in-Ok-Append
returns-in-Ok-Append g c =
    let gives = rw c.in-Ok-Append.field-0-is at c.in-Ok-Append.ensures.gives in
    let some = rw c.in-Ok-Append.field-0-is at c.in-Ok-Append.ensures.prepared in
    record {
      loaded = λ h keeps. c.write.ensures.loaded h
          (prepared-effect g.D.Disk.images g.D.Disk.moment g.D.Disk.left_since c.args.memory.now c.answer.new.self c.args.log.now c.args.call.now h c.requires.loaded c.answer.ensures.loaded keeps c.in-Ok-Append.prepared gives some)
          (prepared-keeps g.D.Disk.images g.D.Disk.moment g.D.Disk.left_since c.args.memory.now c.answer.new.self c.args.log.now c.args.call.now h c.requires.loaded c.answer.ensures.loaded keeps c.in-Ok-Append.prepared gives some)
          (prepared-ready g.D.Disk.images g.D.Disk.moment g.D.Disk.left_since c.args.memory.now c.answer.new.self c.args.log.now c.args.call.now h c.requires.loaded c.answer.ensures.loaded keeps c.in-Ok-Append.prepared gives some);
      on = λ h before tells keeps is. c.write.ensures.on h
          (prepared-effect g.D.Disk.images g.D.Disk.moment g.D.Disk.left_since c.args.memory.now c.answer.new.self c.args.log.now c.args.call.now h c.requires.loaded c.answer.ensures.loaded keeps c.in-Ok-Append.prepared gives some)
          before tells
          (prepared-keeps g.D.Disk.images g.D.Disk.moment g.D.Disk.left_since c.args.memory.now c.answer.new.self c.args.log.now c.args.call.now h c.requires.loaded c.answer.ensures.loaded keeps c.in-Ok-Append.prepared gives some)
          is
          (prepared-ready g.D.Disk.images g.D.Disk.moment g.D.Disk.left_since c.args.memory.now c.answer.new.self c.args.log.now c.args.call.now h c.requires.loaded c.answer.ensures.loaded keeps c.in-Ok-Append.prepared gives some);
      cause = c.write.ensures.cause;
      calls = λ tells. inr (record_in c.in-Ok-Append.prepared, c.write.ensures.calls tells);
      appends = λ h tells keeps.
          let ready = prepared-ready g.D.Disk.images g.D.Disk.moment g.D.Disk.left_since c.args.memory.now c.answer.new.self c.args.log.now c.args.call.now h c.requires.loaded c.answer.ensures.loaded keeps c.in-Ok-Append.prepared gives some in
          inr (prepared-effect g.D.Disk.images g.D.Disk.moment g.D.Disk.left_since c.args.memory.now c.answer.new.self c.args.log.now c.args.call.now h c.requires.loaded c.answer.ensures.loaded keeps c.in-Ok-Append.prepared gives some, record_in c.in-Ok-Append.prepared, ready.answers, ready.one, c.write.ensures.calls tells);
      leads = c.write.ensures.leads;
    }
