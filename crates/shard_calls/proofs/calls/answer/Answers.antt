use Rattle.record_log.specs.LogStates.{LogState}
use Rattle.shard_calls.proofs.Devices.{call-does, kept-ready, nothing-here}
use Rattle.shard_calls.proofs.FaultCounts.{failed-then, refused-causes}
use Rattle.shard_calls.proofs.ShardAnswers.{steps-behind, steps-failed}
use Rattle.shard_calls.proofs.LogsRead.{refused-unread}
use Rattle.shard_calls.proofs.Readable.{refused-readable, step-readable}
use Rattle.shard_calls.proofs.calls.answer.Goals as goal
use Rattle.shard_calls.specs.Causes.{is_fault}
use Rattle.shard_calls.specs.DeviceCalls.{AppendsOf}
use Rattle.shard_calls.specs.FirstLoads.{held_of, opened_log}
use Rattle.shard_calls.specs.Memories.{at}
use Rattle.std.proofs.Common.{false, inl, inr, subst, sym, true, ◌&&◌, ◌∙◌, ◌≡◌}

pub perform-requires-clause-loaded : goal.perform-requires-clause-loaded
perform-requires-clause-loaded g c = c.in-Ok.ensures.ready.0

pub perform-requires-clause-is_open : goal.perform-requires-clause-is_open
perform-requires-clause-is_open g c = c.in-Ok.ensures.ready.1

pub returns-in-Ok : goal.returns-in-Ok
returns-in-Ok g c = record {
  read = λ h keeps off.
      let was = c.in-Ok.ensures.read h keeps off in
      inr (was.log, was.legal, was.room, c.perform.ensures.loaded (held_of h.node (opened_log was.log)) was.keeps);
  loaded = λ h keeps on. c.perform.ensures.loaded h (c.in-Ok.ensures.loaded h keeps on);
  on = λ h before tells keeps is.
      let then = c.in-Ok.ensures.on h before tells keeps is in
      steps-behind g.D.Disk.images g.D.Disk.moment g.D.Disk.left_since c.args.log.now h before c.args.call.now c.perform.result c.ready.new.memory c.ready.new.log _ then.0 then.1 c.in-Ok.ensures.ready.0 then.2 then.3
      (c.perform.ensures.on then.1 _ tells then.3.keeps then.3.stands);
  cause = failed-then g.D.Disk.faults c.args.log.now c.ready.new.log c.perform.new.log c.in-Ok.ensures.cause (is_fault c.perform.result.outcome) c.perform.ensures.cause;
  calls = λ tells. call-does g.D.Disk.seen g.D.Disk.unsynced g.D.Disk.done (c.args.memory.now.loaded && c.args.log.now.is_open) c.args.log.now c.ready.new.log c.perform.new.log c.in-Ok.ensures.same (c.in-Ok.ensures.calls tells) (c.perform.ensures.calls tells);
  stood = λ h before tells keeps is.
      let then = c.in-Ok.ensures.on h before tells keeps is in
      let s = c.perform.ensures.loaded then.1 then.3.keeps in
      step-readable c.perform.result.outcome then.1 c.args.call.now c.perform.result s.records s.after (then.3.keeps.loaded ∙ c.in-Ok.ensures.ready.0) s.step;
  loads = λ h before tells keeps is off.
      let then = c.in-Ok.ensures.on h before tells keeps is in
      record {
        loaded = c.ready.new.log;
        loads = c.in-Ok.ensures.opens h before tells keeps is off;
        appends = inr (then.0, then.1, then.2, c.perform.ensures.appends then.1 tells then.3.keeps);
      };
  appends = λ h tells keeps on. subst (λ (l : LogState g.row.D.Denot). AppendsOf g.D.Disk.done l c.perform.new.log c.args.call.now h) (c.in-Ok.ensures.same (kept-ready c.args.memory.now c.args.log.now h keeps on)) (c.perform.ensures.appends h tells (c.in-Ok.ensures.loaded h keeps on));
  leads = (g.met.D.Disk.leads_on _ _ _ c.in-Ok.ensures.leads.0 c.perform.ensures.leads.0, g.met.D.Disk.leads_on _ _ _ c.in-Ok.ensures.leads.1 c.perform.ensures.leads.1);
}

pub returns-in-Err : goal.returns-in-Err
returns-in-Err g c = record {
  read = λ h keeps off. refused-unread c.args.call.now c.in-Err.failure.why c.in-Err.failure.doubted c.refused.result (at c.ready.new.memory c.ready.new.log) h c.refused.ensures (c.in-Err.ensures.read h keeps off);
  loaded = λ h keeps on. absurd (let wrong : true ≡ false = sym on ∙ c.in-Err.ensures.was h keeps in cc);
  on = λ h before tells keeps is.
      let then = c.in-Err.ensures.on h before tells keeps is in
      steps-failed g.D.Disk.images g.D.Disk.moment g.D.Disk.left_since c.args.log.now h before c.args.call.now c.refused.result _ c.in-Err.failure then.0 then.1 then.2 then.3 then.4 then.5 c.refused.ensures;
  cause = refused-causes g.D.Disk.faults c.args.log.now c.ready.new.log c.args.call.now c.in-Err.failure.why c.in-Err.failure.doubted c.refused.result c.refused.ensures c.in-Err.ensures.cause;
  calls = λ tells. call-does g.D.Disk.seen g.D.Disk.unsynced g.D.Disk.done (c.args.memory.now.loaded && c.args.log.now.is_open) c.args.log.now c.ready.new.log c.ready.new.log c.in-Err.ensures.same (c.in-Err.ensures.calls tells) (inl (nothing-here g.D.Disk.done c.ready.new.log));
  stood = λ h before tells keeps is. refused-readable c.args.call.now c.in-Err.failure.why c.in-Err.failure.doubted c.refused.result c.refused.ensures (c.in-Err.ensures.stood h before tells keeps is);
  loads = λ h before tells keeps is off. record {
    loaded = c.ready.new.log;
    loads = c.in-Err.ensures.opens h before tells keeps is off;
    appends = inl (nothing-here g.D.Disk.done c.ready.new.log);
  };
  appends = λ h tells keeps on. absurd (let wrong : true ≡ false = sym on ∙ c.in-Err.ensures.was h keeps in cc);
  leads = c.in-Err.ensures.leads;
}
