use Rattle.log_replay.specs.declared.replay.Replay.{Replay}
use Rattle.shard_calls.proofs.Devices.{nothing-here, opens-front}
use Rattle.shard_calls.proofs.FaultCounts.{none-here, open-failed, ready-then, refusing-causes}
use Rattle.shard_calls.proofs.Loading.{doubt-same, failure-refuses, keeps-still, not-ready, on-err, ready-behind, ready-short, ready-still, ready-unread, reread, too-long-is, when-ready}
use Rattle.shard_calls.proofs.LogsRead.{open-fault, stays-unread}
use Rattle.shard_calls.proofs.Readable.{open-readable}
use Rattle.shard_calls.proofs.calls.ready.Goals as goal
use Rattle.shard_calls.specs.Memories.{at}
use Rattle.shard_machine.specs.declared.reply.ShardRefusal.TheVariants as refusal
use Rattle.shard_calls.specs.Failing.{failure}
use Rattle.shard_calls.specs.Shards.{with_doubt}
use Rattle.shard_machine.specs.Steps.{entry_in_doubt}
use Rattle.std.proofs.Common.{Ok, ap, refl, false, inl, inr, sym, true, ◌∙◌, ◌≡◌}

pub returns-then-is_ready-clause-ready : goal.returns-then-is_ready-clause-ready
returns-then-is_ready-clause-ready g c = when-ready c.args.memory.now.loaded c.args.log.now.is_open (sym c.is_ready.ensures ∙ c.if-is_ready.true)

pub returns-then-is_ready-clause-on : goal.returns-then-is_ready-clause-on
returns-then-is_ready-clause-on g c h before tells keeps is =
    let on = (when-ready c.args.memory.now.loaded c.args.log.now.is_open (sym c.is_ready.ensures ∙ c.if-is_ready.true)).0 in
    ready-still g.D.Disk.images g.D.Disk.moment g.D.Disk.left_since c.args.log.now h before is c.args.memory.now keeps (keeps.loaded ∙ on)

pub returns-in_default-clause-was : goal.returns-in_default-clause-was
returns-in_default-clause-was g c h keeps = not-ready c.args.memory.now c.args.log.now h keeps (sym c.is_ready.ensures ∙ c.if-is_ready.false)

pub returns-in_default-clause-on : goal.returns-in_default-clause-on
returns-in_default-clause-on g c h before tells keeps is =
    let off = not-ready c.args.memory.now c.args.log.now h keeps (sym c.is_ready.ensures ∙ c.if-is_ready.false) in
    rw c.refusing.ensures (ready-short g.D.Disk.images g.D.Disk.moment g.D.Disk.left_since c.args.log.now h before is c.unload.new.self (keeps-still c.args.memory.now c.unload.new.self c.args.log.now c.args.log.now h keeps off c.unload.ensures.table c.unload.ensures.loaded c.unload.ensures.doubt))

pub returns-in-Err-clause-was : goal.returns-in-Err-clause-was
returns-in-Err-clause-was g c h keeps = not-ready c.args.memory.now c.args.log.now h keeps (sym c.is_ready.ensures ∙ c.if-is_ready.false)

pub returns-in-Err-clause-on : goal.returns-in-Err-clause-on
returns-in-Err-clause-on g c h before tells keeps is =
    let off = not-ready c.args.memory.now c.args.log.now h keeps (sym c.is_ready.ensures ∙ c.if-is_ready.false) in
    let kept = keeps-still c.args.memory.now c.unload.new.self c.args.log.now c.reopen.new.self h keeps off c.unload.ensures.table c.unload.ensures.loaded c.unload.ensures.doubt in
    let doubted = c.in-Ok.ensures ∙ ap entry_in_doubt (c.doubt.ensures ∙ c.unload.ensures.doubt) ∙ ap entry_in_doubt (sym (doubt-same c.args.memory.now c.args.log.now h keeps off)) in
    rw c.not_opened.ensures (ready-unread g.D.Disk.images g.D.Disk.moment g.D.Disk.left_since c.args.log.now h before is c.reopen.new.self (c.in-Err.ensures.later tells) (λ t u logs le le' since. c.in-Err.ensures.any_moment t u logs tells le le' since)
    c.unload.new.self (failure c.in-Err.fault c.in-Ok.doubted) kept (failure-refuses h c.in-Err.fault c.in-Ok.doubted off doubted (λ len which. too-long-is (g.D.Disk.seen c.args.log.now.main) (g.D.Disk.seen c.args.log.now.spare) len (rw which at (c.in-Err.ensures.fault tells)))) (c.in-Err.ensures.now (with_doubt before h.doubt) tells is.disks))

pub begin-requires-clause-replayed : goal.begin-requires-clause-replayed
begin-requires-clause-replayed g c = (c.in-Ok-reopen.ensures.opened.log, c.in-Ok-reopen.ensures.opened.legal, c.in-Ok-reopen.ensures.opened.replayed)

pub returns-in-Ok-reopen-clause-loaded : goal.returns-in-Ok-reopen-clause-loaded
returns-in-Ok-reopen-clause-loaded g c h keeps on =
    let off = not-ready c.args.memory.now c.args.log.now h keeps (sym c.is_ready.ensures ∙ c.if-is_ready.false) in
    absurd (let wrong : true ≡ false = sym on ∙ off in cc)

pub returns-in-Ok-reopen-clause-was : goal.returns-in-Ok-reopen-clause-was
returns-in-Ok-reopen-clause-was g c h keeps = on-err _ c.begin.result (not-ready c.args.memory.now c.args.log.now h keeps (sym c.is_ready.ensures ∙ c.if-is_ready.false))

pub returns-in-Ok-reopen-clause-on : goal.returns-in-Ok-reopen-clause-on
returns-in-Ok-reopen-clause-on g c h before tells keeps is =
    let off = not-ready c.args.memory.now c.args.log.now h keeps (sym c.is_ready.ensures ∙ c.if-is_ready.false) in
    let kept = keeps-still c.args.memory.now c.unload.new.self c.args.log.now c.reopen.new.self h keeps off c.unload.ensures.table c.unload.ensures.loaded c.unload.ensures.doubt in
    let was = c.in-Ok-reopen.ensures.opened in
    let found = reread g.D.Disk.images c.args.log.now c.reopen.new.self c.in-Ok-reopen.streams h before was.log off is was.legal was.replayed was.end (was.stands tells) (was.among tells (with_doubt before h.doubt) is.disks) in
    ready-behind g.D.Disk.images g.D.Disk.moment g.D.Disk.left_since c.args.log.now h before is c.reopen.new.self (c.in-Ok-reopen.ensures.later tells) (λ t u logs le le' since. c.in-Ok-reopen.ensures.any_moment t u logs tells le le' since) _ _
    (c.begin.ensures.on h before found.0 tells kept found.1)

pub returns-then-is_ready-clause-cause : goal.returns-then-is_ready-clause-cause
returns-then-is_ready-clause-cause g c = none-here g.D.Disk.faults c.args.log.now

pub returns-then-is_ready-clause-calls : goal.returns-then-is_ready-clause-calls
returns-then-is_ready-clause-calls g c tells = inl (nothing-here g.D.Disk.done c.args.log.now)

pub returns-then-is_ready-clause-leads : goal.returns-then-is_ready-clause-leads
returns-then-is_ready-clause-leads g c = (g.met.D.Disk.leads_here _, g.met.D.Disk.leads_here _)

pub returns-in_default-clause-cause : goal.returns-in_default-clause-cause
returns-in_default-clause-cause g c = refusing-causes g.D.Disk.faults c.args.log.now c.args.log.now c.refusing.result _ c.refusing.ensures (none-here g.D.Disk.faults c.args.log.now)

pub returns-in_default-clause-calls : goal.returns-in_default-clause-calls
returns-in_default-clause-calls g c tells = inl (nothing-here g.D.Disk.done c.args.log.now)

pub returns-in_default-clause-leads : goal.returns-in_default-clause-leads
returns-in_default-clause-leads g c = (g.met.D.Disk.leads_here _, g.met.D.Disk.leads_here _)

pub returns-in-Err-clause-same : goal.returns-in-Err-clause-same
returns-in-Err-clause-same g c sure = absurd (let wrong : true ≡ false = sym sure ∙ sym c.is_ready.ensures ∙ c.if-is_ready.false in cc)

pub returns-in-Err-clause-cause : goal.returns-in-Err-clause-cause
returns-in-Err-clause-cause g c = refusing-causes g.D.Disk.faults c.args.log.now c.reopen.new.self c.not_opened.result (failure c.in-Err.fault c.in-Ok.doubted) c.not_opened.ensures (open-failed g.D.Disk.faults c.args.log.now c.reopen.new.self c.in-Err.fault c.in-Ok.doubted c.in-Err.ensures.cause c.in-Err.ensures.tally)

pub returns-in-Err-clause-calls : goal.returns-in-Err-clause-calls
returns-in-Err-clause-calls g c tells = inr (c.reopen.new.self, c.in-Err.ensures.calls tells, inl (nothing-here g.D.Disk.done c.reopen.new.self))

pub returns-in-Ok-reopen-clause-same : goal.returns-in-Ok-reopen-clause-same
returns-in-Ok-reopen-clause-same g c sure = absurd (let wrong : true ≡ false = sym sure ∙ sym c.is_ready.ensures ∙ c.if-is_ready.false in cc)

pub returns-in-Ok-reopen-clause-cause : goal.returns-in-Ok-reopen-clause-cause
returns-in-Ok-reopen-clause-cause g c = ready-then {T = Unit} g.D.Disk.faults c.args.log.now c.reopen.new.self c.begin.new.log c.begin.result (c.in-Ok-reopen.ensures.cause, c.in-Ok-reopen.ensures.tally) c.begin.ensures.cause

pub returns-in-Ok-reopen-clause-calls : goal.returns-in-Ok-reopen-clause-calls
returns-in-Ok-reopen-clause-calls g c tells = inr (c.reopen.new.self, opens-front {T = Replay} g.D.Disk.seen g.D.Disk.unsynced g.D.Disk.done c.args.log.now.main c.args.log.now.spare c.reopen.new.self.main c.reopen.new.self.spare (Ok c.in-Ok-reopen.streams) (c.in-Ok-reopen.ensures.calls tells), c.begin.ensures.calls tells)

pub returns-in-Ok-reopen-clause-leads : goal.returns-in-Ok-reopen-clause-leads
returns-in-Ok-reopen-clause-leads g c = (g.met.D.Disk.leads_on _ _ _ c.in-Ok-reopen.ensures.leads.0 c.begin.ensures.leads.0, g.met.D.Disk.leads_on _ _ _ c.in-Ok-reopen.ensures.leads.1 c.begin.ensures.leads.1)

pub returns-then-is_ready-clause-opens : goal.returns-then-is_ready-clause-opens
returns-then-is_ready-clause-opens g c h before tells keeps is off = inl (nothing-here g.D.Disk.done c.args.log.now)

pub returns-in_default-clause-opens : goal.returns-in_default-clause-opens
returns-in_default-clause-opens g c h before tells keeps is off = inl (nothing-here g.D.Disk.done c.args.log.now)

pub returns-in-Err-clause-opens : goal.returns-in-Err-clause-opens
returns-in-Err-clause-opens g c h before tells keeps is off = inr (c.reopen.new.self, c.in-Err.ensures.calls tells, inl (nothing-here g.D.Disk.done c.reopen.new.self))

pub returns-in-Ok-reopen-clause-opens : goal.returns-in-Ok-reopen-clause-opens
returns-in-Ok-reopen-clause-opens g c h before tells keeps is off =
    let kept = keeps-still c.args.memory.now c.unload.new.self c.args.log.now c.reopen.new.self h keeps off c.unload.ensures.table c.unload.ensures.loaded c.unload.ensures.doubt in
    let was = c.in-Ok-reopen.ensures.opened in
    let found = reread g.D.Disk.images c.args.log.now c.reopen.new.self c.in-Ok-reopen.streams h before was.log off is was.legal was.replayed was.end (was.stands tells) (was.among tells (with_doubt before h.doubt) is.disks) in
    inr (
      c.reopen.new.self,
      opens-front {T = Replay} g.D.Disk.seen g.D.Disk.unsynced g.D.Disk.done c.args.log.now.main c.args.log.now.spare c.reopen.new.self.main c.reopen.new.self.spare (Ok c.in-Ok-reopen.streams) (c.in-Ok-reopen.ensures.calls tells),
      c.begin.ensures.opens h before found.0 tells kept found.1,
    )

pub returns-then-is_ready-clause-read : goal.returns-then-is_ready-clause-read
returns-then-is_ready-clause-read g c h keeps off =
    let on = (when-ready c.args.memory.now.loaded c.args.log.now.is_open (sym c.is_ready.ensures ∙ c.if-is_ready.true)).0 in
    absurd (let wrong : true ≡ false = sym on ∙ sym keeps.loaded ∙ off in cc)

pub returns-in_default-clause-read : goal.returns-in_default-clause-read
returns-in_default-clause-read g c h keeps off =
    rw c.refusing.ensures (stays-unread (at c.unload.new.self c.args.log.now) h refusal.NoMemory _ (keeps-still c.args.memory.now c.unload.new.self c.args.log.now c.args.log.now h keeps off c.unload.ensures.table c.unload.ensures.loaded c.unload.ensures.doubt) refl)

pub returns-in-Err-clause-read : goal.returns-in-Err-clause-read
returns-in-Err-clause-read g c h keeps off =
    let kept = keeps-still c.args.memory.now c.unload.new.self c.args.log.now c.reopen.new.self h keeps off c.unload.ensures.table c.unload.ensures.loaded c.unload.ensures.doubt in
    let doubted = c.in-Ok.ensures ∙ ap entry_in_doubt (c.doubt.ensures ∙ c.unload.ensures.doubt) ∙ ap entry_in_doubt (sym (doubt-same c.args.memory.now c.args.log.now h keeps off)) in
    rw c.not_opened.ensures (stays-unread (at c.unload.new.self c.reopen.new.self) h (failure c.in-Err.fault c.in-Ok.doubted).why (failure c.in-Err.fault c.in-Ok.doubted).doubted kept (open-fault h c.in-Err.fault c.in-Ok.doubted doubted))

pub returns-in-Ok-reopen-clause-read : goal.returns-in-Ok-reopen-clause-read
returns-in-Ok-reopen-clause-read g c h keeps off =
    let kept = keeps-still c.args.memory.now c.unload.new.self c.args.log.now c.reopen.new.self h keeps off c.unload.ensures.table c.unload.ensures.loaded c.unload.ensures.doubt in
    let was = c.in-Ok-reopen.ensures.opened in
    c.begin.ensures.read h was.log kept off was.legal was.replayed was.end

pub returns-in_default-clause-stood : goal.returns-in_default-clause-stood
returns-in_default-clause-stood g c h before tells keeps is = rw c.refusing.ensures refl

pub returns-in-Err-clause-stood : goal.returns-in-Err-clause-stood
returns-in-Err-clause-stood g c h before tells keeps is =
    rw c.not_opened.ensures (open-readable c.in-Err.fault c.in-Ok.doubted (c.in-Err.ensures.stood (with_doubt before h.doubt) tells is.disks))

pub returns-in-Ok-reopen-clause-stood : goal.returns-in-Ok-reopen-clause-stood
returns-in-Ok-reopen-clause-stood g c h before tells keeps is = c.begin.ensures.stood
