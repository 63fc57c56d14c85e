use Rattle.std.proofs.Common.{false, ◌&&◌, ◌≡◌, sym, subst}
use Rattle.shard_calls.specs.Causes.{CallCauses, is_unread}
use Rattle.shard_calls.specs.DeviceCalls.{AppendsOf, CallDoes, LoadsAndAppends}
use Rattle.shard_calls.specs.Memories.{ShardState, at}
use Rattle.shard_calls.specs.Shards.{IsFor, Keeps, StepsOn}
use Rattle.shard_calls.proofs.shard.Shard.answer.Goals as goal

pub returns-clause-loaded : goal.returns-clause-loaded
returns-clause-loaded g c h keeps on = c.answer.ensures.loaded h (subst (λ (s : ShardState g.row.D.Denot). Keeps s h) (sym c.self.view_is) keeps) on

pub returns-clause-on : goal.returns-clause-on
returns-clause-on g c h before tells keeps is =
    subst (λ (s : ShardState g.row.D.Denot). Keeps s h → IsFor g.D.Disk.images s.log h before → StepsOn g.D.Disk.images g.D.Disk.moment g.D.Disk.left_since s.log c.args.call.now c.answer.result (at c.answer.new.memory c.answer.new.log) h before) c.self.view_is
    (λ kept stands. c.answer.ensures.on h before tells kept stands) keeps is

pub returns-clause-cause : goal.returns-clause-cause
returns-clause-cause g c = subst (λ (s : ShardState g.row.D.Denot). CallCauses g.D.Disk.faults s.log c.answer.new.log c.answer.result) c.self.view_is c.answer.ensures.cause

pub returns-clause-calls : goal.returns-clause-calls
returns-clause-calls g c tells = subst (λ (s : ShardState g.row.D.Denot). CallDoes g.D.Disk.seen g.D.Disk.unsynced g.D.Disk.done (s.memory.loaded && s.log.is_open) s.log c.answer.new.log) c.self.view_is (c.answer.ensures.calls tells)

pub returns-clause-appends : goal.returns-clause-appends
returns-clause-appends g c h tells keeps on = subst (λ (s : ShardState g.row.D.Denot). Keeps s h → AppendsOf g.D.Disk.done s.log c.answer.new.log c.args.call.now h) c.self.view_is (λ k. c.answer.ensures.appends h tells k on) keeps

pub returns-clause-leads : goal.returns-clause-leads
returns-clause-leads g c = subst (λ (s : ShardState g.row.D.Denot). g.D.Disk.leads s.log.main c.answer.new.log.main × g.D.Disk.leads s.log.spare c.answer.new.log.spare) c.self.view_is c.answer.ensures.leads

pub returns-clause-read : goal.returns-clause-read
returns-clause-read g c h keeps off = c.answer.ensures.read h (subst (λ (s : ShardState g.row.D.Denot). Keeps s h) (sym c.self.view_is) keeps) off

pub returns-clause-loads : goal.returns-clause-loads
returns-clause-loads g c h before tells keeps is off =
    subst (λ (s : ShardState g.row.D.Denot). Keeps s h → IsFor g.D.Disk.images s.log h before → LoadsAndAppends g.D.Disk.seen g.D.Disk.unsynced g.D.Disk.done s.log c.answer.new.log c.args.call.now h) c.self.view_is
    (λ kept stands. c.answer.ensures.loads h before tells kept stands off) keeps is

pub returns-clause-stood : goal.returns-clause-stood
returns-clause-stood g c h before tells keeps is =
    subst (λ (s : ShardState g.row.D.Denot). Keeps s h → IsFor g.D.Disk.images s.log h before → is_unread c.answer.result.outcome ≡ false) c.self.view_is
    (λ kept stands. c.answer.ensures.stood h before tells kept stands) keeps is
