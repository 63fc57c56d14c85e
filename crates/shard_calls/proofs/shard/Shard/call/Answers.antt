use Rattle.shard_calls.proofs.shard.Shard.call.Goals as goal

pub returns-clause-loaded : goal.returns-clause-loaded
returns-clause-loaded g c h keeps on = c.answer-reply.ensures.loaded h keeps on

pub returns-clause-read : goal.returns-clause-read
returns-clause-read g c h keeps off = c.answer-reply.ensures.read h keeps off

pub returns-clause-on : goal.returns-clause-on
returns-clause-on g c h before tells keeps is = c.answer-reply.ensures.on h before tells keeps is

pub returns-clause-cause : goal.returns-clause-cause
returns-clause-cause g c = c.answer-reply.ensures.cause

pub returns-clause-calls : goal.returns-clause-calls
returns-clause-calls g c tells = c.answer-reply.ensures.calls tells

pub returns-clause-appends : goal.returns-clause-appends
returns-clause-appends g c h tells keeps on = c.answer-reply.ensures.appends h tells keeps on

pub returns-clause-loads : goal.returns-clause-loads
returns-clause-loads g c h before tells keeps is off = c.answer-reply.ensures.loads h before tells keeps is off

pub returns-clause-leads : goal.returns-clause-leads
returns-clause-leads g c = c.answer-reply.ensures.leads

pub returns-clause-stood : goal.returns-clause-stood
returns-clause-stood g c h before tells keeps is = c.answer-reply.ensures.stood h before tells keeps is
