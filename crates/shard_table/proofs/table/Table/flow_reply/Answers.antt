use Rattle.std.proofs.Common.{sym, ap, subst}
use Rattle.js_wire.specs.declared.packet.Packet.{Packet}
use Rattle.shard_machine.specs.declared.call.ShardCall.TheVariants as call
use Rattle.shard_machine.specs.Answers.{takes_reply}
use Rattle.shard_table.specs.Answering.{Gives}
use Rattle.shard_table.proofs.table.Table.flow_reply.Goals as goal

pub returns-in-FlowReply : goal.returns-in-FlowReply
returns-in-FlowReply c = λ v held. subst (λ (p : Packet). Gives v (call.FlowReply p) c.take_reply.result c.take_reply.new.self) (sym c.in-FlowReply.is) (c.take_reply.ensures v _ held)

pub returns-in-Ask : goal.returns-in-Ask
returns-in-Ask c = λ v held. (sym (ap (takes_reply v) c.in-Ask.is), held)

pub returns-in-Answer : goal.returns-in-Answer
returns-in-Answer c = λ v held. (sym (ap (takes_reply v) c.in-Answer.is), held)

pub returns-in-Refuse : goal.returns-in-Refuse
returns-in-Refuse c = λ v held. (sym (ap (takes_reply v) c.in-Refuse.is), held)

pub returns-in-Delivery : goal.returns-in-Delivery
returns-in-Delivery c = λ v held. (sym (ap (takes_reply v) c.in-Delivery.is), held)

pub returns-in-Beat : goal.returns-in-Beat
returns-in-Beat c = λ v held. (sym (ap (takes_reply v) c.in-Beat.is), held)

pub returns-in-FlowAsk : goal.returns-in-FlowAsk
returns-in-FlowAsk c = λ v held. (sym (ap (takes_reply v) c.in-FlowAsk.is), held)
