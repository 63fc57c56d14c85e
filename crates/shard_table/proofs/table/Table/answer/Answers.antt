use Rattle.std.proofs.Common.{sym, subst}
use Rattle.shard_machine.specs.declared.call.ShardCall.{ShardCall}
use Rattle.shard_table.specs.Answering.{Gives}
use Rattle.shard_table.proofs.table.Table.answer.Goals as goal

pub returns-in-Create : goal.returns-in-Create
returns-in-Create c = λ v held. subst (λ (k : ShardCall). Gives v k c.create.result c.create.new.self) (sym c.in-Create.is) (c.create.ensures v held)

pub returns-in-Update : goal.returns-in-Update
returns-in-Update c = λ v held. subst (λ (k : ShardCall). Gives v k c.update.result c.update.new.self) (sym c.in-Update.is) (c.update.ensures v held)

pub returns-in-Remove : goal.returns-in-Remove
returns-in-Remove c = λ v held. subst (λ (k : ShardCall). Gives v k c.remove.result c.remove.new.self) (sym c.in-Remove.is) (c.remove.ensures v held)

pub returns-in-Publish : goal.returns-in-Publish
returns-in-Publish c = λ v held. subst (λ (k : ShardCall). Gives v k c.publish.result c.publish.new.self) (sym c.in-Publish.is) (c.publish.ensures v held)

pub returns-in-Delete : goal.returns-in-Delete
returns-in-Delete c = λ v held. subst (λ (k : ShardCall). Gives v k c.delete.result c.delete.new.self) (sym c.in-Delete.is) (c.delete.ensures v held)

pub returns-in-Purge : goal.returns-in-Purge
returns-in-Purge c = λ v held. subst (λ (k : ShardCall). Gives v k c.purge.result c.purge.new.self) (sym c.in-Purge.is) (c.purge.ensures v held)

pub returns-in-Expire : goal.returns-in-Expire
returns-in-Expire c = λ v held. subst (λ (k : ShardCall). Gives v k c.expire.result c.expire.new.self) (sym c.in-Expire.is) (c.expire.ensures v held)

pub returns-in-Get : goal.returns-in-Get
returns-in-Get c = λ v held. subst (λ (k : ShardCall). Gives v k c.get.result c.get.new.self) (sym c.in-Get.is) (c.get.ensures v held)

pub returns-in-Info : goal.returns-in-Info
returns-in-Info c = λ v held. subst (λ (k : ShardCall). Gives v k c.info.result c.info.new.self) (sym c.in-Info.is) (c.info.ensures v held)

pub returns-in-Names : goal.returns-in-Names
returns-in-Names c = λ v held. subst (λ (k : ShardCall). Gives v k c.names.result c.names.new.self) (sym c.in-Names.is) (c.names.ensures v held)

pub returns-in-MakeConsumer : goal.returns-in-MakeConsumer
returns-in-MakeConsumer c = λ v held. subst (λ (k : ShardCall). Gives v k c.make_consumer.result c.make_consumer.new.self) (sym c.in-MakeConsumer.is) (c.make_consumer.ensures v held)

pub returns-in-Pump : goal.returns-in-Pump
returns-in-Pump c = λ v held. subst (λ (k : ShardCall). Gives v k c.pump.result c.pump.new.self) (sym c.in-Pump.is) (c.pump.ensures v held)

pub returns-in-FlowReply : goal.returns-in-FlowReply
returns-in-FlowReply c = λ v held. subst (λ (k : ShardCall). Gives v k c.flow_reply.result c.flow_reply.new.self) (sym c.in-FlowReply.is) (c.flow_reply.ensures v held)

pub returns-in-Reach : goal.returns-in-Reach
returns-in-Reach c = λ v held. subst (λ (k : ShardCall). Gives v k c.reach.result c.reach.new.self) (sym c.in-Reach.is) (c.reach.ensures v held)

pub returns-in-Heard : goal.returns-in-Heard
returns-in-Heard c = λ v held. subst (λ (k : ShardCall). Gives v k c.heard.result c.heard.new.self) (sym c.in-Heard.is) (c.heard.ensures v held)

pub returns-in-Tick : goal.returns-in-Tick
returns-in-Tick c = λ v held. subst (λ (k : ShardCall). Gives v k c.tick.result c.tick.new.self) (sym c.in-Tick.is) (c.tick.ensures v held)

pub returns-in-LinkLost : goal.returns-in-LinkLost
returns-in-LinkLost c = λ v held. subst (λ (k : ShardCall). Gives v k c.link_lost.result c.link_lost.new.self) (sym c.in-LinkLost.is) (c.link_lost.ensures v held)
