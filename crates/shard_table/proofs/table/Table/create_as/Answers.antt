use Rattle.std.proofs.Common.{false, subst}
use Rattle.std.specs.Prelude.{Ok}
use Rattle.shard_machine.specs.declared.call.ShardCall.TheVariants as call
use Rattle.shard_machine.specs.declared.reply.Outcome.TheVariants as outcome
use Rattle.shard_streams.specs.Plans.{PlansCreate}
use Rattle.shard_table.proofs.Doing.{does-reads}
use Rattle.shard_table.proofs.table.Table.create_as.Goals as goal

pub make-requires : goal.make-requires
make-requires c = let (v, held, plans) = c.requires in (v, held, subst (λ k. PlansCreate v c.args.config.now c.args.now (Ok k)) c.in-New.is plans)

pub returns-in-Stands : goal.returns-in-Stands
returns-in-Stands c = λ v held plans. does-reads v (call.Create c.args.config.now c.args.now) (outcome.Made false) c.with_outcome.result c.args.self.now (subst (λ k. PlansCreate v c.args.config.now c.args.now (Ok k)) c.in-Stands.is plans) c.with_outcome.ensures held

pub returns-in-New : goal.returns-in-New
returns-in-New c = λ v held plans. c.make.ensures v held (subst (λ k. PlansCreate v c.args.config.now c.args.now (Ok k)) c.in-New.is plans)
