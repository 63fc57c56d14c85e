use Rattle.std.proofs.Common.{ap, List, ℕ}
use Rattle.std.specs.Prelude.{Ok}
use Rattle.shard_machine.specs.declared.call.ShardCall.TheVariants as call
use Rattle.shard_machine.specs.declared.reply.Outcome.TheVariants as outcome
use Rattle.shard_machine.specs.Views.{reads}
use Rattle.shard_table.proofs.Doing.{does-reads}
use Rattle.shard_table.proofs.table.Table.names.Goals as goal

pub returns-in-Ok : goal.returns-in-Ok
returns-in-Ok c = λ v held. does-reads v call.Names (outcome.Listed c.in-Ok.names) c.with_outcome.result c.args.self.now (ap (λ (names : List (List ℕ)). Ok (reads v (outcome.Listed names))) (c.in-Ok.ensures v.image held.streams)) c.with_outcome.ensures held

pub returns-in-Err : goal.returns-in-Err
returns-in-Err c = λ v held. (tt, held)
