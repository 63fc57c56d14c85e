use Rattle.std.proofs.Common.{ap, ◌∙◌}
use Rattle.std.specs.Prelude.{count_by, List}
use Rattle.push_consumer.specs.Progress.{ConsumerState}
use Rattle.shard_machine.specs.declared.call.ShardCall.TheVariants as call
use Rattle.shard_machine.specs.declared.reply.Outcome.TheVariants as outcome
use Rattle.shard_machine.specs.Answers.{reads_stream}
use Rattle.shard_table.proofs.Doing.{does-reads}
use Rattle.shard_table.proofs.Grounds.{turned-down}
use Rattle.shard_table.proofs.Rows.{informs-shown}
use Rattle.shard_table.proofs.table.Table.show.Goals as goal

pub returns-in-Ok : goal.returns-in-Ok
returns-in-Ok c = λ v known held live listed.
    let name = c.args.name.now in
    let counted = c.count_of-consumers.ensures ∙ ap (λ (all : List ConsumerState). count_by (reads_stream name) all) held.consumers in
    does-reads v (call.Info name) (outcome.Info c.in-Ok.facts) c.with_outcome.result c.args.self.now (informs-shown v name known c.count_of-consumers.result c.args.copies c.in-Ok.facts live counted listed (c.in-Ok.ensures v held.streams)) c.with_outcome.ensures held

pub returns-in-Err : goal.returns-in-Err
returns-in-Err c = λ v known held live listed. (turned-down v (call.Info c.args.name.now) c.in-Err.why (c.in-Err.ensures v held.streams), held)
