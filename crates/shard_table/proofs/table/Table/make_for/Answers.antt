use Rattle.std.proofs.Common.{sym, ap, ◌∙◌}
use Rattle.stream_fold.specs.Facts.{StreamFacts}
use Rattle.shard_machine.specs.Answers.{consumer_start}
use Rattle.shard_table.proofs.Rows.{makes-gone}
use Rattle.shard_table.proofs.table.Table.make_for.Goals as goal

pub returns-in-None : goal.returns-in-None
returns-in-None c = λ v held. (makes-gone v c.args.now c.args.stream.now c.args.asker.now c.args.attempt c.args.origin.now c.args.start c.args.filters.now (c.in-None.ensures v.image held.streams), held)

pub returns-in-Some : goal.returns-in-Some
returns-in-Some c = λ v held.
    let (known, live, is) = c.in-Some.ensures v.image held.streams in
    c.make_from.ensures v known c.args.start held live (c.consumer_start-from.ensures is.history is.state ∙ ap (λ (f : StreamFacts). consumer_start f c.args.start) (sym is.facts_are))
