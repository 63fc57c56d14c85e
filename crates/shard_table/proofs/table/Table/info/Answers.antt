use Rattle.std.proofs.Common.{sym, ap, ◌∙◌}
use Rattle.std.specs.Prelude.{map}
use Rattle.stream_fold.specs.Facts.{StreamFacts}
use Rattle.shard_machine.specs.Answers.{fact_of_copy, informs}
use Rattle.shard_machine.specs.Views.{copies_of}
use Rattle.shard_table.proofs.table.Table.info.Goals as goal

pub returns-in-None : goal.returns-in-None
returns-in-None c = λ v held. (sym (ap (informs v c.args.name.now) (c.in-None.ensures v.image held.streams)), held)

pub returns-in-Ok : goal.returns-in-Ok
returns-in-Ok c = λ v held.
    let (known, live, is) = c.in-Some.ensures v.image held.streams in
    c.show.ensures v known held live (c.in-Ok.ensures v is.history held.askers is.state ∙ ap (λ (f : StreamFacts). map (fact_of_copy v) (copies_of c.args.name.now f)) (sym is.facts_are))

pub returns-in-Err : goal.returns-in-Err
returns-in-Err c = λ v held. (tt, held)
