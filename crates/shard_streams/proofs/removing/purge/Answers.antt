use Rattle.std.proofs.Common.{ap, sym, subst, ◌∙◌, List, Ok, Some}
use Rattle.stream_fold.specs.declared.entry.Entry.{Entry}
use Rattle.shard_machine.specs.declared.call.ShardCall.TheVariants as call
use Rattle.shard_machine.specs.declared.reply.Outcome.TheVariants as outcome
use Rattle.shard_streams.specs.Plans.{Plans}
use Rattle.std.specs.Prelude.{count_by}
use Rattle.stream_fold.specs.declared.entry.Numbered.{Numbered}
use Rattle.stream_fold.specs.Histories.{is_purged}
use Rattle.shard_machine.specs.Answers.{below_or_all}
use Rattle.shard_streams.proofs.Removals.{purges-none, purges-some}
use Rattle.shard_streams.proofs.removing.purge.Goals as goal

pub returns-then-count-eq0 : goal.returns-then-count-eq0
returns-then-count-eq0 c = λ v name live.
    purges-none c.facts_of_histories.ensures.tell c.args.standing.now c.args.pattern.now c.args.below c.below_or_all-below.result c.purged_count-count.result
    (c.below_or_all-below.ensures ∙ ap (below_or_all c.args.below) c.last.ensures.value)
    (c.purged_count-count.ensures ∙ ap (λ (rows : List Numbered). count_by (is_purged c.args.pattern.now c.below_or_all-below.result) rows) c.rows.ensures)
    v name live c.if-count-eq0.true

pub returns-in-Ok : goal.returns-in-Ok
returns-in-Ok c = λ v name live.
    subst (λ (e : Entry). Plans v (call.Purge name c.args.pattern.now c.args.below) name (Ok (record { entry = Some e; outcome = outcome.Purged c.purged_count-count.result }))) (sym c.in-Ok.ensures)
    (purges-some c.facts_of_histories.ensures.tell c.args.standing.now c.args.pattern.now c.args.below c.below_or_all-below.result c.purged_count-count.result
    (c.below_or_all-below.ensures ∙ ap (below_or_all c.args.below) c.last.ensures.value)
    (c.purged_count-count.ensures ∙ ap (λ (rows : List Numbered). count_by (is_purged c.args.pattern.now c.below_or_all-below.result) rows) c.rows.ensures)
    v name live c.if-count-eq0.false)
