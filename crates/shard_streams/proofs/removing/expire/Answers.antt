use Rattle.std.proofs.Common.{ap, ◌∙◌, List}
use Rattle.std.specs.Prelude.{count_by}
use Rattle.stream_fold.specs.declared.config.Config.{Config}
use Rattle.stream_fold.specs.declared.entry.Numbered.{Numbered}
use Rattle.stream_fold.specs.Histories.{is_expired}
use Rattle.shard_streams.proofs.Removals.{expires-none, expires-some}
use Rattle.shard_streams.proofs.removing.expire.Goals as goal

pub returns-then-count-eq0 : goal.returns-then-count-eq0
returns-then-count-eq0 c = λ v name live.
    expires-none c.facts_of_histories.ensures.tell c.args.standing.now c.args.now c.expired_count-count.result
    (c.expired_count-count.ensures
    ∙ (ap (λ (x : Config). count_by (is_expired x.max_age c.args.now) c.rows.result.now) c.config.ensures
    ∙ ap (λ (rows : List Numbered). count_by (is_expired c.args.standing.now.state.held.limits.max_age c.args.now) rows) c.rows.ensures))
    v name live c.if-count-eq0.true

pub returns : goal.returns
returns c = λ v name live.
    expires-some c.facts_of_histories.ensures.tell c.args.standing.now c.args.now c.expired_count-count.result
    (c.expired_count-count.ensures
    ∙ (ap (λ (x : Config). count_by (is_expired x.max_age c.args.now) c.rows.result.now) c.config.ensures
    ∙ ap (λ (rows : List Numbered). count_by (is_expired c.args.standing.now.state.held.limits.max_age c.args.now) rows) c.rows.ensures))
    v name live c.if-count-eq0.false
