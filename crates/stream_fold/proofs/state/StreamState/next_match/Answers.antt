use Rattle.std.proofs.Common.{ap, ◌∙◌}
use Rattle.stream_fold.specs.Publishing.{next_match}
use Rattle.stream_fold.proofs.Finding.{next_from}
use Rattle.stream_fold.proofs.state.StreamState.next_match.Goals as goal

pub returns : goal.returns
returns c =
    let from = c.args.from in
    c.next_match.ensures ∙ (ap (λ fs. next_match from fs c.rows_from.result.now) c.as_slice.ensures ∙ (ap (next_match from c.args.filters.now) c.rows_from.ensures.rows ∙ next_from from c.args.filters.now c.args.self.now.held.rows))
