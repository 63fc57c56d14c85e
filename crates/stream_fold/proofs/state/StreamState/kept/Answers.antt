use Rattle.std.proofs.Common.{ap, ◌∙◌}
use Rattle.stream_fold.specs.Histories.{message_at}
use Rattle.stream_fold.proofs.Finding.{found_from}
use Rattle.stream_fold.proofs.state.StreamState.kept.Goals as goal

pub returns : goal.returns
returns c = c.message_of.ensures ∙ (ap (message_at c.args.seq) c.rows_from.ensures.rows ∙ found_from c.args.seq c.args.self.now.held.rows)
