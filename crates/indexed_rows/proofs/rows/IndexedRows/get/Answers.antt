use Rattle.std.proofs.Common.{ap, ◌∙◌}
use Rattle.stream_fold.specs.Histories.{message_at}
use Rattle.indexed_rows.specs.Indexes.{IndexedList}
use Rattle.indexed_rows.proofs.RowLemmas.{message_at-items}
use Rattle.indexed_rows.proofs.rows.IndexedRows.get.Goals as goal

pub returns : goal.returns
returns c = c.get.ensures ∙ (message_at-items c.args.seq c.self.inside.index.messages.items ∙ ap (λ (l : IndexedList). message_at c.args.seq l.rows) c.self.view_is)
