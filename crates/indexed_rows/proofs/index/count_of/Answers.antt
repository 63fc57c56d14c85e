use Rattle.std.proofs.Common.{ap, ◌∙◌, List, ℕ, length}
use Rattle.indexed_rows.specs.Indexes.{rows_of}
use Rattle.indexed_rows.proofs.RowLemmas.{count-numbers}
use Rattle.indexed_rows.proofs.index.count_of.Goals as goal

pub returns : goal.returns
returns c = c.count_listed.ensures ∙ (ap (λ (ns : List ℕ). length ns) (c.requires.subjects c.args.subject.now) ∙ count-numbers c.args.subject.now (rows_of c.args.index.now.messages.items))
