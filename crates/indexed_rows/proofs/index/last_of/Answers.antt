use Rattle.std.proofs.Common.{ap, ◌∙◌, List, ℕ}
use Rattle.indexed_rows.specs.Indexes.{rows_of, last_of_list}
use Rattle.indexed_rows.proofs.RowLemmas.{last-numbers}
use Rattle.indexed_rows.proofs.index.last_of.Goals as goal

pub returns : goal.returns
returns c = c.last_listed.ensures ∙ (ap (λ (ns : List ℕ). last_of_list ns) (c.requires.subjects c.args.subject.now) ∙ last-numbers c.args.subject.now (rows_of c.args.index.now.messages.items))
