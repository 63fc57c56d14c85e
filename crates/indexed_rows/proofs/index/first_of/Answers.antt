use Rattle.std.proofs.Common.{ap, ◌∙◌, List, ℕ}
use Rattle.std.specs.Prelude.{filter}
use Rattle.indexed_rows.specs.Indexes.{rows_of, first_of_list, is_of}
use Rattle.indexed_rows.proofs.RowLemmas.{first-seqs}
use Rattle.indexed_rows.proofs.index.first_of.Goals as goal

pub returns : goal.returns
returns c = c.first_listed.ensures ∙ (ap (λ (ns : List ℕ). first_of_list ns) (c.requires.subjects c.args.subject.now) ∙ first-seqs (filter (is_of c.args.subject.now) (rows_of c.args.index.now.messages.items)))
