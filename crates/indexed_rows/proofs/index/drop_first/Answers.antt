use Rattle.std.proofs.Common.{ℕ, List, sym, subst, ◌∙◌}
use Rattle.stream_fold.specs.RowLists.{Rises}
use Rattle.indexed_rows.specs.Indexes.{rows_of}
use Rattle.indexed_rows.proofs.RowLemmas.{seqs-items, without_first-at, without_first-none}
use Rattle.indexed_rows.proofs.index.drop_first.Goals as goal

pub returns-in-Some-clause-rows : goal.returns-in-Some-clause-rows
returns-in-Some-clause-rows c =
    let items = c.args.index.now.messages.items in
    c.delete.ensures.rows ∙ without_first-at 0 c.in-Some.seq c.args.subject.now (rows_of items) (subst (λ (ns : List ℕ). Rises 0 ns) (sym (seqs-items items)) c.requires.rises) (sym c.first_of.ensures ∙ c.in-Some.is)

pub returns-in_default-clause-rows : goal.returns-in_default-clause-rows
returns-in_default-clause-rows c = sym (without_first-none c.args.subject.now (rows_of c.args.index.now.messages.items) (sym c.first_of.ensures ∙ c.in_default.is))
