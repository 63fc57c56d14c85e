use Rattle.std.proofs.Common.{not, inl, inr, refl, ◌∙◌}
use Rattle.std.specs.Option.{option_copied}
use Rattle.stream_fold.specs.Histories.{is_purged}
use Rattle.indexed_rows.specs.Indexes.{rows_of}
use Rattle.indexed_rows.proofs.Walks.{looked_away, looked_over, purge_told, rows_rise}
use Rattle.indexed_rows.proofs.purging.purge_at.Goals as goal

pub returns-then-has_match-clause-stay : goal.returns-then-has_match-clause-stay
returns-then-has_match-clause-stay c = (looked_away (λ row. not (is_purged c.args.pattern.now c.args.below row)) c.args.seq (rows_of c.args.index.now.messages.items) (rows_of c.delete.new.index.messages.items) (rows_rise c.args.index.now.messages.items c.requires.indexed.rises) (purge_told c.args.pattern.now c.args.below c.args.seq c.args.index.now.messages.items (option_copied c.get.result) c.has_match.result c.requires.below c.has_match.ensures c.get.ensures ∙ c.if-has_match.true) c.delete.ensures.rows).stay

pub returns-then-has_match-clause-passes : goal.returns-then-has_match-clause-passes
returns-then-has_match-clause-passes c = (looked_away (λ row. not (is_purged c.args.pattern.now c.args.below row)) c.args.seq (rows_of c.args.index.now.messages.items) (rows_of c.delete.new.index.messages.items) (rows_rise c.args.index.now.messages.items c.requires.indexed.rises) (purge_told c.args.pattern.now c.args.below c.args.seq c.args.index.now.messages.items (option_copied c.get.result) c.has_match.result c.requires.below c.has_match.ensures c.get.ensures ∙ c.if-has_match.true) c.delete.ensures.rows).passes

pub returns-then-has_match-clause-fewer : goal.returns-then-has_match-clause-fewer
returns-then-has_match-clause-fewer c = inr c.delete.ensures.rows

pub returns-else-has_match-clause-passes : goal.returns-else-has_match-clause-passes
returns-else-has_match-clause-passes c = (looked_over (λ row. not (is_purged c.args.pattern.now c.args.below row)) c.args.seq (rows_of c.args.index.now.messages.items) (rows_rise c.args.index.now.messages.items c.requires.indexed.rises) (purge_told c.args.pattern.now c.args.below c.args.seq c.args.index.now.messages.items (option_copied c.get.result) c.has_match.result c.requires.below c.has_match.ensures c.get.ensures ∙ c.if-has_match.false)).passes

pub returns-else-has_match-clause-fewer : goal.returns-else-has_match-clause-fewer
returns-else-has_match-clause-fewer c = inl refl
