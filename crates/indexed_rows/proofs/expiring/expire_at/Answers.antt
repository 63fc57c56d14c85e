use Rattle.std.proofs.Common.{not, inl, inr, refl, ◌∙◌}
use Rattle.std.specs.Option.{option_copied}
use Rattle.stream_fold.specs.Histories.{is_expired}
use Rattle.indexed_rows.specs.Indexes.{rows_of}
use Rattle.indexed_rows.proofs.Walks.{looked_away, looked_over, expiry_told, rows_rise}
use Rattle.indexed_rows.proofs.expiring.expire_at.Goals as goal

pub returns-then-has_expired-clause-stay : goal.returns-then-has_expired-clause-stay
returns-then-has_expired-clause-stay c = (looked_away (λ row. not (is_expired c.args.max_age c.args.now row)) c.args.seq (rows_of c.args.index.now.messages.items) (rows_of c.delete.new.index.messages.items) (rows_rise c.args.index.now.messages.items c.requires.rises) (expiry_told c.args.max_age c.args.now c.args.seq c.args.index.now.messages.items (option_copied c.get.result) c.has_expired.result c.has_expired.ensures c.get.ensures ∙ c.if-has_expired.true) c.delete.ensures.rows).stay

pub returns-then-has_expired-clause-passes : goal.returns-then-has_expired-clause-passes
returns-then-has_expired-clause-passes c = (looked_away (λ row. not (is_expired c.args.max_age c.args.now row)) c.args.seq (rows_of c.args.index.now.messages.items) (rows_of c.delete.new.index.messages.items) (rows_rise c.args.index.now.messages.items c.requires.rises) (expiry_told c.args.max_age c.args.now c.args.seq c.args.index.now.messages.items (option_copied c.get.result) c.has_expired.result c.has_expired.ensures c.get.ensures ∙ c.if-has_expired.true) c.delete.ensures.rows).passes

pub returns-then-has_expired-clause-fewer : goal.returns-then-has_expired-clause-fewer
returns-then-has_expired-clause-fewer c = inr c.delete.ensures.rows

pub returns-else-has_expired-clause-passes : goal.returns-else-has_expired-clause-passes
returns-else-has_expired-clause-passes c = (looked_over (λ row. not (is_expired c.args.max_age c.args.now row)) c.args.seq (rows_of c.args.index.now.messages.items) (rows_rise c.args.index.now.messages.items c.requires.rises) (expiry_told c.args.max_age c.args.now c.args.seq c.args.index.now.messages.items (option_copied c.get.result) c.has_expired.result c.has_expired.ensures c.get.ensures ∙ c.if-has_expired.false)).passes

pub returns-else-has_expired-clause-fewer : goal.returns-else-has_expired-clause-fewer
returns-else-has_expired-clause-fewer c = inl refl
