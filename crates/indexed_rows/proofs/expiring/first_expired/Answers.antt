use Rattle.std.proofs.Common.{Bool, Some, None, cond, sym, ap, ◌∙◌}
use Rattle.indexed_rows.proofs.Walks.{front_none, front_at}
use Rattle.indexed_rows.proofs.expiring.first_expired.Goals as goal

pub returns-in_default : goal.returns-in_default
returns-in_default c = sym (front_none c.args.max_age c.args.now c.args.index.now.messages.items (sym (rw c.in_default.is at c.next_from.ensures)))

pub returns-then-is_expired : goal.returns-then-is_expired
returns-then-is_expired c = sym (front_at c.args.max_age c.args.now c.args.index.now.messages.items (c.in-Some.seq, c.in-Some.message.now) (sym c.in-Some.ensures) ∙ ap (λ (b : Bool). cond b (Some c.in-Some.seq) None) (sym c.is_expired.ensures ∙ c.if-is_expired.true))

pub returns-else-is_expired : goal.returns-else-is_expired
returns-else-is_expired c = sym (front_at c.args.max_age c.args.now c.args.index.now.messages.items (c.in-Some.seq, c.in-Some.message.now) (sym c.in-Some.ensures) ∙ ap (λ (b : Bool). cond b (Some c.in-Some.seq) None) (sym c.is_expired.ensures ∙ c.if-is_expired.false))
