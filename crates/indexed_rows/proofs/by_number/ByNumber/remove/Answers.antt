use Rattle.std.proofs.Common.{sym, ◌∙◌}
use Rattle.indexed_rows.proofs.Apart.{alone_at, newest_at, older_at, removed_alone, removed_newest, removed_older}
use Rattle.indexed_rows.proofs.by_number.ByNumber.remove.Goals as goal

pub invariant_of-self : goal.invariant_of-self
invariant_of-self g c = (removed_alone c.self.inside.older.entries c.remove.new.self.entries c.self.inside.newest c.take.new.self c.args.self.now c.args.number c.self.view_is c.self.invariant (sym c.take.ensures.value ∙ c.in_default.is) c.take.ensures.after c.remove.ensures.entries).0

pub returns-in_default-clause-value : goal.returns-in_default-clause-value
returns-in_default-clause-value g c = c.remove.ensures.value ∙ alone_at c.self.inside.older.entries c.self.inside.newest c.args.self.now c.args.number c.self.view_is (sym c.take.ensures.value ∙ c.in_default.is)

pub returns-in_default-clause-items : goal.returns-in_default-clause-items
returns-in_default-clause-items g c = (removed_alone c.self.inside.older.entries c.remove.new.self.entries c.self.inside.newest c.take.new.self c.args.self.now c.args.number c.self.view_is c.self.invariant (sym c.take.ensures.value ∙ c.in_default.is) c.take.ensures.after c.remove.ensures.entries).1

pub invariant_of-self-then-newest-number : goal.invariant_of-self-then-newest-number
invariant_of-self-then-newest-number g c = (removed_newest c.self.inside.older.entries c.self.inside.newest c.take.new.self c.args.self.now c.args.number (c.in-Some.newest, c.in-Some.value) c.self.view_is c.self.invariant (sym c.take.ensures.value ∙ c.in-Some.is) c.if-newest-number.true c.take.ensures.after).0

pub returns-then-newest-number-clause-value : goal.returns-then-newest-number-clause-value
returns-then-newest-number-clause-value g c = newest_at c.self.inside.older.entries c.self.inside.newest c.args.self.now c.args.number (c.in-Some.newest, c.in-Some.value) c.self.view_is c.self.invariant (sym c.take.ensures.value ∙ c.in-Some.is) c.if-newest-number.true

pub returns-then-newest-number-clause-items : goal.returns-then-newest-number-clause-items
returns-then-newest-number-clause-items g c = (removed_newest c.self.inside.older.entries c.self.inside.newest c.take.new.self c.args.self.now c.args.number (c.in-Some.newest, c.in-Some.value) c.self.view_is c.self.invariant (sym c.take.ensures.value ∙ c.in-Some.is) c.if-newest-number.true c.take.ensures.after).1

pub invariant_of-self-2 : goal.invariant_of-self-2
invariant_of-self-2 g c = (removed_older c.self.inside.older.entries c.remove-2.new.self.entries c.self.inside.newest c.args.self.now c.args.number (c.in-Some.newest, c.in-Some.value) c.self.view_is c.self.invariant (sym c.take.ensures.value ∙ c.in-Some.is) c.if-newest-number.false c.remove-2.ensures.entries).0

pub returns-clause-value : goal.returns-clause-value
returns-clause-value g c = c.remove-2.ensures.value ∙ older_at c.self.inside.older.entries c.self.inside.newest c.args.self.now c.args.number (c.in-Some.newest, c.in-Some.value) c.self.view_is (sym c.take.ensures.value ∙ c.in-Some.is) c.if-newest-number.false

pub returns-clause-items : goal.returns-clause-items
returns-clause-items g c = (removed_older c.self.inside.older.entries c.remove-2.new.self.entries c.self.inside.newest c.args.self.now c.args.number (c.in-Some.newest, c.in-Some.value) c.self.view_is c.self.invariant (sym c.take.ensures.value ∙ c.in-Some.is) c.if-newest-number.false c.remove-2.ensures.entries).1
