use Rattle.std.proofs.Common.{sym, ◌∙◌}
use Rattle.indexed_rows.proofs.Apart.{moved}
use Rattle.indexed_rows.proofs.by_number.ByNumber.reserve.Goals as goal

pub invariant_of-self-in-Ok : goal.invariant_of-self-in-Ok
invariant_of-self-in-Ok g c = (moved c.self.inside.older.entries c.insert.new.self.entries c.self.inside.newest c.take.new.self c.args.self.now (c.in-Some.number, c.in-Some.value) c.self.view_is c.self.invariant (sym c.take.ensures.value ∙ c.in-Some.is) c.take.ensures.after c.in-Ok.ensures.entries).0

pub returns-in-Ok-clause-items : goal.returns-in-Ok-clause-items
returns-in-Ok-clause-items g c = (moved c.self.inside.older.entries c.insert.new.self.entries c.self.inside.newest c.take.new.self c.args.self.now (c.in-Some.number, c.in-Some.value) c.self.view_is c.self.invariant (sym c.take.ensures.value ∙ c.in-Some.is) c.take.ensures.after c.in-Ok.ensures.entries).1
