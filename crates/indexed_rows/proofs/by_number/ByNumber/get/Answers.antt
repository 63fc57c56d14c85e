use Rattle.std.proofs.Common.{◌∙◌}
use Rattle.indexed_rows.proofs.Apart.{alone_at, newest_at, older_at}
use Rattle.indexed_rows.proofs.by_number.ByNumber.get.Goals as goal

pub returns-in_default : goal.returns-in_default
returns-in_default g c = c.get.ensures.value ∙ alone_at c.self.inside.older.entries c.self.inside.newest c.args.self.now c.args.number c.self.view_is c.in_default.is

pub returns-then-newest-number : goal.returns-then-newest-number
returns-then-newest-number g c = newest_at c.self.inside.older.entries c.self.inside.newest c.args.self.now c.args.number (c.in-Some.newest, c.in-Some.value) c.self.view_is c.self.invariant c.in-Some.is c.if-newest-number.true

pub returns : goal.returns
returns g c = c.get-2.ensures.value ∙ older_at c.self.inside.older.entries c.self.inside.newest c.args.self.now c.args.number (c.in-Some.newest, c.in-Some.value) c.self.view_is c.in-Some.is c.if-newest-number.false
