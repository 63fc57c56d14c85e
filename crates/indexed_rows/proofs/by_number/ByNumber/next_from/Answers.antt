use Rattle.std.proofs.Common.{sym, ◌∙◌}
use Rattle.std.proofs.lemmas.Bool.{le-leb, lt-leb}
use Rattle.indexed_rows.proofs.Apart.{range_at, range_none, range_newest}
use Rattle.indexed_rows.proofs.by_number.ByNumber.next_from.Goals as goal

pub returns-in-Some : goal.returns-in-Some
returns-in-Some g c = range_at c.self.inside.older.entries c.self.inside.newest c.args.self.now c.args.number c.range.result (c.in-Some.found.now, c.in-Some.value.now) c.next.new.self c.self.view_is (c.range.ensures.between tt) c.in-Some.ensures.steps

pub returns-in_default-newest : goal.returns-in_default-newest
returns-in_default-newest g c = range_none c.self.inside.older.entries c.self.inside.newest c.args.self.now c.args.number c.range.result c.self.view_is (c.range.ensures.between tt) (rw c.in_default.is at c.next.ensures.steps).0 c.in_default-newest.is

pub returns-then-number-found : goal.returns-then-number-found
returns-then-number-found g c = sym (range_newest c.self.inside.older.entries c.self.inside.newest c.args.self.now c.args.number c.range.result (c.in-Some-newest.found, c.in-Some-newest.value) c.self.view_is (c.range.ensures.between tt) (rw c.in_default.is at c.next.ensures.steps).0 c.in-Some-newest.is ∙ rw (le-leb c.args.number c.in-Some-newest.found c.if-number-found.true))

pub returns-else-number-found : goal.returns-else-number-found
returns-else-number-found g c = sym (range_newest c.self.inside.older.entries c.self.inside.newest c.args.self.now c.args.number c.range.result (c.in-Some-newest.found, c.in-Some-newest.value) c.self.view_is (c.range.ensures.between tt) (rw c.in_default.is at c.next.ensures.steps).0 c.in-Some-newest.is ∙ rw (lt-leb c.args.number c.in-Some-newest.found c.if-number-found.false))
