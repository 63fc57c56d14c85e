use Rattle.indexed_rows.proofs.Apart.{newest_last, alone_last}
use Rattle.indexed_rows.proofs.by_number.ByNumber.last.Goals as goal

pub returns-in-Some : goal.returns-in-Some
returns-in-Some g c = newest_last c.self.inside.older.entries c.self.inside.newest c.args.self.now (c.in-Some.number, c.in-Some.field-0-1) c.self.view_is c.in-Some.is

pub returns-in-Some-last_key_value : goal.returns-in-Some-last_key_value
returns-in-Some-last_key_value g c = alone_last c.self.inside.older.entries c.self.inside.newest c.args.self.now (c.in-Some-last_key_value.number.now, c.in-Some-last_key_value.field-0-1.now) c.self.view_is c.in_default.is c.in-Some-last_key_value.ensures.last
