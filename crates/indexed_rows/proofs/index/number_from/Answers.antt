use Rattle.std.proofs.Common.{sym}
use Rattle.indexed_rows.proofs.Walks.{entry_number, entry_no_number}
use Rattle.indexed_rows.proofs.index.number_from.Goals as goal

pub returns-in-Some : goal.returns-in-Some
returns-in-Some c = sym (entry_number c.args.from c.args.index.now.messages.items (c.in-Some.seq, c.in-Some.field-0-1.now) (sym c.in-Some.ensures))

pub returns-in-None : goal.returns-in-None
returns-in-None c = sym (entry_no_number c.args.from c.args.index.now.messages.items (sym c.in-None.ensures))
