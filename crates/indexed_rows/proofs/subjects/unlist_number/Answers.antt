use Rattle.std.proofs.Common.{sym, ◌∙◌}
use Rattle.indexed_rows.specs.Indexes.{ready_in}
use Rattle.indexed_rows.proofs.Places.{ready_stays, ready_kept}
use Rattle.indexed_rows.proofs.subjects.unlist_number.Goals as goal

pub returns-then-not-is_ready-clause-listed : goal.returns-then-not-is_ready-clause-listed
returns-then-not-is_ready-clause-listed c = λ q. c.drop_if_empty.ensures.listed q ∙ c.take_number.ensures.listed q

pub returns-then-not-is_ready-clause-ready : goal.returns-then-not-is_ready-clause-ready
returns-then-not-is_ready-clause-ready c = λ room h.
    ready_stays (ready_in c.args.coming.now) room c.args.subject.now c.take_number.new.subjects c.drop_if_empty.new.subjects (sym c.is_ready.ensures ∙ c.if-not-is_ready.true) c.drop_if_empty.ensures.places
    (ready_kept (ready_in c.args.coming.now) room c.args.subjects.now c.take_number.new.subjects c.take_number.ensures.places h)
