use Rattle.std.proofs.Common.{sym, ◌∙◌, refl, None}
use Rattle.indexed_rows.specs.Indexes.{listed}
use Rattle.indexed_rows.proofs.Places.{puts, emptied, other_places, no_keys}
use Rattle.indexed_rows.proofs.subjects.drop_if_empty.Goals as goal

pub returns-then-count_listed-eq0-clause-listed : goal.returns-then-count_listed-eq0-clause-listed
returns-then-count_listed-eq0-clause-listed c =
    emptied c.args.subject.now None c.args.subjects.now c.remove.new.self (no_keys (listed c.args.subject.now c.args.subjects.now) (sym c.count_listed.ensures ∙ c.if-count_listed-eq0.true)) refl
    (puts c.args.subject.now None c.args.subjects.now c.remove.new.self c.remove.ensures.updates)

pub returns-then-count_listed-eq0-clause-places : goal.returns-then-count_listed-eq0-clause-places
returns-then-count_listed-eq0-clause-places c =
    other_places c.args.subject.now None c.args.subjects.now c.remove.new.self (puts c.args.subject.now None c.args.subjects.now c.remove.new.self c.remove.ensures.updates)
