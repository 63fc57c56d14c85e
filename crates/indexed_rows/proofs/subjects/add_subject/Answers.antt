use Rattle.std.proofs.Common.{ap, ◌∙◌, Some, List, ℕ}
use Rattle.std.specs.Prelude.{⊤}
use Rattle.std.specs.Map.{keys_of}
use Rattle.indexed_rows.specs.Indexes.{listed}
use Rattle.indexed_rows.proofs.Places.{puts, emptied, added_places}
use Rattle.indexed_rows.proofs.subjects.add_subject.Goals as goal

pub returns-clause-listed : goal.returns-clause-listed
returns-clause-listed c =
    emptied c.in_ok-key.key.items (Some c.new.result) c.args.subjects.now c.insert.new.self
    (ap (λ (p : List ℕ). listed p c.args.subjects.now) c.in_ok-key.ensures.items ∙ c.requires)
    (ap (λ (items : List (ℕ × ⊤)). keys_of items) c.new.ensures.items)
    (puts c.in_ok-key.key.items (Some c.new.result) c.args.subjects.now c.insert.new.self c.in_ok-insert.ensures.updates)

pub returns-clause-places : goal.returns-clause-places
returns-clause-places c =
    added_places c.in_ok-key.key.items c.new.result c.args.subjects.now c.insert.new.self c.new.ensures.room
    (puts c.in_ok-key.key.items (Some c.new.result) c.args.subjects.now c.insert.new.self c.in_ok-insert.ensures.updates)
