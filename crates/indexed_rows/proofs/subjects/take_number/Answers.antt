use Rattle.std.proofs.Common.{◌≡◌, sym, Some, List, ℕ, not, eqb}
use Rattle.std.specs.Prelude.{filter}
use Rattle.indexed_rows.specs.Indexes.{found}
use Rattle.indexed_rows.proofs.Places.{writes, relisted, removed_keys, kept_places}
use Rattle.indexed_rows.proofs.subjects.take_number.Goals as goal

pub returns-in-Some-clause-listed : goal.returns-in-Some-clause-listed
returns-in-Some-clause-listed c =
    let here : found c.args.subject.now c.args.subjects.now ≡ Some c.in-Some.numbers.now = sym c.in-Some.ensures.value in
    relisted (λ (ks : List ℕ). filter (λ k. not (eqb k c.args.number)) ks) c.args.subject.now c.in-Some.numbers.now c.remove.new.self c.args.subjects.now (c.get_mut.follows.lender c.remove.new.self) here
    (removed_keys c.in-Some.numbers.now c.remove.new.self c.args.number c.remove.ensures.items)
    (writes c.args.subject.now c.in-Some.numbers.now c.remove.new.self c.args.subjects.now (c.get_mut.follows.lender c.remove.new.self) here (c.get_mut.follows.holds c.remove.new.self))

pub returns-in-Some-clause-places : goal.returns-in-Some-clause-places
returns-in-Some-clause-places c =
    let here : found c.args.subject.now c.args.subjects.now ≡ Some c.in-Some.numbers.now = sym c.in-Some.ensures.value in
    kept_places c.args.subject.now c.in-Some.numbers.now c.remove.new.self c.args.subjects.now (c.get_mut.follows.lender c.remove.new.self) here c.remove.ensures.room
    (writes c.args.subject.now c.in-Some.numbers.now c.remove.new.self c.args.subjects.now (c.get_mut.follows.lender c.remove.new.self) here (c.get_mut.follows.holds c.remove.new.self))
