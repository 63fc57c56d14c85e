use Rattle.std.proofs.Common.{sym, ap, List, ℕ}
use Rattle.std.specs.Prelude.{⊤}
use Rattle.std.specs.Map.{keys_of}
use Rattle.indexed_rows.proofs.Places.{writes, same_list, kept_places, room_kept}
use Rattle.indexed_rows.proofs.subjects.reserve_number.Goals as goal

pub returns-in-Some-clause-listed : goal.returns-in-Some-clause-listed
returns-in-Some-clause-listed c =
    same_list c.args.subject.now c.in-Some.numbers.now c.reserve.new.self c.args.subjects.now (c.get_mut.follows.lender c.reserve.new.self) (sym c.in-Some.ensures.value)
    (ap (λ (items : List (ℕ × ⊤)). keys_of items) c.reserve.ensures.items)
    (writes c.args.subject.now c.in-Some.numbers.now c.reserve.new.self c.args.subjects.now (c.get_mut.follows.lender c.reserve.new.self) (sym c.in-Some.ensures.value) (c.get_mut.follows.holds c.reserve.new.self))

pub returns-in-Some-clause-places : goal.returns-in-Some-clause-places
returns-in-Some-clause-places c =
    kept_places c.args.subject.now c.in-Some.numbers.now c.reserve.new.self c.args.subjects.now (c.get_mut.follows.lender c.reserve.new.self) (sym c.in-Some.ensures.value)
    (room_kept c.reserve.result c.in-Some.numbers.now.has_room c.reserve.new.self.has_room c.reserve.ensures.ok c.reserve.ensures.err)
    (writes c.args.subject.now c.in-Some.numbers.now c.reserve.new.self c.args.subjects.now (c.get_mut.follows.lender c.reserve.new.self) (sym c.in-Some.ensures.value) (c.get_mut.follows.holds c.reserve.new.self))
