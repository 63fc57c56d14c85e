use Rattle.std.proofs.Common.{◌≡◌, sym, ◌++◌, ◌∷◌, [], Some, List, ℕ}
use Rattle.indexed_rows.specs.Indexes.{found}
use Rattle.indexed_rows.proofs.Places.{writes, relisted, pushed_keys}
use Rattle.indexed_rows.proofs.subjects.list_number.Goals as goal

pub returns-in-Some : goal.returns-in-Some
returns-in-Some c =
    let here : found c.args.subject.now c.args.subjects.now ≡ Some c.in-Some.numbers.now = sym c.in-Some.ensures.value in
    relisted (λ (ks : List ℕ). ks ++ c.args.number ∷ []) c.args.subject.now c.in-Some.numbers.now c.push.new.self c.args.subjects.now (c.get_mut.follows.lender c.push.new.self) here
    (pushed_keys c.in-Some.numbers.now c.push.new.self c.args.number _ c.push.ensures)
    (writes c.args.subject.now c.in-Some.numbers.now c.push.new.self c.args.subjects.now (c.get_mut.follows.lender c.push.new.self) here (c.get_mut.follows.holds c.push.new.self))
