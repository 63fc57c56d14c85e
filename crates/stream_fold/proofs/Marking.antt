-- The mark of an index among those that are held.
use Rattle.std.proofs.Common.{◌≡◌, ℕ, Bool, true, false, cond, eqb, not, List, [], ◌∷◌, ◌++◌, Option, Some, None, refl, arith}
use Rattle.std.specs.Prelude.{◌==◌, filter}
use Rattle.std.proofs.lemmas.Bool.Decides.{nat_tests}
use Rattle.stream_fold.specs.declared.entry.Mark.{Mark}
use Rattle.stream_fold.specs.Histories.{either}
use Rattle.stream_fold.specs.Copying.{mark_in, mark_by}
use Rattle.stream_fold.specs.Parts.{with_mark, with_mark_of}

-- a mark of the very index at the end
mark_in-end : (index : ℕ) (mark : Mark) (ms : List Mark) → eqb mark.index index ≡ true → mark_in index (filter (λ m. not (m.index == mark.index)) ms ++ mark ∷ []) ≡ Some mark.seq
mark_in-end index mark [] e = rw e refl
mark_in-end index mark (m ∷ ms) e = grind (arith, nat_tests, mark_in-end index mark ms e)

mark_in-other : (index : ℕ) (mark : Mark) (ms : List Mark) → eqb mark.index index ≡ false → mark_in index (filter (λ m. not (m.index == mark.index)) ms ++ mark ∷ []) ≡ mark_in index ms
mark_in-other index mark [] e = rw e refl
mark_in-other index mark (m ∷ ms) e = grind (arith, nat_tests, mark_in-other index mark ms e)

mark_in-by : (index : ℕ) (mark : Mark) (ms : List Mark) (b : Bool) → eqb mark.index index ≡ b → mark_in index (with_mark mark ms) ≡ either (cond b (Some mark.seq) None) (mark_in index ms)
mark_in-by index mark ms true e = mark_in-end index mark ms e
mark_in-by index mark ms false e = mark_in-other index mark ms e

-- the mark of an index, where one is put or none
pub mark_in-with : (index : ℕ) (o : Option Mark) (ms : List Mark) → mark_in index (with_mark_of o ms) ≡ either (mark_by index o) (mark_in index ms)
mark_in-with index None ms = refl
mark_in-with index (Some mark) ms = mark_in-by index mark ms (eqb mark.index index) refl
