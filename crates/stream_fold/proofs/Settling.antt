-- What an entry leaves settled.
use Rattle.std.proofs.Common.{◌≡◌, ◌<◌, ◌^◌, max, sym, subst, arith}
use Rattle.stream_fold.specs.declared.entry.Entry.{Entry}
use Rattle.stream_fold.specs.Histories.{History, number_put, limits_after, changed_rows}
use Rattle.stream_fold.specs.Fits.{Fits}
use Rattle.stream_fold.specs.Held.{Held, State, StandsFor}
use Rattle.stream_fold.specs.Parts.{IsSettled, held_after}
use Rattle.stream_fold.proofs.Fitting.{IsNext, next_of}
use Rattle.stream_fold.proofs.KeptRows.{Rises-held_after, below-held_after}
use Rattle.stream_fold.proofs.Newest.{limited-newest}

settled_step : (held : Held) (e : Entry) → IsNext held.last e → IsSettled held → IsSettled (held_after held e)
settled_step held e next settled = record {
  last = (let low = next.below in let was = settled.last in let q : max held.last (number_put e) < 2 ^ 63 = omega arith in q);
  newest = λ some. limited-newest (limits_after held.limits e) (changed_rows held.limits e held.rows) some;
  rises = Rises-held_after held e next.above settled.below settled.rises;
  below = below-held_after held e settled.below;
}

-- an entry that fits leaves what is settled
pub settled_after : (old new : Held) (e : Entry) → IsNext old.last e → IsSettled old → new ≡ held_after old e → IsSettled new
settled_after old new e next settled step = subst IsSettled (sym step) (settled_step old e next settled)

-- an entry that fits a history puts a number above the last one of a state for it
pub next_for : (state : State) (h : History) (e : Entry) → StandsFor state h → Fits h e → IsNext state.held.last e
next_for state h e s fits = subst (λ n. IsNext n e) (sym s.last) (next_of h e fits)
