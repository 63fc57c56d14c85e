-- What holds of an entry that fits.
use Rattle.std.proofs.Common.{ℕ, ◌<◌, ◌^◌, List, [], ◌∷◌, subst, arith}
use Rattle.stream_fold.specs.declared.entry.Entry.{Entry}
use Rattle.stream_fold.specs.declared.entry.Entry.TheVariants.{Put, Del, Purge, Expire, Bind, Limits}
use Rattle.stream_fold.specs.Histories.{History, with_entry, last, number_put, IsAbove, RiseFrom}
use Rattle.stream_fold.specs.Fits.{Fits, FitAfter}
use Rattle.stream_fold.proofs.Folds.{last-push}

-- the number that an entry puts is above this one, and below 2^63
pub record IsNext (low : ℕ) (e : Entry) : Type 0 where
  pub above : IsAbove low e
  pub below : number_put e < 2 ^ 63

pub next_of : (h : History) (e : Entry) → Fits h e → IsNext (last h.entries) e
next_of h (Put number message mark) fits = record { above = fits.0; below = fits.1 }
next_of h (Del number) fits = record { above = tt; below = omega arith }
next_of h (Purge pattern below) fits = record { above = tt; below = omega arith }
next_of h (Expire now) fits = record { above = tt; below = omega arith }
next_of h (Bind index incarnation start) fits = record { above = tt; below = omega arith }
next_of h (Limits config) fits = record { above = tt; below = omega arith }

-- entries that fit put numbers that rise
pub fit-rise : (h : History) (es : List Entry) → FitAfter h es → RiseFrom (last h.entries) es
fit-rise h [] fit = tt
fit-rise h (e ∷ es) fit = ((next_of h e fit.0).above, subst (λ l. RiseFrom l es) (last-push h.entries e) (fit-rise (with_entry h e) es fit.1))
