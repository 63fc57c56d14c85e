-- The place at which a stream of a name is found.
use Rattle.std.proofs.Common.{◌≡◌, ℕ, ◌+◌, List, [], ◌∷◌, Bool, true, false, cond, Option, None, Some, zero, suc, refl, sym, ap, subst, arith}
use Rattle.std.specs.Prelude.{MatchOption}
use Rattle.std.specs.List.{position_from}
use Rattle.leafd_cli.specs.Logs.{StreamLog, is_at, stream_at}
use Rattle.leafd_cli.specs.Operations.{Task, worked, worked_in}
use Rattle.leafd_cli.specs.Places.{IsPlace}

abbrev pub PlaceFrom : ℕ → Task → ℕ → List StreamLog → Option ℕ → Type 0
PlaceFrom now task n streams place = MatchOption place (stream_at task.node task.name streams ≡ None) (λ at. (k : ℕ) × (at ≡ n + k) × IsPlace now task streams k)

place_here : (now : ℕ) (task : Task) (n : ℕ) (s : StreamLog) (streams : List StreamLog) → is_at task.node task.name s ≡ true → PlaceFrom now task n (s ∷ streams) (Some n)
place_here now task n s streams e = (zero, omega arith, record { within = omega arith; found = λ d. rw e refl; done = λ d. rw e refl })

place_later : (now : ℕ) (task : Task) (n : ℕ) (s : StreamLog) (streams : List StreamLog) (place : Option ℕ) → is_at task.node task.name s ≡ false → PlaceFrom now task (n + 1) streams place → PlaceFrom now task n (s ∷ streams) place
place_later now task n s streams None e h = rw e h
place_later now task n s streams (Some at) e h =
    (suc h.0, omega (arith, h.1), record { within = omega (arith, h.2.within); found = λ d. rw e (h.2.found d); done = λ d. rw e (ap (λ ss. s ∷ ss) (h.2.done d)) })

pub place_from : (now : ℕ) (task : Task) (n : ℕ) (streams : List StreamLog) → PlaceFrom now task n streams (position_from (is_at task.node task.name) n streams)
place_from now task n [] = refl
place_from now task n (s ∷ streams) =
    let P : Bool → Type 0 = λ b. is_at task.node task.name s ≡ b → PlaceFrom now task n (s ∷ streams) (cond b (Some n) (position_from (is_at task.node task.name) (n + 1) streams)) in
    let go : (b : Bool) → P b = λ b. elim b as P [ true ↦ (λ e. place_here now task n s streams e) | false ↦ (λ e. place_later now task n s streams _ e (place_from now task (n + 1) streams)) ] in
    go (is_at task.node task.name s) refl

from_start : (now : ℕ) (task : Task) (streams : List StreamLog) (place : Option ℕ) → PlaceFrom now task 0 streams place → MatchOption place (stream_at task.node task.name streams ≡ None) (IsPlace now task streams)
from_start now task streams None h = h
from_start now task streams (Some at) h = let P : ℕ → Type 0 = IsPlace now task streams in let e : h.0 ≡ at = omega (arith, h.1) in subst P e h.2

pub place_is : (now : ℕ) (task : Task) (streams : List StreamLog) (place : Option ℕ) → place ≡ position_from (is_at task.node task.name) 0 streams → MatchOption place (stream_at task.node task.name streams ≡ None) (IsPlace now task streams)
place_is now task streams place e = let P : Option ℕ → Type 0 = PlaceFrom now task 0 streams in from_start now task streams place (subst P (sym e) (place_from now task 0 streams))

-- a stream that isn't there takes nothing
pub nothing_worked : (now : ℕ) (task : Task) (streams : List StreamLog) → stream_at task.node task.name streams ≡ None → worked_in now task streams ≡ streams
nothing_worked now task [] e = refl
nothing_worked now task (s ∷ streams) e =
    let P : Bool → Type 0 = λ b. cond b (Some s) (stream_at task.node task.name streams) ≡ None → cond b (worked now task.operation s ∷ streams) (s ∷ worked_in now task streams) ≡ s ∷ streams in
    let go : (b : Bool) → P b = λ b. elim b as P [
      | true ↦ (λ f. absurd (cc))
      | false ↦ (λ f. ap (λ ss. s ∷ ss) (nothing_worked now task streams f))
    ] in
    go (is_at task.node task.name s) e

-- the place that was found, or that there is none
pub no_place : (now : ℕ) (task : Task) (streams : List StreamLog) (place : Option ℕ) → place ≡ position_from (is_at task.node task.name) 0 streams → place ≡ None → stream_at task.node task.name streams ≡ None
no_place now task streams place e none =
    let P : Option ℕ → Type 0 = λ o. MatchOption o (stream_at task.node task.name streams ≡ None) (IsPlace now task streams) in
    subst P none (place_is now task streams place e)

pub the_place : (now : ℕ) (task : Task) (streams : List StreamLog) (place : Option ℕ) (k : ℕ) → place ≡ position_from (is_at task.node task.name) 0 streams → place ≡ Some k → IsPlace now task streams k
the_place now task streams place k e some =
    let P : Option ℕ → Type 0 = λ o. MatchOption o (stream_at task.node task.name streams ≡ None) (IsPlace now task streams) in
    subst P some (place_is now task streams place e)
