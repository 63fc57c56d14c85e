-- What a bad place says of the bytes.
use Rattle.std.proofs.Common.{◌≡◌, ℕ, ◌+◌, List, drop, Bool, true, false, not, Option, Some, None, sym, take-append-drop, inl, inr}
use Rattle.std.specs.Prelude.{IsTrue, MatchOption}
use Rattle.std.specs.Option.{is_some}
use Rattle.std.proofs.lemmas.Bool.{false_from_ne_true}
use Rattle.nats_text.specs.Places.{IsBadPlace}

-- bytes with a bad place are not legal
pub bad_place-false : (legal : List ℕ → Bool) (bytes : List ℕ) (place : ℕ) → IsBadPlace legal bytes place → legal bytes ≡ false
bad_place-false legal bytes place (inl cut) =
    false_from_ne_true (legal bytes) (λ whole. cut.never (drop (place + 1) bytes, rw take-append-drop whole))
bad_place-false legal bytes place (inr early) = early.short

-- bytes are legal exactly where no place is bad
pub legal_where_none : (legal : List ℕ → Bool) (bytes : List ℕ) (place : Option ℕ) (none : Bool) → MatchOption place (IsTrue (legal bytes)) (IsBadPlace legal bytes) → is_some place ≡ not none → none ≡ legal bytes
legal_where_none legal bytes None true h e = sym h
legal_where_none legal bytes None false h e = absurd cc
legal_where_none legal bytes (Some place) true h e = absurd cc
legal_where_none legal bytes (Some place) false h e = sym (bad_place-false legal bytes place h)
