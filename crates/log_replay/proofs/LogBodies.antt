-- One body more, which spells a record that may follow.
use Rattle.std.proofs.Common.{◌≡◌, ℕ, ◌+◌, ◌<◌, Bool, true, false, List, [], ◌∷◌, ◌++◌, length, take, get_or, map, Ok, Some, MatchBool, slice_get, refl}
use Rattle.std.proofs.lemmas.List.{map-append, take_more}
use Rattle.std.proofs.lemmas.Option.{slice_get_read}
use Rattle.record_codec.specs.declared.records.Rec.{Rec}
use Rattle.record_codec.specs.Reading.{reading}
use Rattle.record_codec.specs.Spelling.{spelling}
use Rattle.log_replay.specs.declared.replay.Replay.{Replay}
use Rattle.shard_machine.specs.Legal.{IsLogOf, IsNoNext, MayFollow}
use Rattle.log_replay.specs.Replays.{IsReplayOf}
use Rattle.shard_machine.proofs.LogSteps.{all_follow-snoc}

log_of-snoc : (log : List Rec) (bodies : List (List ℕ)) (it : Rec) (body : List ℕ) → IsLogOf log bodies → reading body ≡ Ok it → MayFollow log it → IsLogOf (log ++ it ∷ []) (bodies ++ body ∷ [])
log_of-snoc log bodies it body is spells may = record {
  are = rw (map-append reading bodies (body ∷ []), map-append, is.are, spells) refl;
  legal = all_follow-snoc [] log it is.legal may;
}

-- the body spells a record that may follow and was taken, or it spells none
abbrev pub TakesBody : List Rec → List ℕ → Replay → Bool → Type 0
TakesBody log body new taken = MatchBool taken ((it : Rec) × (reading body ≡ Ok it) × MayFollow log it × IsReplayOf new (log ++ it ∷ []) × (body ≡ spelling it)) (IsNoNext log body)

spelled-snoc : (log : List Rec) (bodies : List (List ℕ)) (it : Rec) (body : List ℕ) → bodies ≡ map spelling log → body ≡ spelling it → bodies ++ body ∷ [] ≡ map spelling (log ++ it ∷ [])
spelled-snoc log bodies it body are is = rw (are, is, map-append) refl

pub goes_on : (new : Replay) (log : List Rec) (bodies : List (List ℕ)) (i : ℕ) (body : List ℕ) → i < length bodies → body ≡ get_or bodies i body → IsLogOf log (take i bodies) → take i bodies ≡ map spelling log
    → TakesBody log body new true → (longer : List Rec) × IsLogOf longer (take (i + 1) bodies) × IsReplayOf new longer × (take (i + 1) bodies ≡ map spelling longer)
goes_on new log bodies i body within here is spelled took = (
  log ++ took.0 ∷ [],
  rw (take_more bodies i body within, ← here) (log_of-snoc log (take i bodies) took.0 body is took.1 took.2),
  took.3,
  rw (take_more bodies i body within, ← here) (spelled-snoc log (take i bodies) took.0 body spelled took.4),
)

pub stops : (new : Replay) (log : List Rec) (bodies : List (List ℕ)) (i : ℕ) (body : List ℕ) → i < length bodies → body ≡ get_or bodies i body → IsLogOf log (take i bodies)
    → TakesBody log body new false → (l : List Rec) × (b : List ℕ) × IsLogOf l (take i bodies) × (slice_get bodies i ≡ Some b) × IsNoNext l b
stops new log bodies i body within here is none = (log, body, is, slice_get_read bodies (length bodies) i body refl within here, none)
