-- All that is done with a feed, from its beginning on.
use Rattle.std.specs.Prelude.{◌≡◌, ◌-◌, ◌^◌, ◌≤◌, ℕ, List, [], ◌∷◌, ◌++◌, length, min, Option, None, Some, Result, Ok, Err, MatchOption}
use Rattle.nats_frames.specs.declared.fault.FeedFault.{FeedFault}
use Rattle.nats_frames.specs.declared.fault.Refused.{Refused}
use Rattle.nats_frames.specs.declared.stream.First.{First}
use Rattle.nats_frames.specs.declared.stream.First.TheVariants.{Refuse}
use Rattle.nats_frames.specs.Laws.{Takes, frames_by}
use Rattle.nats_frames.specs.Feeds.{Pending, nothing_yet, fed, Gives}

-- a piece was taken, or a call of `next` gave this answer
pub data Event (F : Type 0) : Type 0 where
  Piece : (piece : List ℕ) → Event F
  Answer : (answer : Result (Option F) FeedFault) → Event F

-- the stream so far
abbrev pub stream_of : {F : Type 0} → List (Event F) → List ℕ
stream_of [] = []
stream_of (Piece piece ∷ events) = piece ++ stream_of events
stream_of (Answer answer ∷ events) = stream_of events

-- a frame that was given, before others
abbrev pub onto_given : {F : Type 0} → Result (Option F) FeedFault → List F → List F
onto_given (Ok None) frames = frames
onto_given (Ok (Some frame)) frames = frame ∷ frames
onto_given (Err fault) frames = frames

-- the frames that were given
abbrev pub given_of : {F : Type 0} → List (Event F) → List F
given_of [] = []
given_of (Piece piece ∷ events) = given_of events
given_of (Answer answer ∷ events) = onto_given answer (given_of events)

-- from the one to the other, all went as it should
abbrev pub Runs : {F : Type 0} → (List ℕ → First F) → Pending → List (Event F) → Pending → Type 0
Runs first old [] new = old ≡ new
Runs first old (Piece piece ∷ events) new = Runs first (fed old piece) events new
Runs first old (Answer answer ∷ events) new = (between : Pending) × Gives first old answer between × Runs first between events new

-- where a feed stands in its stream, with these frames taken: what it holds is the rest behind them, or the
-- rest is refused with this text, behind so many bytes
pub record Stands {F : Type 0} (first : List ℕ → First F) (stream : List ℕ) (given : List F) (pending : Pending) : Type 0 where
  pub rest : List ℕ
  pub takes : Takes first stream given rest
  pub place : pending.taken ≡ min (length stream - length rest) (2 ^ 64 - 1)
  pub within : length rest ≤ length stream
  pub held : MatchOption pending.refused (pending.rest ≡ rest) (λ refused. (first rest ≡ Refuse refused.text) × (refused.place ≡ pending.taken))

-- after all that was done since nothing came, a feed stands in the stream behind the frames that it gave
abbrev pub FeedsStand : {F : Type 0} → (List ℕ → First F) → Type 0
FeedsStand {F} first = (events : List (Event F)) (pending : Pending) → Runs first nothing_yet events pending → Stands first (stream_of events) (given_of events) pending

-- the frames that a feed still gives of what it holds
abbrev pub frames_left : {F : Type 0} → (List ℕ → First F) → List ℕ → Option Refused → List F
frames_left first rest None = frames_by first rest
frames_left first rest (Some refused) = []

-- the frames that were given are the front of those of the stream so far, and all of them once it is refused
abbrev pub FeedsGiveFront : {F : Type 0} → (List ℕ → First F) → Type 0
FeedsGiveFront {F} first = (events : List (Event F)) (pending : Pending) → Runs first nothing_yet events pending → frames_by first (stream_of events) ≡ given_of events ++ frames_left first pending.rest pending.refused
