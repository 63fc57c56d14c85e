-- A stream that comes in pieces: what a feed holds, what it gives next, and what that leaves.
use Rattle.std.specs.Prelude.{◌≡◌, ℕ, ◌+◌, ◌-◌, ◌^◌, ◌<◌, ◌≤◌, List, [], ◌++◌, length, take, drop, min, Bool, true, false, ◌||◌, nat_lt, IsTrue, Option, None, Some, Result, Ok, Err, is_some, is_none, if◌then◌else◌}
use Rattle.nats_frames.specs.declared.fault.FrameText.{FrameText}
use Rattle.nats_frames.specs.declared.fault.FeedFault.{FeedFault}
use Rattle.nats_frames.specs.declared.fault.FeedFault.TheVariants.{Refused as IsRefused, NoMemory}
use Rattle.nats_frames.specs.declared.fault.Refused.{Refused}
use Rattle.nats_frames.specs.declared.stream.First.{First}
use Rattle.nats_frames.specs.declared.stream.First.TheVariants.{Frame, More, Refuse}
use Rattle.nats_frames.specs.declared.frame.Side.{Side}
use Rattle.nats_frames.specs.Lines.{has_no_feed}

-- the bytes that no frame was taken of yet, how many bytes the frames before had, up to 2^64 - 1, and
-- the refusal, once there is one
pub record Pending : Type 0 where
  pub rest : List ℕ
  pub taken : ℕ
  pub refused : Option Refused

-- a stream of one side, and how many of its bytes stand in the buffer, with those of frames that were taken
pub record Reading : Type 0 where
  pub side : Side
  pub pending : Pending
  pub held : ℕ

-- nothing came yet
abbrev pub nothing_yet : Pending
nothing_yet = record { rest = []; taken = 0; refused = None }

-- a piece more, which a stream that is refused doesn't keep
abbrev pub fed : Pending → List ℕ → Pending
fed pending piece = if is_none pending.refused then record pending { rest = pending.rest ++ piece } else pending

-- a refusal of what stands behind the frames
abbrev pub refusal : Pending → FrameText → Refused
refusal pending text = record { text = text; place = pending.taken }

-- what comes next of a stream that isn't refused, by what its rest begins with
abbrev pub told_of : {F : Type 0} → Pending → First F → Result (Option F) FeedFault
told_of pending (Frame frame len) = Ok (Some frame)
told_of pending (More wanted) = Ok None
told_of pending (Refuse text) = Err (IsRefused (refusal pending text))

-- what comes next, by what the rest begins with
abbrev pub next_told : {F : Type 0} → Pending → Option Refused → First F → Result (Option F) FeedFault
next_told pending None first = told_of pending first
next_told pending (Some refused) first = Err (IsRefused refused)

-- what that leaves of a stream that isn't refused
abbrev pub left_of : {F : Type 0} → Pending → First F → Pending
left_of pending (Frame frame len) = record { rest = drop len pending.rest; taken = min (pending.taken + len) (2 ^ 64 - 1); refused = None }
left_of pending (More wanted) = pending
left_of pending (Refuse text) = record { rest = []; taken = pending.taken; refused = Some (refusal pending text) }

-- what that leaves
abbrev pub next_left : {F : Type 0} → Pending → Option Refused → First F → Pending
next_left pending None first = left_of pending first
next_left pending (Some refused) first = pending

-- the answer is what comes next, and leaves what that leaves; without memory nothing changes, which a
-- stream that is refused never answers
abbrev pub Gives : {F : Type 0} → (List ℕ → First F) → Pending → Result (Option F) FeedFault → Pending → Type 0
Gives first old (Ok answer) new = (Ok answer ≡ next_told old old.refused (first old.rest)) × (new ≡ next_left old old.refused (first old.rest))
Gives first old (Err (IsRefused refused)) new = (Err (IsRefused refused) ≡ next_told old old.refused (first old.rest)) × (new ≡ next_left old old.refused (first old.rest))
Gives first old (Err NoMemory) new = (new ≡ old) × (old.refused ≡ None)

-- where no frame comes, the rest alone stands in the buffer
abbrev pub HoldsRest : {F : Type 0} → Result (Option F) FeedFault → List ℕ → ℕ → Type 0
HoldsRest (Ok None) rest held = held ≡ length rest
HoldsRest (Ok (Some frame)) rest held = Unit {0}
HoldsRest (Err (IsRefused refused)) rest held = held ≡ length rest
HoldsRest (Err NoMemory) rest held = Unit {0}

-- ---- for clauses of what a feed holds

-- the bytes of a stream that weren't taken yet, and how many stand in the buffer, with those that were
pub record Stock : Type 0 where
  pub bytes : List ℕ
  pub held : ℕ

-- a stream of any kind of connection, the count of bytes with fewer than which nothing can be told, and how
-- many bytes stand in the buffer
pub record Held : Type 0 where
  pub pending : Pending
  pub wanted : ℕ
  pub held : ℕ

-- more bytes are wanted
abbrev pub is_more : {F : Type 0} → First F → Bool
is_more (Frame frame len) = false
is_more (More wanted) = true
is_more (Refuse text) = false

-- with fewer than so many bytes, whatever comes, more are wanted
abbrev pub Waits : {F : Type 0} → (List ℕ → First F) → List ℕ → ℕ → Type 0
Waits first rest wanted = (behind : List ℕ) → length (rest ++ behind) < wanted → is_more (first (rest ++ behind)) ≡ true

-- how many bytes are wanted after an answer: none but where more are wanted
abbrev pub wanted_of : {F : Type 0} → First F → ℕ
wanted_of (Frame frame len) = 0
wanted_of (More wanted) = wanted
wanted_of (Refuse text) = 0

-- a frame has one byte at least, and is within so many bytes
abbrev pub IsWithin : {F : Type 0} → ℕ → First F → Type 0
IsWithin n (Frame frame len) = (0 < len) × (len ≤ n)
IsWithin n (More wanted) = Unit {0}
IsWithin n (Refuse text) = Unit {0}

-- no line ends within what was looked at
pub record IsLooked (rest : List ℕ) (looked : ℕ) : Type 0 where
  pub within : looked ≤ length rest
  pub none : IsTrue (has_no_feed (take looked rest))

-- the buffer of a stream that waits for more bytes, or is refused, has the rest alone
abbrev pub IsAlone : Stock → ℕ → Option Refused → Type 0
IsAlone stock wanted refused = (nat_lt 0 wanted || is_some refused) ≡ true → stock.held ≡ length stock.bytes
