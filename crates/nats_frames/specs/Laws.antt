-- What holds of the frames of a stream, whatever the code does.
use Rattle.std.specs.Prelude.{◌≡◌, ℕ, zero, suc, ◌≤◌, ◌<◌, List, [], ◌∷◌, ◌++◌, length, drop}
use Rattle.nats_frames.specs.declared.fault.FrameText.{FrameText}
use Rattle.nats_frames.specs.declared.stream.First.{First}
use Rattle.nats_frames.specs.declared.stream.First.TheVariants.{Frame, More, Refuse}
use Rattle.nats_frames.specs.declared.frame.Side.{Side}
use Rattle.nats_frames.specs.declared.frame.ClientFrame.{ClientFrame}
use Rattle.nats_frames.specs.Frames.{first}
use Rattle.nats_frames.specs.Kinds.{IsOf}
use Rattle.nats_frames.specs.Texts.{text, IsWithinBounds}

-- ---- the frames of bytes

-- the frames of what is left behind a first one, found by `more`
abbrev pub frames_from : {F : Type 0} → (List ℕ → List F) → List ℕ → First F → List F
frames_from more bytes (Frame frame len) = frame ∷ more (drop len bytes)
frames_from more bytes (More wanted) = []
frames_from more bytes (Refuse text) = []

-- the frames at the front of bytes, up to so many
abbrev pub frames_within : {F : Type 0} → (List ℕ → First F) → ℕ → List ℕ → List F
frames_within first zero bytes = []
frames_within first (suc n) bytes = frames_from (frames_within first n) bytes (first bytes)

-- The frames of bytes: those at their front, until there are too few bytes or a refusal. There are no
-- more frames than bytes.
abbrev pub frames_by : {F : Type 0} → (List ℕ → First F) → List ℕ → List F
frames_by first bytes = frames_within first (length bytes) bytes

-- the frames of a stream of a side
abbrev pub frames : Side → List ℕ → List ClientFrame
frames side bytes = frames_by (first side) bytes

-- these frames were taken from the front of the bytes, one after another, and this is the rest
abbrev pub Takes : {F : Type 0} → (List ℕ → First F) → List ℕ → List F → List ℕ → Type 0
Takes first bytes [] rest = bytes ≡ rest
Takes first bytes (frame ∷ others) rest = (len : ℕ) × (first bytes ≡ Frame frame len) × Takes first (drop len bytes) others rest

-- ---- laws for any kind of link

-- a frame has one byte at least, and is within the bytes
abbrev pub FramesAreWithin : {F : Type 0} → (List ℕ → First F) → Type 0
FramesAreWithin {F} first = (bytes : List ℕ) (frame : F) (len : ℕ) → first bytes ≡ Frame frame len → (0 < len) × (len ≤ length bytes)

-- a frame stays, whatever comes behind its bytes
abbrev pub FramesStay : {F : Type 0} → (List ℕ → First F) → Type 0
FramesStay {F} first = (bytes behind : List ℕ) (frame : F) (len : ℕ) → first bytes ≡ Frame frame len → first (bytes ++ behind) ≡ Frame frame len

-- a refusal stays, whatever comes behind
abbrev pub RefusalsStay : {F : Type 0} → (List ℕ → First F) → Type 0
RefusalsStay first = (bytes behind : List ℕ) (refusal : FrameText) → first bytes ≡ Refuse refusal → first (bytes ++ behind) ≡ Refuse refusal

-- the wish for more bytes is for more than there are
abbrev pub WantsMore : {F : Type 0} → (List ℕ → First F) → Type 0
WantsMore first = (bytes : List ℕ) (wanted : ℕ) → first bytes ≡ More wanted → length bytes < wanted

-- the wish for more bytes stays until they are there
abbrev pub WishesStay : {F : Type 0} → (List ℕ → First F) → Type 0
WishesStay first = (bytes behind : List ℕ) (wanted : ℕ) → first bytes ≡ More wanted → length (bytes ++ behind) < wanted → first (bytes ++ behind) ≡ More wanted

-- what was taken from bytes is taken from longer ones too, with the longer rest
abbrev pub TakesStay : {F : Type 0} → (List ℕ → First F) → Type 0
TakesStay {F} first = (bytes behind : List ℕ) (taken : List F) (rest : List ℕ) → Takes first bytes taken rest → Takes first (bytes ++ behind) taken (rest ++ behind)

-- one frame more is taken from the rest
abbrev pub TakesNext : {F : Type 0} → (List ℕ → First F) → Type 0
TakesNext {F} first = (bytes : List ℕ) (taken : List F) (rest : List ℕ) (frame : F) (len : ℕ) → Takes first bytes taken rest → first rest ≡ Frame frame len → Takes first bytes (taken ++ frame ∷ []) (drop len rest)

-- what was taken is the front of the frames, and those of the rest are the others
abbrev pub TakenAreFront : {F : Type 0} → (List ℕ → First F) → Type 0
TakenAreFront {F} first = (bytes : List ℕ) (taken : List F) (rest : List ℕ) → Takes first bytes taken rest → frames_by first bytes ≡ taken ++ frames_by first rest

-- ---- laws of client connections

-- a reading of a side gives frames of this side alone
abbrev pub GivesFramesOf : Type 0
GivesFramesOf = (side : Side) (bytes : List ℕ) (frame : ClientFrame) (len : ℕ) → first side bytes ≡ Frame frame len → IsOf side frame

-- a frame that a reading gives, and whose text is within the bounds, is read again from its text,
-- whatever stands behind it
abbrev pub ReadsItsText : Type 0
ReadsItsText = (side : Side) (bytes : List ℕ) (frame : ClientFrame) (len : ℕ) → first side bytes ≡ Frame frame len → IsWithinBounds frame → (behind : List ℕ) → first side (text frame ++ behind) ≡ Frame frame (length (text frame))

-- each frame that a side may send, and whose text is within the bounds, is read from its text, whatever
-- stands behind it
abbrev pub ReadsEachText : Type 0
ReadsEachText = (side : Side) (frame : ClientFrame) → IsOf side frame → IsWithinBounds frame → (behind : List ℕ) → first side (text frame ++ behind) ≡ Frame frame (length (text frame))
