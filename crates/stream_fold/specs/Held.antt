-- What a stream's state shows, and the history for which it stands.
use Rattle.std.specs.Prelude.{◌≡◌, ℕ, ◌+◌, ◌^◌, ◌<◌, max, nat_lt, List, [], ◌∷◌, codes, ◌==◌, if◌then◌else◌, Option, None, Some}
use Rattle.std.specs.Str.{bytes_eq}
use Rattle.nats_text.specs.Headers.{first_value}
use Rattle.nats_text.specs.Sizes.{size}
use Rattle.nats_text.specs.declared.message.Message.{Message}
use Rattle.stream_fold.specs.declared.config.Config.{Config}
use Rattle.stream_fold.specs.declared.entry.Mark.{Mark}
use Rattle.stream_fold.specs.declared.entry.Entry.{Entry}
use Rattle.stream_fold.specs.declared.entry.Entry.TheVariants.{Put, Del, Purge, Expire, Bind, Limits}
use Rattle.stream_fold.specs.declared.entry.Numbered.{Numbered}
use Rattle.stream_fold.specs.declared.parts.Binding.{Binding}
use Rattle.stream_fold.specs.declared.parts.Sent.{Sent}
use Rattle.subject_transform.specs.Transforms.{TransformTexts}
use Rattle.stream_fold.specs.Histories.{History, either, stands, kept, last, clock, size_of}
use Rattle.stream_fold.specs.Copying.{bound, binding_at, last_mark, mark_in}
use Rattle.stream_fold.specs.Publishing.{dup}
use Rattle.stream_fold.specs.Transforming.{own_transform}

-- The configuration in force, the duplicate window, the messages that are kept, the last number, the
-- clock, and three lists that are looked up: what the indexes of the copies are bound to, the last
-- mark of each index, and what clients sent lately.
pub record Held : Type 0 where
  pub limits : Config
  pub window : ℕ
  pub rows : List Numbered
  pub last : ℕ
  pub clock : ℕ
  pub bindings : List Binding
  pub marks : List Mark
  pub sent : List Sent

-- What is held, how many entries may be taken without memory, the identifier for which a place is
-- ready, and the transform that was read for a configuration to come.
pub record State : Type 0 where
  pub held : Held
  pub room : ℕ
  pub spare : Option (List ℕ)
  pub coming : Option TransformTexts

-- ---- repeats, looked up

-- what was sent as this, latest last
abbrev pub latest_in : List ℕ → List Sent → Option Sent
latest_in id [] = None
latest_in id (s ∷ ss) = either (latest_in id ss) (if bytes_eq s.id id then Some s else None)

-- its number, where its time plus the window is above the moment
abbrev pub number_in : ℕ → ℕ → Option Sent → Option ℕ
number_in window moment None = None
number_in window moment (Some s) = if nat_lt moment (s.time + window) then Some s.seq else None

-- the number of which a publish of this identifier would be a repeat, by what is held
abbrev pub repeated_in : Held → Option (List ℕ) → ℕ → Option ℕ
repeated_in held None now = None
repeated_in held (Some id) now = number_in held.window (max now held.clock) (latest_in id held.sent)

-- ---- states and histories

-- the state stands for the history: whatever is looked up in it is what the history leaves
pub record StandsFor (state : State) (h : History) : Type 0 where
  pub limits : state.held.limits ≡ (stands h).limits
  pub window : state.held.window ≡ h.config.window
  pub rows : state.held.rows ≡ kept h
  pub last : state.held.last ≡ last h.entries
  pub clock : state.held.clock ≡ clock h.entries
  pub bound : (index : ℕ) → binding_at index state.held.bindings ≡ bound index h.entries
  pub marks : (index : ℕ) → mark_in index state.held.marks ≡ last_mark index h.entries
  pub repeats : (id : List ℕ) (now : ℕ) → repeated_in state.held (Some id) now ≡ dup h id now

-- the least kept number, or one past the last, or 0 where nothing was put
abbrev pub first_of : List Numbered → ℕ → ℕ
first_of [] last = if last == 0 then 0 else last + 1
first_of (row ∷ rows) last = row.seq

-- ---- room for an entry

-- the identifier under which a client sent a message without a mark
abbrev pub sent_id : Message → Option Mark → Option (List ℕ)
sent_id message None = first_value (codes "Nats-Msg-Id") message.headers
sent_id message (Some mark) = None

-- the identifier under which a client sent the message of an entry
abbrev pub id_of : Entry → Option (List ℕ)
id_of (Put number message mark) = sent_id message mark
id_of (Del number) = None
id_of (Purge pattern below) = None
id_of (Expire now) = None
id_of (Bind index incarnation start) = None
id_of (Limits config) = None

-- the transform that an entry brings
abbrev pub transform_of : Entry → Option TransformTexts
transform_of (Put number message mark) = None
transform_of (Del number) = None
transform_of (Purge pattern below) = None
transform_of (Expire now) = None
transform_of (Bind index incarnation start) = None
transform_of (Limits config) = own_transform config.transform

-- the size of the message of a Put
abbrev pub size_put : Entry → ℕ
size_put (Put number message mark) = size message
size_put (Del number) = 0
size_put (Purge pattern below) = 0
size_put (Expire now) = 0
size_put (Bind index incarnation start) = 0
size_put (Limits config) = 0

-- The entry may be taken without memory: there is a place for it and for its identifier, the transform
-- that it brings is read, and the sizes of what is kept and of its message have a sum of 64 bits.
pub record HasRoom (state : State) (e : Entry) : Type 0 where
  pub places : 0 < state.room
  pub id : state.spare ≡ id_of e
  pub transform : state.coming ≡ transform_of e
  pub sizes : size_of state.held.rows + size_put e < 2 ^ 64
