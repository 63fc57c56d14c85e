-- Copies: what they are bound to, where they start and how far they have come, and what a mirror and
-- a source hold of their origin.
use Rattle.std.specs.Prelude.{◌≡◌, ◌⊎◌, ℕ, ◌+◌, ◌-◌, ◌<◌, ◌≤◌, max, ◌==◌, nat_le, ⊤, List, [], ◌∷◌, ◌++◌, map, if◌then◌else◌, Option, Some, None, slice_get, All, Contains}
use Rattle.nats_text.specs.declared.message.Message.{Message}
use Rattle.nats_text.specs.declared.origin.Origin.{Origin}
use Rattle.nats_text.specs.declared.message.Start.{Start}
use Rattle.nats_text.specs.declared.message.Start.TheVariants.{Seq, Time}
use Rattle.stream_fold.specs.declared.entry.Entry.{Entry}
use Rattle.stream_fold.specs.declared.entry.Entry.TheVariants.{Put, Del, Purge, Expire, Bind, Limits}
use Rattle.stream_fold.specs.declared.entry.BoundTo.{BoundTo}
use Rattle.stream_fold.specs.declared.entry.Numbered.{Numbered}
use Rattle.stream_fold.specs.declared.parts.Binding.{Binding}
use Rattle.stream_fold.specs.declared.entry.Mark.{Mark}
use Rattle.stream_fold.specs.declared.config.Copies.{Copies}
use Rattle.stream_fold.specs.declared.config.Copies.TheVariants.{Nothing, Mirror, Sources}
use Rattle.stream_fold.specs.Histories.{History, either, put, last, number_put, kept, mark_of, stands, IsHole}
use Rattle.stream_fold.specs.RowLists.{Rises}
use Rattle.stream_fold.specs.Sourcing.{via}

-- what this entry binds
abbrev pub bound_by : Entry → List Binding
bound_by (Put number message mark) = []
bound_by (Del number) = []
bound_by (Purge pattern below) = []
bound_by (Expire now) = []
bound_by (Bind index incarnation start) = (record { index = index; to = record { incarnation = incarnation; start = start } }) ∷ []
bound_by (Limits config) = []

-- all that was bound, oldest first
abbrev pub bindings : List Entry → List Binding
bindings [] = []
bindings (e ∷ es) = bound_by e ++ bindings es

-- what an index is bound to
abbrev pub binding_at : ℕ → List Binding → Option BoundTo
binding_at index [] = None
binding_at index (b ∷ bs) = if b.index == index then Some b.to else binding_at index bs

-- what an index is bound to after these entries
abbrev pub bound : ℕ → List Entry → Option BoundTo
bound index entries = binding_at index (bindings entries)

-- the number at which a copy is configured to start; 1 where a moment is configured
abbrev pub configured : Start → ℕ
configured (Seq n) = max 1 n
configured (Time moment) = 1

-- where a copy starts: at the start of its Bind, and before it at the configured one
abbrev pub start_by : Option BoundTo → Start → ℕ
start_by None start = configured start
start_by (Some to) start = max 1 to.start

-- the mark that this entry puts beside a message of the index
abbrev pub mark_by : ℕ → Option Mark → Option ℕ
mark_by index None = None
mark_by index (Some mark) = if mark.index == index then Some mark.seq else None

-- the mark of the last Put that has one of this index
abbrev pub last_mark : ℕ → List Entry → Option ℕ
last_mark index [] = None
last_mark index (e ∷ es) = either (last_mark index es) (mark_by index (mark_of e))

-- the mark of an index among these
abbrev pub mark_in : ℕ → List Mark → Option ℕ
mark_in index [] = None
mark_in index (m ∷ ms) = if m.index == index then Some m.seq else mark_in index ms

-- the origin that an index names
abbrev pub origin_named : ℕ → Copies → Option Origin
origin_named index Nothing = None
origin_named index (Mirror origin) = if index == 0 then Some origin else None
origin_named index (Sources origins) = slice_get origins index

-- where the copy of an origin starts, and 1 where there is none
abbrev pub start_of : Option BoundTo → Option Origin → ℕ
start_of bound None = 1
start_of bound (Some origin) = start_by bound origin.start

-- where the copy of an index starts, after a history
abbrev pub copy_start : ℕ → History → ℕ
copy_start index h = start_of (bound index h.entries) (origin_named index (stands h).limits.copies)

-- the mark, or this number where there is none
abbrev pub mark_or : Option ℕ → ℕ → ℕ
mark_or None number = number
mark_or (Some mark) number = mark

-- How far the copy of an index has come: the mark of its last message, else the number before its
-- start.
abbrev pub mark : ℕ → History → ℕ
mark index h = mark_or (last_mark index h.entries) (copy_start index h - 1)

-- how far a mirror has come: its last number, or the one before its start
abbrev pub front : Start → List Entry → ℕ
front start entries = max (last entries) (start_by (bound 0 entries) start - 1)

-- the message of the origin, under its own number
pub record IsStored (origin : History) (copy : List Entry) (seq : ℕ) : Type 0 where
  pub message : Message
  pub here : put seq copy ≡ Some message
  pub there : put seq origin.entries ≡ Some message

-- nothing, where the origin holds nothing
pub record IsLeftOut (origin : History) (copy : List Entry) (seq : ℕ) : Type 0 where
  pub here : put seq copy ≡ None
  pub hole : IsHole origin seq

-- A mirror that starts at this number has nothing below it, and from it to the mirror's last number
-- the origin's message or nothing where the origin holds none.
pub record MirrorHolds (origin : History) (copy : List Entry) (start : ℕ) : Type 0 where
  pub below : (seq : ℕ) → seq < start → put seq copy ≡ None
  pub each : (seq : ℕ) → start ≤ seq → seq ≤ last copy → IsStored origin copy seq ⊎ IsLeftOut origin copy seq

-- a message that a copy stored of a source, and its mark, which is its number in the origin
pub record Stored : Type 0 where
  pub mark : ℕ
  pub message : Message

-- a message with its mark, where it has one
abbrev pub stored_under : Option ℕ → Message → List Stored
stored_under None message = []
stored_under (Some seq) message = (record { mark = seq; message = message }) ∷ []

-- what this entry stores of the source of an index
abbrev pub stored_by : ℕ → Entry → List Stored
stored_by index (Put number message mark) = stored_under (mark_by index mark) message
stored_by index (Del number) = []
stored_by index (Purge pattern below) = []
stored_by index (Expire now) = []
stored_by index (Bind other incarnation start) = []
stored_by index (Limits config) = []

-- all that was stored of the source of an index, oldest first
abbrev pub stored : ℕ → List Entry → List Stored
stored index [] = []
stored index (e ∷ es) = stored_by index e ++ stored index es

-- the marks of what was stored of the source of an index
abbrev pub marks : ℕ → List Entry → List ℕ
marks index entries = map (λ (s : Stored). s.mark) (stored index entries)

-- a Put has the number one past this one
abbrev pub Follows : ℕ → Entry → Type 0
Follows low (Put number message mark) = number ≡ low + 1
Follows low (Del number) = ⊤
Follows low (Purge pattern below) = ⊤
Follows low (Expire now) = ⊤
Follows low (Bind index incarnation start) = ⊤
Follows low (Limits config) = ⊤

-- each Put has the number one past this one, or past the last of those before it
abbrev pub FollowFrom : ℕ → List Entry → Type 0
FollowFrom low [] = ⊤
FollowFrom low (e ∷ es) = Follows low e × FollowFrom (max low (number_put e)) es

-- each Put has the number one past the last of those before it
abbrev pub NumbersFollow : List Entry → Type 0
NumbersFollow es = FollowFrom 0 es

-- the message that the origin put under the mark, as the source makes it, but for its time
pub record IsVia (want : Origin) (origin : History) (s : Stored) : Type 0 where
  pub message : Message
  pub there : put s.mark origin.entries ≡ Some message
  pub made : via want message s.mark ≡ Some (record (s.message) { time = message.time })

-- A copy has stored of the source of an index, once each and in their order, the messages that this
-- source makes of its origin's, from its start to its mark, but for those of which the origin keeps
-- none; and its own numbers have no gaps.
pub record SourceHolds (want : Origin) (origin copy : History) (index : ℕ) : Type 0 where
  pub rise : Rises (copy_start index copy) (marks index copy.entries)
  pub follow : NumbersFollow copy.entries
  pub each : All (IsVia want origin) (stored index copy.entries)
  pub left_out : (seq : ℕ) (message made : Message) → copy_start index copy ≤ seq → seq ≤ mark index copy → put seq origin.entries ≡ Some message → via want message seq ≡ Some made → Contains (marks index copy.entries) seq ⊎ IsHole origin seq

-- an entry that is neither a Put with a mark of the index nor a Bind of the index
abbrev pub PassesBy : ℕ → Entry → Type 0
PassesBy index (Put number message mark) = mark_by index mark ≡ None
PassesBy index (Del number) = ⊤
PassesBy index (Purge pattern below) = ⊤
PassesBy index (Expire now) = ⊤
PassesBy index (Bind other incarnation start) = ¬ (other ≡ index)
PassesBy index (Limits config) = ⊤

-- an entry that is no Put
abbrev pub IsNoPut : Entry → Type 0
IsNoPut (Put number message mark) = ⊥
IsNoPut (Del number) = ⊤
IsNoPut (Purge pattern below) = ⊤
IsNoPut (Expire now) = ⊤
IsNoPut (Bind index incarnation start) = ⊤
IsNoPut (Limits config) = ⊤

-- the numbers from one on and below another under which the origin put something are holes
abbrev pub AreHolesFrom : History → ℕ → ℕ → Type 0
AreHolesFrom origin low high = (seq : ℕ) (message : Message) → low ≤ seq → seq < high → put seq origin.entries ≡ Some message → IsHole origin seq

-- what a source would store between two numbers are holes of its origin
abbrev pub AreHolesBetween : Origin → History → ℕ → ℕ → Type 0
AreHolesBetween want origin low high = (seq : ℕ) (message made : Message) → low < seq → seq < high → put seq origin.entries ≡ Some message → via want message seq ≡ Some made → IsHole origin seq

-- the least kept number of a time at or after the moment, or the end
abbrev pub number_since : ℕ → List Numbered → ℕ → ℕ
number_since moment [] end = end
number_since moment (row ∷ rows) end = if nat_le moment row.message.time then row.seq else number_since moment rows end

-- the number is where a copy from this moment on starts, of the history as it is or once was
pub record StartsSince (origin : History) (moment start : ℕ) : Type 0 where
  pub front : List Entry
  pub rest : List Entry
  pub whole : origin.entries ≡ front ++ rest
  pub is : start ≡ number_since moment (kept (record { config = origin.config; entries = front })) (last front + 1)

-- the start of a Bind is right for the history of its origin: the configured number, at least 1, or
-- for a moment the least kept number of its time or later, or one past the last
abbrev pub IsRightStart : History → Start → ℕ → Type 0
IsRightStart origin (Seq n) start = start ≡ max 1 n
IsRightStart origin (Time moment) start = StartsSince origin moment start
