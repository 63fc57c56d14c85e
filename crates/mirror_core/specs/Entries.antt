-- What is said of the entry that a decision brings, and how far a mirror has come.
use Rattle.std.specs.Prelude.{◌≡◌, ℕ, ◌≤◌, ◌<◌, ◌^◌, ◌-◌, max, List, length, Option, Ok, ⊤, IsTrue}
use Rattle.nats_text.specs.Text.{is_subject}
use Rattle.nats_text.specs.Headers.{written, read_block}
use Rattle.nats_text.specs.declared.message.Message.{Message}
use Rattle.record_codec.specs.declared.records.Rec.TheVariants.{Of}
use Rattle.record_codec.specs.Spelling.{IsSpeakable, IsEntry, spelling, entry_text}
use Rattle.stream_fold.specs.declared.config.Copies.{Copies}
use Rattle.stream_fold.specs.declared.config.Copies.TheVariants.{Nothing, Mirror, Sources}
use Rattle.stream_fold.specs.declared.decision.Decision.{Decision}
use Rattle.stream_fold.specs.declared.decision.Decision.TheVariants.{Store, Bind, Rebind, Skip, Ignore, AskAgain, Reply, Heard, Refused, Stop}
use Rattle.stream_fold.specs.declared.entry.BoundTo.{BoundTo}
use Rattle.stream_fold.specs.declared.entry.Entry.{Entry}
use Rattle.stream_fold.specs.Copying.{binding_at, start_by}
use Rattle.stream_fold.specs.Held.{Held}

-- this holds of the entry, where the decision has one
abbrev pub IfEntry : (Entry → Type 0) → Decision → Type 0
IfEntry Holds (Store entry) = Holds entry
IfEntry Holds (Bind entry) = Holds entry
IfEntry Holds Rebind = ⊤
IfEntry Holds Skip = ⊤
IfEntry Holds (Ignore reason) = ⊤
IfEntry Holds (AskAgain why) = ⊤
IfEntry Holds Reply = ⊤
IfEntry Holds Heard = ⊤
IfEntry Holds Refused = ⊤
IfEntry Holds (Stop kept seen) = ⊤

-- The record of an entry of this stream can stand in a journal: it has a spelling, of at most 2 MiB.
pub record IsJournalled (name : List ℕ) (entry : Entry) : Type 0 where
  pub speakable : IsSpeakable (Of name entry)
  pub short : length (spelling (Of name entry)) ≤ 2097152

-- an entry that has a spelling, which with the longest name before it is well below 2 MiB
pub record IsShortEntry (entry : Entry) : Type 0 where
  pub speakable : IsEntry entry
  pub short : length (entry_text entry) ≤ 2096000

-- a message as every message is: its subject is legal, its headers are read as they are written, and
-- its time has 64 bits
pub record IsLegalMessage (m : Message) : Type 0 where
  pub subject : IsTrue (is_subject m.subject)
  pub again : read_block (written m.headers) ≡ Ok m.headers
  pub time : m.time < 2 ^ 64

-- a message is stored
abbrev pub IsStored : Decision → Type 0
IsStored (Store entry) = ⊤
IsStored (Bind entry) = ⊥
IsStored Rebind = ⊥
IsStored Skip = ⊥
IsStored (Ignore reason) = ⊥
IsStored (AskAgain why) = ⊥
IsStored Reply = ⊥
IsStored Heard = ⊥
IsStored Refused = ⊥
IsStored (Stop kept seen) = ⊥

-- where a mirror starts, where it is bound so; 1 where the stream is no mirror
abbrev pub mirror_start : Option BoundTo → Copies → ℕ
mirror_start bound Nothing = 1
mirror_start bound (Mirror origin) = start_by bound origin.start
mirror_start bound (Sources origins) = 1

-- how far a mirror has come, by what is held: its last number, or the one before its start
abbrev pub front_held : Held → ℕ
front_held held = max held.last (mirror_start (binding_at 0 held.bindings) held.limits.copies - 1)
