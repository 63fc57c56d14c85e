-- Places that are ready for what is to come, and what is told of it.
use Rattle.std.specs.Prelude.{◌≡◌, ℕ, [], ◌∷◌, List, Option, None, Some}
use Rattle.stream_fold.specs.declared.entry.Entry.{Entry}
use Rattle.stream_fold.specs.declared.entry.Entry.TheVariants.{Put, Del, Purge, Expire, Bind, Limits}
use Rattle.stream_fold.specs.Held.{HasRoom}
use Rattle.log_replay.specs.declared.replay.Known.{Known}
use Rattle.log_replay.specs.declared.replay.Standing.{Standing}
use Rattle.tap_row.specs.declared.notice.Notice.{Notice}
use Rattle.tap_row.specs.declared.notice.Notice.TheVariants.{Stored}

-- the stream that is held may take the entry without memory
abbrev pub HasPlaceFor : Entry → Option Standing → Type 0
HasPlaceFor entry None = ⊥
HasPlaceFor entry (Some standing) = HasRoom standing.state entry

-- the stream that is held under a name may take the entry without memory
abbrev pub MayTake : Entry → Option Known → Type 0
MayTake entry None = ⊥
MayTake entry (Some held) = HasPlaceFor entry held.stream

-- there is a place for a stream, and none stands in it
abbrev pub IsFree : Option Known → Type 0
IsFree None = ⊥
IsFree (Some held) = held.stream ≡ None

-- the number under which an entry stores a message
abbrev pub stored_number : Entry → Option ℕ
stored_number (Put seq message mark) = Some seq
stored_number (Del seq) = None
stored_number (Purge pattern below) = None
stored_number (Expire now) = None
stored_number (Bind index incarnation start) = None
stored_number (Limits config) = None

-- a message is stored under the number, if there is one
abbrev pub stored_notices : List ℕ → Option ℕ → List Notice
stored_notices name None = []
stored_notices name (Some seq) = Stored name seq ∷ []
