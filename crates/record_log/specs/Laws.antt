-- What holds of each log for which two disks stand.
use Rattle.std.specs.Prelude.{ℕ, ◌≤◌, List, length}
use Rattle.std.specs.List.{All}
use Rattle.gate_journal.specs.Areas.{max_body}
use Rattle.record_codec.specs.declared.records.Rec.{Rec}
use Rattle.record_codec.specs.Reading.{AreBytes}
use Rattle.record_codec.specs.Spelling.{spelling}
use Rattle.record_log.specs.Standing.{StandIn}

-- the spelling of a record is no longer than a body may be
abbrev pub IsShortRecord : Rec → Type 0
IsShortRecord r = length (spelling r) ≤ max_body

-- whatever bytes two disks hold, the records of a log for which they stand are that short
abbrev pub RecordsAreShort : Type 0
RecordsAreShort = (log : List Rec) (a b : List ℕ) → AreBytes a → AreBytes b → StandIn log a b → All IsShortRecord log
