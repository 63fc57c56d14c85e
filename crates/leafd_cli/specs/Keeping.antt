-- What the plain world keeps of its streams, beside what a book says of them.
use Rattle.std.specs.Prelude.{◌≡◌, ℕ, ◌<◌, ◌^◌, List, [], ◌∷◌, ◌++◌, Some}
use Rattle.nats_text.specs.declared.message.Start.TheVariants.{Seq}
use Rattle.stream_fold.specs.declared.config.Copies.{Copies}
use Rattle.stream_fold.specs.declared.config.Copies.TheVariants.{Nothing, Mirror, Sources}
use Rattle.stream_fold.specs.declared.entry.Numbered.{Numbered}
use Rattle.stream_fold.specs.Histories.{last, NumbersRise}
use Rattle.stream_fold.specs.Copying.{bound}
use Rattle.leafd_script.specs.declared.line.Line.{Line}
use Rattle.leafd_script.specs.Lines.{MirrorsAnother, CopiesNothing}
use Rattle.leafd_cli.specs.Logs.{StreamLog, history_of, limits_of}
use Rattle.leafd_cli.specs.Legal.{origin_among}
use Rattle.leafd_cli.specs.Copies.{CopyHolds}

-- a mirror copies a stream that was made before it, from its first number on, and has what that
-- one's log says
abbrev pub KeepsCopy : List StreamLog → StreamLog → Copies → Type 0
KeepsCopy before copy Nothing = Unit {0}
KeepsCopy before copy (Mirror want) = (origin : StreamLog) × (origin_among want before ≡ Some origin) × (want.start ≡ Seq 1) × CopyHolds (bound 0 copy.entries) want.start (history_of origin) copy.entries
KeepsCopy before copy (Sources wants) = ⊥

-- each of the streams that were made behind these keeps so
abbrev pub AllKeep : List StreamLog → List StreamLog → Type 0
AllKeep before [] = Unit {0}
AllKeep before (s ∷ streams) = KeepsCopy before s s.config.copies × AllKeep (before ++ s ∷ []) streams

-- the numbers of a log rise and are below 2^63, and no entry changed what the stream copies
pub record IsNumbered (s : StreamLog) : Type 0 where
  pub rising : NumbersRise s.entries
  pub below : last s.entries < 2 ^ 63
  pub copies : (limits_of s).copies ≡ s.config.copies

abbrev pub AllNumbered : List StreamLog → Type 0
AllNumbered [] = Unit {0}
AllNumbered (s ∷ streams) = IsNumbered s × AllNumbered streams

pub record AreSound (streams : List StreamLog) : Type 0 where
  pub copies : AllKeep [] streams
  pub numbers : AllNumbered streams

-- messages that may be put one after another behind this number
abbrev pub CanFollow : ℕ → List Numbered → Type 0
CanFollow low [] = Unit {0}
CanFollow low (row ∷ rows) = (low < row.seq) × (row.seq < 2 ^ 63) × CanFollow row.seq rows

-- a line `mirror` copies all of another stream, and a line `stream` copies nothing
abbrev pub IsWellMade : Line → Type 0
IsWellMade line = MirrorsAnother line × CopiesNothing line
