-- How far a drill has come, line by line.
use Rattle.std.specs.Prelude.{◌≡◌, ◌⊎◌, ℕ, ◌+◌, List, ◌∷◌, ◌++◌, length, Option, None, Some, Result, Ok, Err}
use Rattle.std.specs.Io.KnownBytes.{Appends, Keeps}
use Rattle.leaf_edges.specs.Causes.{AppendsPrefix}
use Rattle.leaf_edges.specs.declared.fault.EdgeError.{EdgeError}
use Rattle.leafd_script.specs.declared.line.Line.{Line}
use Rattle.leafd_script.specs.declared.fault.ScriptKind.{ScriptKind}
use Rattle.leafd_script.specs.declared.fault.LineFault.{LineFault}
use Rattle.leafd_cli.specs.declared.drill.Stop.{Stop}
use Rattle.leafd_cli.specs.Logs.{Logs, no_logs}
use Rattle.leafd_cli.specs.ScriptLines.{ScriptLine, lines_of}
use Rattle.leafd_cli.specs.Legal.{judged, fault_of}
use Rattle.leafd_cli.specs.Book.{LeadsOn, said_text, BookOk, last_logs}
use Rattle.leafd_cli.specs.Reporting.{PrintsAll, PrintsBefore, PrintsPart}
use Rattle.leafd_cli.specs.Plain.{Progress}
use Rattle.leafd_cli.specs.Keeping.{AreSound, IsWellMade}

-- what was read is legal in its place
abbrev pub IsLegalOn : Logs → Option Line → Type 0
IsLegalOn logs None = Unit {0}
IsLegalOn logs (Some line) = fault_of logs line ≡ None

abbrev pub IsLegalIfOk : Logs → Result (Option Line) LineFault → Type 0
IsLegalIfOk logs (Ok said) = IsLegalOn logs said
IsLegalIfOk logs (Err fault) = Unit {0}

abbrev pub IsWellMadeOn : Option Line → Type 0
IsWellMadeOn None = Unit {0}
IsWellMadeOn (Some line) = IsWellMade line

-- a line was taken, led as a book says, and its text was written
pub record TakesLine (old : Progress) (line : ScriptLine) (new : Progress) (before after : Option (List ℕ)) : Type 0 where
  pub said : Option Line
  pub legal : judged old.logs line ≡ Ok said
  pub leads : LeadsOn old.logs said new.logs
  pub number : new.number ≡ old.number + 1
  pub written : Appends before after (said_text old.number old.logs said)
  pub kept : AreSound new.logs.streams

-- a line of whose text a prefix was written
pub record Breaks (old : Progress) (line : ScriptLine) (before after : Option (List ℕ)) : Type 0 where
  pub said : Option Line
  pub legal : judged old.logs line ≡ Ok said
  pub logs : Logs
  pub leads : LeadsOn old.logs said logs
  pub written : AppendsPrefix before after (said_text old.number old.logs said)

-- a line that isn't legal in its place changes nothing
pub record Refuses (old : Progress) (line : ScriptLine) (new : Progress) (before after : Option (List ℕ)) (kind : ScriptKind) : Type 0 where
  pub said : judged old.logs line ≡ Err kind
  pub same : new ≡ old
  pub written : Keeps before after

-- what became of a line
abbrev pub IsTurn : Progress → ScriptLine → Progress → Option (List ℕ) → Option (List ℕ) → Result (Option ScriptKind) EdgeError → Type 0
IsTurn old line new before after (Ok None) = TakesLine old line new before after
IsTurn old line new before after (Ok (Some kind)) = Refuses old line new before after kind
IsTurn old line new before after (Err error) = Keeps before after ⊎ Breaks old line before after

-- there is a book for these lines, with this report, and these logs at its end
pub record IsBooked (done : List ScriptLine) (report : List ℕ) (p : Progress) : Type 0 where
  pub book : List Logs
  pub right : BookOk done report book
  pub last : last_logs no_logs book ≡ p.logs
  pub number : p.number ≡ length done + 1
  pub kept : AreSound p.logs.streams

-- there is a book for a front of the lines, before the rest, and its report was written
pub record HasCome (text rest : List ℕ) (p : Progress) (before after : Option (List ℕ)) : Type 0 where
  pub done : List ScriptLine
  pub lines : lines_of text ≡ done ++ lines_of rest
  pub report : List ℕ
  pub booked : IsBooked done report p
  pub written : Appends before after report

-- what became of a script
abbrev pub IsRan : List ℕ → Option (List ℕ) → Option (List ℕ) → Result (Option Stop) EdgeError → Type 0
IsRan text before after (Ok None) = PrintsAll text before after
IsRan text before after (Ok (Some stop)) = PrintsBefore stop.line stop.kind text before after
IsRan text before after (Err error) = PrintsPart text before after
