-- The book of a script: the logs after each line. Which books are right, and their report.
use Rattle.std.specs.Prelude.{◌≡◌, ℕ, ◌+◌, List, [], ◌∷◌, ◌++◌, Option, None, Some, Ok}
use Rattle.leafd_script.specs.declared.line.Line.{Line}
use Rattle.leafd_script.specs.declared.line.Line.TheVariants.{Settle}
use Rattle.leafd_cli.specs.Logs.{Logs, no_logs}
use Rattle.leafd_cli.specs.ScriptLines.{ScriptLine}
use Rattle.leafd_cli.specs.Legal.{judged}
use Rattle.leafd_cli.specs.Operations.{nodes_after, clock_after, quiet_after, operated, AllGrow}
use Rattle.leafd_cli.specs.Copies.{AreRight, AreThrough}
use Rattle.leafd_cli.specs.Report.{printed}

-- after `settle` each copy has come as far as its origin
abbrev pub IsSettledBy : Line → Logs → Type 0
IsSettledBy Settle new = AreThrough new.streams new.streams
IsSettledBy _ new = Unit {0}

-- how a line leads from the logs before it to those after it
pub record Leads (old : Logs) (line : Line) (new : Logs) : Type 0 where
  pub nodes : new.nodes ≡ nodes_after old line
  pub clock : new.clock ≡ clock_after old line
  pub quiet : new.quiet ≡ quiet_after old line
  -- an operation makes its entry; all other entries are of copying; no log loses one
  pub streams : AllGrow (operated old line) new.streams
  -- each copy has what its origin's log says
  pub right : AreRight new.streams new.streams
  pub settled : IsSettledBy line new

-- what a line says leads to the next logs; an empty line and a comment change nothing
abbrev pub LeadsOn : Logs → Option Line → Logs → Type 0
LeadsOn old None new = new ≡ old
LeadsOn old (Some line) new = Leads old line new

-- what a line prints
abbrev pub said_text : ℕ → Logs → Option Line → List ℕ
said_text number logs None = []
said_text number logs (Some line) = printed number logs line

-- A right book for these lines, from this line number on and from the logs before it, and its report:
-- each line is legal in its place, leads to the next logs, and prints its part of the report.
abbrev pub IsBook : ℕ → Logs → List ScriptLine → List ℕ → List Logs → Type 0
IsBook number old [] out [] = out ≡ []
IsBook number old (line ∷ lines) out (new ∷ book) =
    (said : Option Line) × (judged old line ≡ Ok said) × LeadsOn old said new × (rest : List ℕ) × (out ≡ said_text number old said ++ rest) × IsBook (number + 1) new lines rest book
IsBook number old [] out (new ∷ book) = ⊥
IsBook number old (line ∷ lines) out [] = ⊥

-- `out` is the report of this book for these lines, which begins without nodes
abbrev pub BookOk : List ScriptLine → List ℕ → List Logs → Type 0
BookOk lines out book = IsBook 1 no_logs lines out book

-- the logs at a book's end
abbrev pub last_logs : Logs → List Logs → Logs
last_logs logs [] = logs
last_logs logs (new ∷ book) = last_logs new book
