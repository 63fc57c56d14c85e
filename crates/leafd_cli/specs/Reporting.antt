-- What of a script's report was printed.
use Rattle.std.specs.Prelude.{◌≡◌, ℕ, ◌+◌, List, ◌∷◌, ◌++◌, length, Option, Err}
use Rattle.std.specs.Io.KnownBytes.{Appends}
use Rattle.leaf_edges.specs.Causes.{AppendsPrefix}
use Rattle.leafd_script.specs.declared.fault.ScriptKind.{ScriptKind}
use Rattle.leafd_cli.specs.declared.status.Status.{Status}
use Rattle.leafd_cli.specs.declared.status.Status.TheVariants.{Done, ScriptFault, ConfFault, Usage, ReadFault, WriteFault, DiskFault, NoMemory, ScriptTooLong, BadJournal, JournalTooLong, BadTransform, NoMatch}
use Rattle.leafd_cli.specs.Logs.{Logs, no_logs}
use Rattle.leafd_cli.specs.ScriptLines.{ScriptLine, lines_of}
use Rattle.leafd_cli.specs.Legal.{judged}
use Rattle.leafd_cli.specs.Book.{BookOk, last_logs}

-- the whole report of a book for all lines of a text
pub record PrintsAll (text : List ℕ) (before after : Option (List ℕ)) : Type 0 where
  pub report : List ℕ
  pub book : List Logs
  pub right : BookOk (lines_of text) report book
  pub written : Appends before after report

-- the report of a book for the lines before the first that isn't legal in its place
pub record PrintsBefore (number : ℕ) (kind : ScriptKind) (text : List ℕ) (before after : Option (List ℕ)) : Type 0 where
  pub done : List ScriptLine
  pub line : ScriptLine
  pub more : List ScriptLine
  pub lines : lines_of text ≡ done ++ line ∷ more
  pub number_is : number ≡ length done + 1
  pub report : List ℕ
  pub book : List Logs
  pub right : BookOk done report book
  pub refused : judged (last_logs no_logs book) line ≡ Err kind
  pub written : Appends before after report

-- a prefix of the report of a book for a prefix of the lines
pub record PrintsPart (text : List ℕ) (before after : Option (List ℕ)) : Type 0 where
  pub done : List ScriptLine
  pub more : List ScriptLine
  pub lines : lines_of text ≡ done ++ more
  pub report : List ℕ
  pub book : List Logs
  pub right : BookOk done report book
  pub written : AppendsPrefix before after report

-- what is printed of a script that was read, by its status
abbrev pub Prints : List ℕ → Option (List ℕ) → Option (List ℕ) → Status → Type 0
Prints text before after Done = PrintsAll text before after
Prints text before after (ScriptFault number kind) = PrintsBefore number kind text before after
Prints text before after (ConfFault kind key) = ⊥
Prints text before after WriteFault = PrintsPart text before after
Prints text before after NoMemory = PrintsPart text before after
Prints text before after Usage = ⊥
Prints text before after ReadFault = ⊥
Prints text before after DiskFault = ⊥
Prints text before after ScriptTooLong = ⊥
Prints text before after (BadJournal name place) = ⊥
Prints text before after (JournalTooLong name len) = ⊥
Prints text before after (BadTransform place kind) = ⊥
Prints text before after NoMatch = ⊥
