-- How a command may end, and what it has then read and written.
use Rattle.std.specs.Prelude.{◌≡◌, ◌⊎◌, ℕ, ◌+◌, ◌-◌, ◌^◌, ◌<◌, ◌≤◌, min, List, [], ◌∷◌, ◌++◌, length, Option, None, Some, codes, decimal}
use Rattle.std.specs.Io.KnownBytes.{Appends, Keeps, Consumes, IsAtEnd}
use Rattle.leaf_edges.specs.Causes.{Rose, AppendsPrefix}
use Rattle.leafd_script.specs.declared.fault.ScriptKind.{ScriptKind}
use Rattle.leafd_script.specs.Kinds.{kind_word}
use Rattle.leafd_conf.specs.declared.fault.ConfKind.{ConfKind}
use Rattle.leafd_conf.specs.declared.fault.ConfKind.TheVariants.{NoFile, Syntax}
use Rattle.leafd_conf.specs.Kinds as confs
use Rattle.subject_transform.specs.Kinds as transforms
use Rattle.leafd_cli.specs.declared.status.Status.{Status}
use Rattle.leafd_cli.specs.declared.status.Status.TheVariants.{Done, ScriptFault, ConfFault, Usage, ReadFault, WriteFault, DiskFault, NoMemory, ScriptTooLong, BadJournal, JournalTooLong, BadTransform, NoMatch}
use Rattle.leafd_cli.specs.Reporting.{Prints}

-- the number that the process ends with
abbrev pub status_number : Status → ℕ
status_number Done = 0
status_number (ScriptFault line kind) = 1
status_number (ConfFault kind key) = 1
status_number Usage = 2
status_number ReadFault = 3
status_number WriteFault = 4
status_number DiskFault = 5
status_number NoMemory = 6
status_number ScriptTooLong = 7
status_number (BadJournal name place) = 8
status_number (JournalTooLong name len) = 12
status_number (BadTransform place kind) = 1
status_number NoMatch = 9

-- a kind of fault of a configuration file and, where a member is at fault, its name; then LF
abbrev pub conf_fault : ConfKind → List ℕ → List ℕ
conf_fault NoFile key = codes "NoFile\n"
conf_fault Syntax key = codes "Syntax\n"
conf_fault kind key = confs.kind_word kind ++ 32 ∷ (key ++ codes "\n")

-- the line by which a status is told, none where all is done
abbrev pub status_line : Status → List ℕ
status_line Done = []
status_line (ScriptFault line kind) = codes "leafd: line " ++ (decimal line ++ (codes ": " ++ (kind_word kind ++ codes "\n")))
status_line (ConfFault kind key) = codes "leafd: conf: " ++ conf_fault kind key
status_line Usage = codes "leafd: usage: leafd drill | make NUMBER LINES | trial NUMBER LINES | check CONF | inspect DIR | map SRC DEST SUBJECT | serve CONF\n"
status_line ReadFault = codes "leafd: read fault\n"
status_line WriteFault = codes "leafd: write fault\n"
status_line DiskFault = codes "leafd: disk fault\n"
status_line NoMemory = codes "leafd: out of memory\n"
status_line ScriptTooLong = codes "leafd: script too long\n"
status_line (BadJournal name place) = codes "leafd: bad journal " ++ (name ++ (codes " at " ++ (decimal place ++ codes "\n")))
status_line (JournalTooLong name len) = codes "leafd: journal too long " ++ (name ++ codes "\n")
status_line (BadTransform place kind) = codes "leafd: transform: " ++ (transforms.kind_word kind ++ (codes " at " ++ (decimal place ++ codes "\n")))
status_line NoMatch = codes "leafd: no match\n"

-- a source gave this text and then its end
pub record IsRead (old new : Option (List ℕ)) (text : List ℕ) : Type 0 where
  pub consumed : Consumes old new text
  pub end : IsAtEnd new
  pub short : length text ≤ 16777216

-- a source that tells what it has left has more than the most bytes of a script
abbrev pub IsTooLongScript : Option (List ℕ) → Type 0
IsTooLongScript None = Unit {0}
IsTooLongScript (Some left) = 16777216 < length left

-- a script was read to its end, and this is printed of it
abbrev pub HasRun : Option (List ℕ) → Option (List ℕ) → Option (List ℕ) → Option (List ℕ) → Status → Type 0
HasRun left rest before after status = (text : List ℕ) × IsRead left rest text × Prints text before after status

-- what a drill has read and written, by its status
abbrev pub Drills : Option (List ℕ) → Option (List ℕ) → Option (List ℕ) → Option (List ℕ) → Status → Type 0
Drills left rest before after Done = HasRun left rest before after Done
Drills left rest before after (ScriptFault line kind) = HasRun left rest before after (ScriptFault line kind)
Drills left rest before after (ConfFault kind key) = ⊥
Drills left rest before after Usage = ⊥
Drills left rest before after ReadFault = Keeps before after
Drills left rest before after WriteFault = HasRun left rest before after WriteFault
Drills left rest before after NoMemory = Keeps before after ⊎ HasRun left rest before after NoMemory
Drills left rest before after DiskFault = ⊥
Drills left rest before after ScriptTooLong = IsTooLongScript left × Keeps before after
Drills left rest before after (BadJournal name place) = ⊥
Drills left rest before after (JournalTooLong name len) = ⊥
Drills left rest before after (BadTransform place kind) = ⊥
Drills left rest before after NoMatch = ⊥

-- what was told of a status: nothing where all is done, else a prefix of its line
abbrev pub Tells : Option (List ℕ) → Option (List ℕ) → Status → Type 0
Tells before after Done = Keeps before after
Tells before after status = AppendsPrefix before after (status_line status)

-- ReadFault comes only where the count of faults of what is read rose, and at every other status it didn't
abbrev pub CountsRead : ℕ → ℕ → Status → Type 0
CountsRead before now ReadFault = Rose before now
CountsRead before now _ = now ≡ before

-- WriteFault comes only where the count of faults of the output rose, and at every other status it didn't
abbrev pub CountsWrite : ℕ → ℕ → Status → Type 0
CountsWrite before now WriteFault = Rose before now
CountsWrite before now _ = now ≡ before

-- the report was written, or a prefix of it
abbrev pub Writes : Option (List ℕ) → Option (List ℕ) → List ℕ → Status → Type 0
Writes before after report status = ((status ≡ Done) × Appends before after report)
    ⊎ (((status ≡ WriteFault) ⊎ (status ≡ NoMemory)) × AppendsPrefix before after report)

-- a count went up by one, up to its type's end
abbrev pub GoesUp : ℕ → ℕ → Type 0
GoesUp before now = now ≡ min (before + 1) (2 ^ 64 - 1)

-- DiskFault comes only where the files' count of disk faults went up, and at every other status it didn't
abbrev pub CountsDisks : ℕ → ℕ → Status → Type 0
CountsDisks before now DiskFault = GoesUp before now
CountsDisks before now _ = now ≡ before

-- how the reading of a source ended: at its end, or past the most bytes of a script
abbrev pub Gathers : Option (List ℕ) → Option (List ℕ) → List ℕ → Type 0
Gathers old new text = Consumes old new text × (length text ≤ 16777216 → IsAtEnd new)

-- one read: the bytes join the text, and none come at the end alone
pub record ReadsPiece (old new : Option (List ℕ)) (before after : List ℕ) (count : ℕ) : Type 0 where
  pub bytes : List ℕ
  pub joined : after ≡ before ++ bytes
  pub count_is : length bytes ≡ count
  pub consumed : Consumes old new bytes
  pub end : count ≡ 0 → IsAtEnd new
