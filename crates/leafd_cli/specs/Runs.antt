-- What a run of the program does.
use Rattle.std.specs.Prelude.{◌≡◌, ◌⊎◌, ℕ, List, false, Option, None, Some}
use Rattle.std.specs.Io.KnownBytes.{Keeps}
use Rattle.leafd_words.specs.Commands.{Command, MapTexts, drill, check, inspect, map_subject, command_of, is_taken}
use Rattle.leafd_cli.specs.declared.status.Status.{Status}
use Rattle.leafd_cli.specs.declared.status.Status.TheVariants.{Usage, NoMemory}
use Rattle.leafd_cli.specs.Checking.{Checks}
use Rattle.leafd_cli.specs.Inspecting.{Inspects}
use Rattle.leafd_cli.specs.Mapping.{Maps}
use Rattle.leafd_cli.specs.Outcome.{Drills, CountsRead, CountsWrite, CountsDisks}

-- what the input, the output and the files show at a moment: the bytes left, those written, and each count of faults
pub record Shown : Type 0 where
  pub left : Option (List ℕ)
  pub taken : Option (List ℕ)
  pub input_faults : ℕ
  pub output_faults : ℕ
  pub file_faults : ℕ
  pub disk_faults : ℕ

-- what these objects show
abbrev pub shown : Option (List ℕ) → Option (List ℕ) → ℕ → ℕ → ℕ → ℕ → Shown
shown left taken input_faults output_faults file_faults disk_faults = record { left = left; taken = taken; input_faults = input_faults; output_faults = output_faults; file_faults = file_faults; disk_faults = disk_faults }

-- what holds of a drill, of a check of a file, of an inspection of a folder, of a mapping of a subject, and of no command
abbrev pub ByCommand : Option Command → Type 0 → (List ℕ → Type 0) → (List ℕ → Type 0) → (MapTexts → Type 0) → Type 0 → Type 0
ByCommand (Some drill) drills checks inspects maps none = drills
ByCommand (Some (check conf)) drills checks inspects maps none = checks conf
ByCommand (Some (inspect dir)) drills checks inspects maps none = inspects dir
ByCommand (Some (map_subject texts)) drills checks inspects maps none = maps texts
ByCommand None drills checks inspects maps none = none

-- a command, or none, ends with this status, and has done what goes with it
pub record Does (command : Option Command) (tells : Type 0) (disks texts : List ℕ → Option (List ℕ)) (old new : Shown) (status : Status) : Type 0 where
  -- What a drill has written is the report of a right book for the lines that were read; what a check has
  -- written is whether the file is that of a hub or of a leaf; what an inspection has written are the streams of the
  -- logs for which the disks stand; what a mapping has written is what the transform makes of the subject.
  pub report : ByCommand command
      (Drills old.left new.left old.taken new.taken status)
      (λ conf. Checks tells (texts conf) old.taken new.taken status)
      (λ dir. Inspects tells disks dir old.taken new.taken status)
      (λ words. Maps words old.taken new.taken status)
      (Keeps old.taken new.taken)
  -- each fault comes only where its count rose, and then it isn't passed over
  pub read : ByCommand command
      (CountsRead old.input_faults new.input_faults status)
      (λ _. CountsRead old.file_faults new.file_faults status)
      (λ _. CountsRead old.file_faults new.file_faults status)
      (λ _. new.input_faults ≡ old.input_faults)
      (new.input_faults ≡ old.input_faults)
  pub write : CountsWrite old.output_faults new.output_faults status
  pub disk : CountsDisks old.disk_faults new.disk_faults status

-- a run of these words ends with this status, and has done what goes with it
pub record Ends (words : List (List ℕ)) (tells : Type 0) (disks texts : List ℕ → Option (List ℕ)) (old new : Shown) (status : Status) : Type 0 where
  pub done : Does (command_of words) tells disks texts old new status
  -- `Usage` comes exactly where the reading refuses the words, unless there was no memory to read them
  pub usage : status ≡ Usage → is_taken words ≡ false
  pub refused : is_taken words ≡ false → (status ≡ Usage) ⊎ (status ≡ NoMemory)
