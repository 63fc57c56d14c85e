-- The words that are a command of `leafd`, as `clap` reads them.
use Rattle.std.specs.Prelude.{ℕ, List, [], ◌∷◌, Bool, true, Option, None, option_map, unwrap_or, codes, if◌then◌else◌}
use Rattle.std.specs.Str.{bytes_eq}
use Rattle.clap.specs.Faults.{fault_of}
use Rattle.clap.specs.Simple.{App, Shape, new_rule, new_shape, new_app, on_top, with_subcommand, subcommand_of}
use Rattle.clap.specs.Walk.{Rule, Row, Text, first_of, is_empty}
use Rattle.std.specs.Prelude.{Some}
use Rattle.clap.specs.declared.builder.action.ArgAction.TheVariants.{Set}
use Rattle.leafd_words.specs.declared.read.MapWords.{MapWords}
use Rattle.leafd_words.specs.declared.read.Words.{Words}
use Rattle.leafd_words.specs.declared.read.Words.TheVariants.{Drill, Check, Inspect, Map}

-- a value that has to be there, once
abbrev pub value_rule : List ℕ → Rule
value_rule id = record (new_rule id) { required = true; action = Some Set }

-- a command of this name that takes these values
abbrev pub command_shape : List ℕ → List Rule → Shape
command_shape name rules = record (new_shape name) { rules = rules }

abbrev pub drill_shape : Shape
drill_shape = new_shape (codes "drill")

abbrev pub check_shape : Shape
check_shape = command_shape (codes "check") (value_rule (codes "CONF") ∷ [])

abbrev pub inspect_shape : Shape
inspect_shape = command_shape (codes "inspect") (value_rule (codes "DIR") ∷ [])

abbrev pub map_shape : Shape
map_shape = command_shape (codes "map") (value_rule (codes "SRC") ∷ value_rule (codes "DEST") ∷ value_rule (codes "SUBJECT") ∷ [])

-- the words behind the program's name, one of which has to be a command; there is no help and no version
abbrev pub leafd_top : App
leafd_top = on_top (λ s. record s { no_binary_name = true; disable_help_flag = true; disable_help_subcommand = true; disable_version_flag = true; subcommand_required = true }) (new_app (codes "leafd"))

-- the commands: `drill`, `check CONF`, `inspect DIR`, `map SRC DEST SUBJECT`
abbrev pub leafd_app : App
leafd_app = with_subcommand (with_subcommand (with_subcommand (with_subcommand leafd_top drill_shape) check_shape) inspect_shape) map_shape

-- the words behind `map`: the two texts of a transform, and the text that it is given
pub record MapTexts : Type 0 where
  pub src : List ℕ
  pub dest : List ℕ
  pub subject : List ℕ

-- a command, with what it is given
pub data Command : Type 0 where
  drill : Command
  check : List ℕ → Command
  inspect : List ℕ → Command
  map_subject : MapTexts → Command

-- the texts of these words
abbrev pub texts_of : MapWords → MapTexts
texts_of words = record { src = words.src.now; dest = words.dest.now; subject = words.subject.now }

-- the command of these words
abbrev pub command : Words → Command
command Drill = drill
command (Check conf) = check conf.now
command (Inspect dir) = inspect dir.now
command (Map texts) = map_subject (texts_of texts)

-- the reading takes the words: it has no error to tell
unfoldable pub is_taken : List (List ℕ) → Bool
is_taken words = is_empty (fault_of leafd_app words)

-- what was found for a value; one that isn't there would count as empty
abbrev pub value_in : List ℕ → List Row → List ℕ
value_in id rows = unwrap_or (first_of id rows) []

-- the command of this name with what was found for it
abbrev pub named : Text × List Row → Command
named found =
    if bytes_eq found.0 (codes "drill") then drill
    else if bytes_eq found.0 (codes "check") then check (value_in (codes "CONF") found.1)
    else if bytes_eq found.0 (codes "inspect") then inspect (value_in (codes "DIR") found.1)
    else map_subject (record { src = value_in (codes "SRC") found.1; dest = value_in (codes "DEST") found.1; subject = value_in (codes "SUBJECT") found.1 })

-- the command that words are: none where the reading refuses them
unfoldable pub command_of : List (List ℕ) → Option Command
command_of words = if is_taken words then option_map named (subcommand_of leafd_app words) else None
