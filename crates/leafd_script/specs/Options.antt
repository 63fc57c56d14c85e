-- The options of a stream's line, and the configuration that they give (the stream configuration of
-- JetStream).
use Rattle.std.specs.Prelude.{ℕ, List, [], ◌∷◌, length, take, drop, Bool, false, ◌&&◌, not, ◌==◌, nat_lt, nat_le, if◌then◌else◌, Option, None, Some, Result, Ok, Err, codes}
use Rattle.std.specs.Str.{bytes_eq}
use Rattle.std.specs.List.{list_any, list_all}
use Rattle.nats_text.specs.Text.{is_pattern}
use Rattle.nats_text.specs.Numbers.{number_of}
use Rattle.nats_text.specs.Pieces.{pieces}
use Rattle.nats_text.specs.declared.origin.Origin.{Origin}
use Rattle.nats_text.specs.declared.message.Start.TheVariants.{Seq}
use Rattle.stream_fold.specs.Checking.{config_fault}
use Rattle.stream_fold.specs.declared.config.Config.{Config}
use Rattle.stream_fold.specs.declared.config.Discard.{Discard}
use Rattle.stream_fold.specs.declared.config.Discard.TheVariants.{Old, New}
use Rattle.stream_fold.specs.declared.config.Copies.{Copies}
use Rattle.leafd_script.specs.Words.{◌>>=◌, found_or, has_empty}
use Rattle.leafd_script.specs.declared.fault.ScriptKind.{ScriptKind}
use Rattle.leafd_script.specs.declared.fault.ScriptKind.TheVariants.{BadOption}
use Rattle.leafd_script.specs.declared.line.Changes.{Changes}

-- ---- which words are options

-- the word begins with this name
abbrev pub begins : List ℕ → List ℕ → Bool
begins name w = nat_le (length name) (length w) && bytes_eq (take (length name) w) name

-- the word begins with one of these names
abbrev pub begins_one_of : List (List ℕ) → List ℕ → Bool
begins_one_of names w = list_any (λ name. begins name w) names

-- options that aren't built yet
abbrev pub later_options : List (List ℕ)
later_options = codes "transform=" ∷ codes "start=" ∷ codes "filter=" ∷ codes "map=" ∷ codes "from=" ∷ []

-- one of the words is such an option
abbrev pub has_later : List (List ℕ) → Bool
has_later words = list_any (begins_one_of later_options) words

-- what `update` may name
abbrev pub change_options : List (List ℕ)
change_options = codes "max_msgs=" ∷ codes "max_bytes=" ∷ codes "max_age=" ∷ codes "max_per_subject=" ∷ codes "max_msg_size=" ∷ codes "discard=" ∷ []

-- what `mirror` may name
abbrev pub mirror_options : List (List ℕ)
mirror_options = codes "window=" ∷ change_options

-- what `stream` may name
abbrev pub stream_options : List (List ℕ)
stream_options = codes "subjects=" ∷ mirror_options

-- two words begin with this name
abbrev pub is_twice : List ℕ → List (List ℕ) → Bool
is_twice name [] = false
is_twice name (w ∷ ws) = if begins name w then list_any (begins name) ws else is_twice name ws

-- each word begins with one of the names, and no name begins two words
abbrev pub are_options : List (List ℕ) → List (List ℕ) → Bool
are_options names words = list_all (begins_one_of names) words && not (list_any (λ name. is_twice name words) names)

-- no word of the line is empty, and those where options stand are options
abbrev pub fits : List (List ℕ) → List (List ℕ) → List (List ℕ) → Bool
fits names args options = not (has_empty args) && are_options names options

-- ---- what they say

-- what stands behind this name
abbrev pub value_of : List ℕ → List (List ℕ) → Option (List ℕ)
value_of name [] = None
value_of name (w ∷ ws) = if begins name w then Some (drop (length name) w) else value_of name ws

-- the number of an option, where it is there
abbrev pub number_value : Option (List ℕ) → Result (Option ℕ) ScriptKind
number_value None = Ok None
number_value (Some digits) = do
  n ← found_or BadOption (number_of digits)
  Ok (Some n)

-- the number behind this name
abbrev pub number_option : List ℕ → List (List ℕ) → Result (Option ℕ) ScriptKind
number_option name options = number_value (value_of name options)

-- the word of `discard=`, where it is there
abbrev pub discard_value : Option (List ℕ) → Result (Option Discard) ScriptKind
discard_value None = Ok None
discard_value (Some w) =
    if bytes_eq w (codes "old") then Ok (Some Old)
    else (if bytes_eq w (codes "new") then Ok (Some New) else Err BadOption)

-- what the options change: each that is named
abbrev pub changes_of : List (List ℕ) → Result Changes ScriptKind
changes_of options = do
  msgs ← number_option (codes "max_msgs=") options
  bytes ← number_option (codes "max_bytes=") options
  age ← number_option (codes "max_age=") options
  per_subject ← number_option (codes "max_per_subject=") options
  msg_size ← number_option (codes "max_msg_size=") options
  discarded ← discard_value (value_of (codes "discard=") options)
  Ok (record { max_msgs = msgs; max_bytes = bytes; max_age = age; max_per_subject = per_subject; max_msg_size = msg_size; discard = discarded })

-- the duplicate window that is named
abbrev pub window_of : List (List ℕ) → Result (Option ℕ) ScriptKind
window_of options = number_option (codes "window=") options

-- the texts between commas, by default the name of the stream
abbrev pub subject_words : List ℕ → Option (List ℕ) → List (List ℕ)
subject_words name None = name ∷ []
subject_words name (Some w) = pieces 44 w

abbrev pub pattern_option : List ℕ → Result (List ℕ) ScriptKind
pattern_option w = if is_pattern w then Ok w else Err BadOption

-- these texts, which have to be patterns, as a name always is
abbrev pub patterns_of : List (List ℕ) → Result (List (List ℕ)) ScriptKind
patterns_of words = if list_all is_pattern words then Ok words else Err BadOption

-- the patterns of `subjects=`, or the stream's name where it isn't there
abbrev pub subjects_of : List ℕ → List (List ℕ) → Result (List (List ℕ)) ScriptKind
subjects_of name options = patterns_of (subject_words name (value_of (codes "subjects=") options))

-- ---- the configuration

-- a number that is named, or 0
abbrev pub or_zero : Option ℕ → ℕ
or_zero None = 0
or_zero (Some n) = n

-- what was named, or `old`
abbrev pub or_old : Option Discard → Discard
or_old None = Old
or_old (Some discarded) = discarded

-- two minutes in nanoseconds, or the age to which messages are limited where that is less
abbrev pub default_window : ℕ → ℕ
default_window age = if not (age == 0) && nat_lt age 120000000000 then age else 120000000000

-- 0 stands for the default
abbrev pub window_or_default : ℕ → ℕ → ℕ
window_or_default window age = if window == 0 then default_window age else window

-- the configuration of a stream of this name: limits that aren't named are none
abbrev pub config_of : List ℕ → List (List ℕ) → Changes → Option ℕ → Copies → Config
config_of stream patterns changes named copied = record {
  name = stream;
  subjects = patterns;
  max_msgs = or_zero changes.max_msgs;
  max_bytes = or_zero changes.max_bytes;
  max_age = or_zero changes.max_age;
  max_per_subject = or_zero changes.max_per_subject;
  max_msg_size = or_zero changes.max_msg_size;
  discard = or_old changes.discard;
  window = window_or_default (or_zero named) (or_zero changes.max_age);
  transform = None;
  copies = copied;
}

-- all of a stream on another node, from its first message on
abbrev pub origin_of : List ℕ → List ℕ → Origin
origin_of other origin = record { node = Some other; stream = origin; start = Seq 1; filter = None; maps = [] }

-- a configuration without this fault
abbrev pub without_fault : Option (List ℕ) → Config → Result Config ScriptKind
without_fault None config = Ok config
without_fault (Some member) config = Err BadOption

-- a configuration that a stream may have
unfoldable pub checked : Config → Result Config ScriptKind
checked config = without_fault (config_fault config) config
