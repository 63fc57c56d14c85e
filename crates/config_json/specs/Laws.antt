-- What holds of all configurations.
use Rattle.std.specs.Prelude.{◌≡◌, ℕ, ◌<◌, ◌^◌, List, [], ◌∷◌, true, None, Some, Ok}
use Rattle.std.specs.List.{list_all}
use Rattle.std.specs.Option.{option_map_or}
use Rattle.serde_json.specs.Read.{read}
use Rattle.nats_text.specs.Headers.{is_line_byte}
use Rattle.nats_text.specs.Text.{is_name, is_pattern}
use Rattle.nats_text.specs.declared.message.Start.{Start}
use Rattle.nats_text.specs.declared.message.Start.TheVariants.{Seq, Time}
use Rattle.nats_text.specs.declared.origin.Origin.{Origin}
use Rattle.stream_fold.specs.Checking.{config_fault}
use Rattle.stream_fold.specs.declared.config.Config.{Config}
use Rattle.stream_fold.specs.declared.config.Copies.{Copies}
use Rattle.stream_fold.specs.declared.config.Copies.TheVariants.{Nothing, Mirror, Sources}
use Rattle.config_json.specs.Reading.{config_of}
use Rattle.config_json.specs.Writing.{config_data, config_text, is_text}

-- a start of 64 bits
abbrev pub IsStart : Start → Type 0
IsStart (Seq n) = n < 2 ^ 64
IsStart (Time t) = t < 2 ^ 64

-- an origin as its type has it: names, a pattern, a start of 64 bits
pub record IsOrigin (o : Origin) : Type 0 where
  pub start_is : IsStart o.start
  pub node_is : option_map_or is_name o.node true ≡ true
  pub stream_is : is_name o.stream ≡ true
  pub filter_is : option_map_or is_pattern o.filter true ≡ true

-- each of the origins is one
abbrev pub AreOrigins : List Origin → Type 0
AreOrigins [] = Unit {0}
AreOrigins (o ∷ os) = IsOrigin o × AreOrigins os

-- the origins of a copy are origins
abbrev pub AreCopies : Copies → Type 0
AreCopies Nothing = Unit {0}
AreCopies (Mirror origin) = IsOrigin origin
AreCopies (Sources origins) = AreOrigins origins

-- a configuration as its type has it: names, patterns, and numbers of 64 bits
pub record IsConfig (c : Config) : Type 0 where
  pub name_is : is_name c.name ≡ true
  pub subjects_are : list_all is_pattern c.subjects ≡ true
  pub msgs_are : c.max_msgs < 2 ^ 64
  pub bytes_are : c.max_bytes < 2 ^ 64
  pub per_subject_is : c.max_per_subject < 2 ^ 64
  pub size_is : c.max_msg_size < 2 ^ 64
  pub age_is : c.max_age < 2 ^ 64
  pub window_is : c.window < 2 ^ 64
  pub copies_are : AreCopies c.copies

-- what is written of a configuration is read as the same JSON
abbrev pub TextsAreRead : Type 0
TextsAreRead = (c : Config) → IsConfig c → is_text c ≡ true → read (config_text c) ≡ Some (config_data c)

-- what is written of a configuration that a stream may have is read as the same configuration
abbrev pub ConfigsAreRead : Type 0
ConfigsAreRead = (c : Config) → IsConfig c → is_text c ≡ true → config_fault c ≡ None → config_of (config_text c) ≡ Ok c

-- what is read as a configuration is one that a stream may have
abbrev pub ReadsArePassed : Type 0
ReadsArePassed = (text : List ℕ) (c : Config) → config_of text ≡ Ok c → config_fault c ≡ None

-- what is written of a configuration is one line
abbrev pub ConfigsAreLines : Type 0
ConfigsAreLines = (c : Config) → IsConfig c → is_text c ≡ true → list_all is_line_byte (config_text c) ≡ true
