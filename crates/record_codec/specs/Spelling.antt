-- The bytes of a record, and what has such bytes. A number's least byte comes first.
use Rattle.std.specs.Prelude.{◌≡◌, ℕ, ◌<◌, ◌^◌, List, [], ◌∷◌, ◌++◌, length, Option, None, Some, Ok, IfSome, IsTrue}
use Rattle.std.specs.Int.{w32, w64, to_le_bytes}
use Rattle.std.specs.List.{flat_map, All}
use Rattle.nats_text.specs.Headers.{written, read_block}
use Rattle.nats_text.specs.Text.{is_name, is_subject, is_pattern}
use Rattle.nats_text.specs.declared.message.Message.{Message}
use Rattle.nats_text.specs.declared.message.Start.{Start}
use Rattle.nats_text.specs.declared.message.Start.TheVariants.{Seq, Time}
use Rattle.nats_text.specs.declared.origin.Mapping.{Mapping}
use Rattle.nats_text.specs.declared.origin.Origin.{Origin}
use Rattle.stream_fold.specs.declared.config.Config.{Config}
use Rattle.stream_fold.specs.declared.config.Copies.{Copies}
use Rattle.stream_fold.specs.declared.config.Copies.TheVariants.{Nothing, Mirror, Sources}
use Rattle.stream_fold.specs.declared.config.Discard.{Discard}
use Rattle.stream_fold.specs.declared.config.Discard.TheVariants.{Old, New}
use Rattle.stream_fold.specs.declared.entry.Entry.{Entry}
use Rattle.stream_fold.specs.declared.entry.Entry.TheVariants.{Put, Del, Purge, Expire, Bind, Limits}
use Rattle.stream_fold.specs.declared.entry.Mark.{Mark}
use Rattle.record_codec.specs.declared.records.Rec.{Rec}
use Rattle.record_codec.specs.declared.records.Rec.TheVariants.{Boot, Create, Remove, Of}

-- ---- the bytes

-- a number in four bytes
unfoldable pub u32_text : ℕ → List ℕ
u32_text n = to_le_bytes w32 n

-- a number in eight bytes
unfoldable pub u64_text : ℕ → List ℕ
u64_text n = to_le_bytes w64 n

-- the length, and the bytes
unfoldable pub text_of : List ℕ → List ℕ
text_of bytes = u32_text (length bytes) ++ bytes

-- the count, and each item
unfoldable pub list_text : {A : Type 0} → (A → List ℕ) → List A → List ℕ
list_text item xs = u32_text (length xs) ++ flat_map item xs

-- 0, or 1 and the value
unfoldable pub option_text : {A : Type 0} → (A → List ℕ) → Option A → List ℕ
option_text item None = 0 ∷ []
option_text item (Some x) = 1 ∷ item x

-- source and destination
unfoldable pub mapping_text : Mapping → List ℕ
mapping_text mapping = text_of mapping.src ++ text_of mapping.dest

-- 0 and a sequence number, or 1 and a moment
unfoldable pub start_text : Start → List ℕ
start_text (Seq n) = 0 ∷ u64_text n
start_text (Time moment) = 1 ∷ u64_text moment

-- an origin: its node, stream, start, filter and transforms
unfoldable pub origin_text : Origin → List ℕ
origin_text origin =
    option_text text_of origin.node ++ text_of origin.stream ++ start_text origin.start ++ option_text text_of origin.filter ++ list_text mapping_text origin.maps

-- 0 where the oldest goes, 1 where the new one does
unfoldable pub discard_text : Discard → List ℕ
discard_text Old = 0 ∷ []
discard_text New = 1 ∷ []

-- 0, or 1 and one origin, or 2 and a list of origins
unfoldable pub copies_text : Copies → List ℕ
copies_text Nothing = 0 ∷ []
copies_text (Mirror origin) = 1 ∷ origin_text origin
copies_text (Sources origins) = 2 ∷ list_text origin_text origins

-- a configuration, member by member
unfoldable pub config_text : Config → List ℕ
config_text config =
    text_of config.name ++ list_text text_of config.subjects
    ++ u64_text config.max_msgs ++ u64_text config.max_bytes ++ u64_text config.max_age ++ u64_text config.max_per_subject ++ u64_text config.max_msg_size
    ++ discard_text config.discard ++ u64_text config.window ++ option_text mapping_text config.transform ++ copies_text config.copies

-- the index of the source, and the number in its origin
unfoldable pub mark_text : Mark → List ℕ
mark_text mark = u32_text mark.index ++ u64_text mark.seq

-- a message, its number and its mark
unfoldable pub put_text : ℕ → Message → Option Mark → List ℕ
put_text seq message mark =
    u64_text seq ++ u64_text message.time ++ option_text mark_text mark ++ text_of message.subject ++ text_of (written message.headers) ++ text_of message.payload

-- the kind of an entry
abbrev pub kind_of : Entry → ℕ
kind_of (Put seq message mark) = 4
kind_of (Del seq) = 5
kind_of (Purge pattern below) = 6
kind_of (Expire now) = 7
kind_of (Bind index incarnation start) = 8
kind_of (Limits config) = 9

-- what an entry has behind the name
unfoldable pub entry_text : Entry → List ℕ
entry_text (Put seq message mark) = put_text seq message mark
entry_text (Del seq) = u64_text seq
entry_text (Purge pattern below) = text_of pattern ++ u64_text below
entry_text (Expire now) = u64_text now
entry_text (Bind index incarnation start) = u32_text index ++ u64_text incarnation ++ u64_text start
entry_text (Limits config) = config_text config

-- the kind, and the fields of a record
unfoldable pub spelling : Rec → List ℕ
spelling (Boot boot) = 1 ∷ u64_text boot
spelling (Create time config) = 2 ∷ (u64_text time ++ config_text config)
spelling (Remove name) = 3 ∷ text_of name
spelling (Of name entry) = kind_of entry ∷ (text_of name ++ entry_text entry)

-- ---- what has bytes: each number is within its width, each text is legal, and no text or list is
-- longer than a length in four bytes says

-- a number of 4 bytes
abbrev pub IsIn32 : ℕ → Type 0
IsIn32 n = n < 2 ^ 32

-- a number of 8 bytes
abbrev pub IsIn64 : ℕ → Type 0
IsIn64 n = n < 2 ^ 64

-- bytes of any kind
abbrev pub IsShort : List ℕ → Type 0
IsShort bytes = length bytes < 2 ^ 32

-- a name, with fewer than 2^32 bytes
abbrev pub IsShortName : List ℕ → Type 0
IsShortName name = IsShort name × IsTrue (is_name name)

-- a pattern, with fewer than 2^32 bytes
abbrev pub IsShortPattern : List ℕ → Type 0
IsShortPattern pattern = IsShort pattern × IsTrue (is_pattern pattern)

-- a subject, with fewer than 2^32 bytes
abbrev pub IsShortSubject : List ℕ → Type 0
IsShortSubject subject = IsShort subject × IsTrue (is_subject subject)

-- fewer than 2^32 such items
abbrev pub AreFew : {A : Type 0} → (A → Type 0) → List A → Type 0
AreFew IsItem xs = (length xs < 2 ^ 32) × All IsItem xs

-- a transform that can be spelled
pub record IsMapping (mapping : Mapping) : Type 0 where
  pub src : IsShort mapping.src
  pub dest : IsShort mapping.dest

-- a start that can be spelled
abbrev pub IsStart : Start → Type 0
IsStart (Seq n) = IsIn64 n
IsStart (Time moment) = IsIn64 moment

-- an origin that can be spelled
pub record IsOrigin (origin : Origin) : Type 0 where
  pub node : IfSome origin.node IsShortName
  pub stream : IsShortName origin.stream
  pub start : IsStart origin.start
  pub filter : IfSome origin.filter IsShortPattern
  pub maps : AreFew IsMapping origin.maps

-- copies that can be spelled
abbrev pub AreCopies : Copies → Type 0
AreCopies Nothing = Unit {0}
AreCopies (Mirror origin) = IsOrigin origin
AreCopies (Sources origins) = AreFew IsOrigin origins

-- a configuration that can be spelled
pub record IsConfig (config : Config) : Type 0 where
  pub name : IsShortName config.name
  pub subjects : AreFew IsShortPattern config.subjects
  pub max_msgs : IsIn64 config.max_msgs
  pub max_bytes : IsIn64 config.max_bytes
  pub max_age : IsIn64 config.max_age
  pub max_per_subject : IsIn64 config.max_per_subject
  pub max_msg_size : IsIn64 config.max_msg_size
  pub window : IsIn64 config.window
  pub transform : IfSome config.transform IsMapping
  pub copies : AreCopies config.copies

-- a mark that can be spelled
pub record IsMark (mark : Mark) : Type 0 where
  pub index : IsIn32 mark.index
  pub seq : IsIn64 mark.seq

-- a message, its number and its mark that can be spelled
pub record IsPut (seq : ℕ) (message : Message) (mark : Option Mark) : Type 0 where
  pub number : IsIn64 seq
  pub time : IsIn64 message.time
  pub source : IfSome mark IsMark
  pub subject : IsShortSubject message.subject
  pub block : IsShort (written message.headers)
  -- the headers are those that are read from their block
  pub headers : read_block (written message.headers) ≡ Ok message.headers
  pub payload : IsShort message.payload

-- the numbers of a Bind that can be spelled
pub record IsBind (index incarnation start : ℕ) : Type 0 where
  pub number : IsIn32 index
  pub creation : IsIn64 incarnation
  pub first : IsIn64 start

-- an entry that can be spelled
abbrev pub IsEntry : Entry → Type 0
IsEntry (Put seq message mark) = IsPut seq message mark
IsEntry (Del seq) = IsIn64 seq
IsEntry (Purge pattern below) = IsShortPattern pattern × IsIn64 below
IsEntry (Expire now) = IsIn64 now
IsEntry (Bind index incarnation start) = IsBind index incarnation start
IsEntry (Limits config) = IsConfig config

-- a record that has a spelling
abbrev pub IsSpeakable : Rec → Type 0
IsSpeakable (Boot boot) = IsIn64 boot
IsSpeakable (Create time config) = IsIn64 time × IsConfig config
IsSpeakable (Remove name) = IsShortName name
IsSpeakable (Of name entry) = IsShortName name × IsEntry entry
