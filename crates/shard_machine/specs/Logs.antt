-- A shard's log: what its records say of openings, of names, and of the streams that were made under them.
use Rattle.std.specs.Prelude.{ℕ, zero, suc, Bool, true, false, List, [], ◌∷◌, ◌++◌, length, if◌then◌else◌, Option, None, slice_get}
use Rattle.std.specs.Str.{bytes_eq}
use Rattle.stream_fold.specs.declared.entry.Entry.{Entry}
use Rattle.stream_fold.specs.Histories.{History, with_entry}
use Rattle.record_codec.specs.declared.records.Rec.{Rec}
use Rattle.record_codec.specs.declared.records.Rec.TheVariants.{Boot, Create, Remove, Of}

-- the number of the last opening, or this one where there is none
unfoldable pub boot_after : ℕ → List Rec → ℕ
boot_after b [] = b
boot_after b (Boot n ∷ log) = boot_after n log
boot_after b (Create time config ∷ log) = boot_after b log
boot_after b (Remove name ∷ log) = boot_after b log
boot_after b (Of name entry ∷ log) = boot_after b log

-- the number of the last opening, else 0
abbrev pub boot : List Rec → ℕ
boot log = boot_after 0 log

-- a stream that was made: when, in nanoseconds since 1970, and its history
pub record Made : Type 0 where
  pub created : ℕ
  pub history : History

-- what a log says of one name: the streams that were made under it, the first first, and whether the last of them stands
pub record Named : Type 0 where
  pub made : List Made
  pub stands : Bool

-- nothing was made
abbrev pub unnamed : Named
unnamed = record { made = []; stands = false }

-- a stream whose history has one entry more
abbrev pub with_change : Entry → Made → Made
with_change e m = record { created = m.created; history = with_entry m.history e }

-- the entry joins the history of the last
abbrev pub to_last : Entry → List Made → List Made
to_last e [] = []
to_last e (m ∷ []) = with_change e m ∷ []
to_last e (m ∷ n ∷ ms) = m ∷ to_last e (n ∷ ms)

-- what one record more says of the name
abbrev pub recorded : List ℕ → Named → Rec → Named
recorded name n (Boot number) = n
recorded name n (Create time config) = if bytes_eq config.name name then record { made = n.made ++ (record { created = time; history = record { config = config; entries = [] } }) ∷ []; stands = true } else n
recorded name n (Remove other) = if bytes_eq other name then record { made = n.made; stands = false } else n
recorded name n (Of other entry) = if bytes_eq other name then record { made = to_last entry n.made; stands = n.stands } else n

-- what these records more say of the name, the first of them first
unfoldable pub named_after : List ℕ → Named → List Rec → Named
named_after name n [] = n
named_after name n (r ∷ log) = named_after name (recorded name n r) log

-- what a log says of a name
abbrev pub named : List Rec → List ℕ → Named
named log name = named_after name unnamed log

-- how often a stream was made under the name, which is the incarnation of the latest
abbrev pub incarnation : List Rec → List ℕ → ℕ
incarnation log name = length (named log name).made

-- the stream of this incarnation, the first of which is 1
abbrev pub by_incarnation : List Made → ℕ → Option Made
by_incarnation ms zero = None
by_incarnation ms (suc i) = slice_get ms i

-- the I-th stream that was made under the name, the first of which is 1
abbrev pub made : List Rec → List ℕ → ℕ → Option Made
made log name i = by_incarnation (named log name).made i

-- the stream that stands under the name
abbrev pub live : List Rec → List ℕ → Option Made
live log name = if (named log name).stands then made log name (incarnation log name) else None
