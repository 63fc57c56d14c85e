-- The image of a log: all that any later answer needs of its records.
use Rattle.std.specs.Prelude.{◌≡◌, ℕ, suc, ◌+◌, ◌<◌, ◌≤◌, ◌^◌, Bool, true, false, List, [], ◌∷◌, if◌then◌else◌, Option, None, Some, option_map, is_some, IsSome}
use Rattle.std.specs.FinMap.{FinMap, empty, get, insert, retain_keys, keys}
use Rattle.std.specs.Ordering.{nat_cmp}
use Rattle.std.specs.Cmp.Lexicographic.{slice_cmp}
use Rattle.stream_fold.specs.declared.config.Config.{Config}
use Rattle.stream_fold.specs.declared.entry.Entry.{Entry}
use Rattle.stream_fold.specs.Checking.{config_fault}
use Rattle.stream_fold.specs.Facts.{StreamFacts, new_facts, facts_after, facts, FitsFacts}
use Rattle.record_codec.specs.declared.records.Rec.{Rec}
use Rattle.record_codec.specs.declared.records.Rec.TheVariants.{Boot, Create, Remove, Of}
use Rattle.shard_machine.specs.Logs.{Made}
use Rattle.shard_machine.specs.Legal.{HasFaultless}

-- What is known of a name under which streams were made: when the latest of them was made, in
-- nanoseconds since 1970, how many they are, which is its incarnation, whether it stands, and its facts,
-- without messages where it was removed.
pub record NameFacts : Type 0 where
  pub created : ℕ
  pub incarnation : ℕ
  pub stands : Bool
  pub stream : StreamFacts

-- what is known of each name under which a stream was made, in byte order of the names
abbrev pub Names : Type 0
Names = FinMap (slice_cmp nat_cmp) NameFacts

-- the number of the last opening, else 0, and what is known of the names
pub record LogImage : Type 0 where
  pub boot : ℕ
  pub names : Names

-- the image of a log without records
abbrev pub no_image : LogImage
no_image = record { boot = 0; names = empty }

-- ---- one record more

-- how many streams were made under a name
abbrev pub count_of : Option NameFacts → ℕ
count_of None = 0
count_of (Some n) = n.incarnation

-- what is known of a stream that was just made, behind so many of its name
abbrev pub just_made : ℕ → Config → ℕ → NameFacts
just_made time config earlier = record { created = time; incarnation = suc earlier; stands = true; stream = new_facts config }

-- what is known once the stream was removed, and its messages with it
abbrev pub removed : NameFacts → NameFacts
removed n = record { created = n.created; incarnation = n.incarnation; stands = false; stream = record n.stream { rows = [] } }

-- what is known once the stream has one entry more, if it stands
abbrev pub entered : Entry → NameFacts → NameFacts
entered e n = if n.stands then record { created = n.created; incarnation = n.incarnation; stands = n.stands; stream = facts_after n.stream e } else n

-- what is known of a name changes so, where there is something
abbrev pub changed : List ℕ → (NameFacts → NameFacts) → Option NameFacts → Names → Names
changed name change None names = names
changed name change (Some n) names = insert names name (change n)

-- what a record says of the names
abbrev pub names_after : Names → Rec → Names
names_after names (Boot number) = names
names_after names (Create time config) = insert names config.name (just_made time config (count_of (get names config.name)))
names_after names (Remove name) = changed name removed (get names name) names
names_after names (Of name entry) = changed name (entered entry) (get names name) names

-- the number of the last opening after a record
abbrev pub boot_with : ℕ → Rec → ℕ
boot_with boot (Boot number) = number
boot_with boot (Create time config) = boot
boot_with boot (Remove name) = boot
boot_with boot (Of name entry) = boot

-- the image after one record more
abbrev pub next : LogImage → Rec → LogImage
next i r = record { boot = boot_with i.boot r; names = names_after i.names r }

-- the image after these records more, the first of them first
abbrev pub image_after : LogImage → List Rec → LogImage
image_after i [] = i
image_after i (r ∷ log) = image_after (next i r) log

-- the image of a log
abbrev pub image : List Rec → LogImage
image log = image_after no_image log

-- ---- what is asked of a log, answered by its image

-- what is known, if the stream stands
abbrev pub if_stands : Option NameFacts → Option NameFacts
if_stands None = None
if_stands (Some n) = if n.stands then Some n else None

-- the stream that stands under a name
abbrev pub live_in : LogImage → List ℕ → Option NameFacts
live_in i name = if_stands (get i.names name)

-- how often a stream was made under a name
abbrev pub incarnation_in : LogImage → List ℕ → ℕ
incarnation_in i name = count_of (get i.names name)

-- when the latest stream of a name was made
abbrev pub created_in : LogImage → List ℕ → Option ℕ
created_in i name = option_map (λ n. n.created) (get i.names name)

-- the names under which a stream stands, in byte order
abbrev pub live_names : LogImage → List (List ℕ)
live_names i = keys (retain_keys i.names (λ name. is_some (live_in i name)))

-- what is known of a stream that stands, by its history
abbrev pub known_of : ℕ → Made → NameFacts
known_of incarnation m = record { created = m.created; incarnation = incarnation; stands = true; stream = facts m.history }

-- ---- which record may come next

-- a stream may be made: none stands under the name, its configuration is one that a stream may have,
-- and its incarnation is below 2^63
pub record MayMakeIn (i : LogImage) (config : Config) : Type 0 where
  pub free : live_in i config.name ≡ None
  pub faultless : config_fault config ≡ None
  pub number : incarnation_in i config.name + 1 < 2 ^ 63

-- the entry may come next in the history of this stream
pub record MayChangeIn (entry : Entry) (known : NameFacts) : Type 0 where
  pub fits : FitsFacts known.stream entry
  pub faultless : HasFaultless entry

-- a record may follow a log of this image
abbrev pub MayFollowImage : LogImage → Rec → Type 0
MayFollowImage i (Boot number) = (number ≡ i.boot + 1) × (number < 2 ^ 63)
MayFollowImage i (Create time config) = (1 ≤ i.boot) × MayMakeIn i config
MayFollowImage i (Remove name) = (1 ≤ i.boot) × IsSome (live_in i name)
MayFollowImage i (Of name entry) = (1 ≤ i.boot) × (known : NameFacts) × (live_in i name ≡ Some known) × MayChangeIn entry known
