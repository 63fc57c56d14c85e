-- What the image of a log says of it.
use Rattle.std.specs.Prelude.{◌≡◌, ◌↔◌, ℕ, List, [], ◌∷◌, ◌++◌, option_map, is_some, Some}
use Rattle.std.specs.List.{list_any}
use Rattle.std.specs.List.Sorted.{IsStrictlySortedBy}
use Rattle.std.specs.FinMap.{keys}
use Rattle.std.specs.Ordering.{nat_cmp}
use Rattle.std.specs.Cmp.Lexicographic.{slice_cmp}
use Rattle.std.specs.Str.{bytes_eq}
use Rattle.record_codec.specs.declared.records.Rec.{Rec}
use Rattle.stream_fold.specs.Fits.{AllFit}
use Rattle.shard_machine.specs.Logs.{Made, boot, incarnation, made, live}
use Rattle.shard_machine.specs.Legal.{MayFollow, IsLegal}
use Rattle.shard_machine.specs.Images.{LogImage, next, image, live_in, incarnation_in, created_in, live_names, known_of, MayFollowImage}

-- the image after a record is a function of the image before it
abbrev pub ImageGrows : Type 0
ImageGrows = (log : List Rec) (r : Rec) → image (log ++ r ∷ []) ≡ next (image log) r

-- the image says what the log says
pub record TellsOf (log : List Rec) (i : LogImage) : Type 0 where
  pub boot : i.boot ≡ boot log
  pub live : (name : List ℕ) → live_in i name ≡ option_map (known_of (incarnation log name)) (live log name)
  pub created : (name : List ℕ) → created_in i name ≡ option_map (λ m. m.created) (made log name (incarnation log name))
  pub incarnation : (name : List ℕ) → incarnation_in i name ≡ incarnation log name

-- the image of each log says what the log says
abbrev pub ImagesTell : Type 0
ImagesTell = (log : List Rec) → TellsOf log (image log)

-- the names of an image stand in byte order, each once, and so do those under which a stream stands
abbrev pub NamesRise : Type 0
NamesRise = (i : LogImage) → IsStrictlySortedBy (slice_cmp nat_cmp) (keys i.names) × IsStrictlySortedBy (slice_cmp nat_cmp) (live_names i)

-- a stream stands under a name exactly where the image of the log tells it
abbrev pub NamesStand : Type 0
NamesStand = (log : List Rec) (name : List ℕ) → list_any (bytes_eq name) (live_names (image log)) ≡ is_some (live log name)

-- which record may follow a log is to be read off its image
abbrev pub ImagesTellLegal : Type 0
ImagesTellLegal = (log : List Rec) (r : Rec) → MayFollowImage (image log) r ↔ MayFollow log r

-- in a legal log each entry of a stream that stands fits those before it
abbrev pub LegalFit : Type 0
LegalFit = (log : List Rec) (name : List ℕ) (m : Made) → IsLegal log → live log name ≡ Some m → AllFit m.history
