-- What a transform is, and what it makes of a subject.
use Rattle.std.specs.Prelude.{◌≡◌, ◌⊎◌, ℕ, ◌+◌, List, [], ◌∷◌, length, map, filter, Bool, true, false, ◌&&◌, ◌||◌, not, ◌==◌, nat_lt, if◌then◌else◌, Option, None, Some, Result, Ok, Err, is_ok, IsTrue}
use Rattle.std.specs.List.{join_with_byte}
use Rattle.std.specs.Str.{bytes_eq}
use Rattle.nats_text.specs.Matching.{matches}
use Rattle.nats_text.specs.Places.{IsBadPlace}
use Rattle.nats_text.specs.Text.{tokens, star, tail, is_subject, is_pattern}
use Rattle.subject_transform.specs.declared.fault.TransformKind.{TransformKind}
use Rattle.subject_transform.specs.declared.fault.TransformKind.TheVariants.{BadSource, BadDest, TailMismatch}
use Rattle.subject_transform.specs.declared.fault.TransformFault.{TransformFault}
use Rattle.subject_transform.specs.declared.fault.TransformFault.TheVariants.{Bad, NoMemory}
use Rattle.subject_transform.specs.Parts.{Part, read_part}
use Rattle.subject_transform.specs.Values.{value}

-- the two texts of a transform, the destination without blanks
pub record TransformTexts : Type 0 where
  pub src : List ℕ
  pub dest : List ℕ

-- a space or a tab
abbrev pub is_blank : ℕ → Bool
is_blank b = b == 32 || b == 9

-- the text without its blanks
abbrev pub without_blanks : List ℕ → List ℕ
without_blanks bs = filter (λ b. not (is_blank b)) bs

-- how many tokens of a source are `*`
abbrev pub star_count : List (List ℕ) → ℕ
star_count [] = 0
star_count (p ∷ ps) = if bytes_eq p star then star_count ps + 1 else star_count ps

-- the last token is `>`
abbrev pub ends_in_tail : List (List ℕ) → Bool
ends_in_tail [] = false
ends_in_tail (t ∷ []) = bytes_eq t tail
ends_in_tail (t ∷ u ∷ ts) = ends_in_tail (u ∷ ts)

-- both or neither
abbrev pub same : Bool → Bool → Bool
same a b = if a then b else not b

-- the last token of a destination: a `>` exactly where the source ends in one
abbrev pub read_last : ℕ → Bool → List ℕ → Result Part TransformKind → Result Part TransformKind
read_last stars wants_tail t (Err kind) = Err kind
read_last stars wants_tail t (Ok part) = if same wants_tail (bytes_eq t tail) then Ok part else Err TailMismatch

-- a part before others, where it is one; its fault is at a place
abbrev pub then_parts : ℕ → Result Part TransformKind → Result (List Part) TransformFault → Result (List Part) TransformFault
then_parts place (Err kind) others = Err (Bad place kind)
then_parts place (Ok part) (Ok parts) = Ok (part ∷ parts)
then_parts place (Ok part) (Err fault) = Err fault

-- the tokens of a destination from a place on, for a source with so many `*` that ends in `>` or doesn't
abbrev pub read_tokens : ℕ → Bool → ℕ → List (List ℕ) → Result (List Part) TransformFault
read_tokens stars wants_tail place [] = Err (Bad place BadDest)
read_tokens stars wants_tail place (t ∷ []) = then_parts place (read_last stars wants_tail t (read_part stars true t)) (Ok [])
read_tokens stars wants_tail place (t ∷ u ∷ ts) = then_parts place (read_part stars false t) (read_tokens stars wants_tail (place + (length t + 1)) (u ∷ ts))

-- the parts of a destination without blanks, for the tokens of a source: at most 1,024 bytes
abbrev pub read_destination : List (List ℕ) → List ℕ → Result (List Part) TransformFault
read_destination ps dest = if nat_lt 1024 (length dest) then Err (Bad 0 BadDest) else read_tokens (star_count ps) (ends_in_tail ps) 0 (tokens dest)

-- a transform: a pattern, and a destination for it
abbrev pub is_transform : List ℕ → List ℕ → Bool
is_transform src dest = is_pattern src && is_ok (read_destination (tokens src) (without_blanks dest))

-- the source is no pattern, and the place is where it stops being one
pub record IsBadSource (src : List ℕ) (place : ℕ) (kind : TransformKind) : Type 0 where
  pub kind_is : kind ≡ BadSource
  pub illegal : is_pattern src ≡ false
  pub place_is : IsBadPlace is_pattern src place

-- the source is a pattern, and the destination has this as its first fault
pub record IsBadDestination (src dest : List ℕ) (place : ℕ) (kind : TransformKind) : Type 0 where
  pub legal : IsTrue (is_pattern src)
  pub first : read_destination (tokens src) (without_blanks dest) ≡ Err (Bad place kind)

-- why two texts are no transform; want of memory has no cause here
abbrev pub IsFault : List ℕ → List ℕ → TransformFault → Type 0
IsFault src dest NoMemory = Unit {0}
IsFault src dest (Bad place kind) = IsBadSource src place kind ⊎ IsBadDestination src dest place kind

-- the bytes, where they are a subject
abbrev pub if_subject : List ℕ → Option (List ℕ)
if_subject bs = if is_subject bs then Some bs else None

-- the values of parts, with a dot between each two
abbrev pub text_of : List (List ℕ) → List (List ℕ) → Result (List Part) TransformFault → Option (List ℕ)
text_of ps ts (Err fault) = None
text_of ps ts (Ok parts) = Some (join_with_byte 46 (map (value ps ts) parts))

-- the text, where it is a subject
abbrev pub subject_of : Option (List ℕ) → Option (List ℕ)
subject_of None = None
subject_of (Some text) = if_subject text

-- what a destination without blanks makes of what the wildcards of a source took of a subject
abbrev pub made : List ℕ → List ℕ → List ℕ → Option (List ℕ)
made src dest subject = subject_of (text_of (tokens src) (tokens subject) (read_destination (tokens src) dest))

-- what a transform makes of a subject: nothing where the source doesn't match it, or where that is no subject
abbrev pub sub : List ℕ → List ℕ → List ℕ → Option (List ℕ)
sub src dest subject = if matches src subject then made src dest subject else None
