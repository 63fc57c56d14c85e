-- The indexes of the messages that are kept.
use Rattle.std.specs.Prelude.{◌≡◌, ℕ, ◌≤◌, Bool, true, false, List, [], ◌∷◌, map, filter, Option, Some, None, ⊤, slice_get, length, ◌==◌, ◌||◌, ◌&&◌, ◌+◌, not, nat_le, nat_lt, count_by, if◌then◌else◌}
use Rattle.std.specs.List.{list_any}
use Rattle.std.specs.Option.{option_map}
use Rattle.std.specs.BTreeMap.{BTreeMap, get_by}
use Rattle.std.specs.Cmp.Lexicographic.{slice_cmp}
use Rattle.std.specs.Global.{Vec}
use Rattle.std.specs.Map.{keys_of}
use Rattle.std.specs.Ordering.{nat_cmp}
use Rattle.std.specs.Str.{bytes_eq}
use Rattle.nats_text.specs.Matching.{matches}
use Rattle.nats_text.specs.declared.message.Message.{Message}
use Rattle.stream_fold.specs.declared.config.Config.{Config}
use Rattle.stream_fold.specs.declared.entry.Numbered.{Numbered}
use Rattle.stream_fold.specs.Histories.{either, are_within, has_subject_of, is_expired}
use Rattle.stream_fold.specs.RowLists.{EachRow, IsTotal, Rises, seqs}
use Rattle.indexed_rows.specs.Entries.{Entries}
use Rattle.indexed_rows.specs.declared.index.Index.{Index}

-- the messages that are kept, and the subject of which one more may be added without memory
pub record IndexedList : Type 0 where
  pub rows : List Numbered
  pub ready : Option (List ℕ)

-- messages under their numbers, as rows
abbrev pub rows_of : List (ℕ × Message) → List Numbered
rows_of items = map (λ e. record { seq = e.0; message = e.1 }) items

-- the row is one of the subject
abbrev pub is_of : List ℕ → Numbered → Bool
is_of subject row = bytes_eq row.message.subject subject

-- the numbers of the rows of a subject
abbrev pub numbers_of : List ℕ → List Numbered → List ℕ
numbers_of subject rows = seqs (filter (is_of subject) rows)

-- the numbers of subjects, by subject
abbrev pub Subjects : Type 0
Subjects = BTreeMap (Vec ℕ) (Entries ⊤)

-- what is listed under a subject
abbrev pub found : List ℕ → Subjects → Option (Entries ⊤)
found subject subjects = get_by (λ key. slice_cmp nat_cmp subject key.items) subjects

abbrev pub keys_in : Option (Entries ⊤) → List ℕ
keys_in None = []
keys_in (Some entries) = keys_of entries.items

-- the numbers that are listed under a subject
abbrev pub listed : List ℕ → Subjects → List ℕ
listed subject subjects = keys_in (found subject subjects)

abbrev pub room_in : Option (Entries ⊤) → Bool
room_in None = false
room_in (Some entries) = entries.has_room

-- one more number takes no memory under the subject
abbrev pub has_place : List ℕ → Subjects → Bool
has_place subject subjects = room_in (found subject subjects)

-- under each subject stand the numbers of its rows
abbrev pub IsIndexOf : Subjects → List Numbered → Type 0
IsIndexOf subjects rows = (subject : List ℕ) → listed subject subjects ≡ numbers_of subject rows

-- there is a place for one more row of the subject that is ready
abbrev pub IsReady : Option (List ℕ) → Bool → Subjects → Type 0
IsReady None room subjects = ⊤
IsReady (Some subject) room subjects = (room ≡ true) × (has_place subject subjects ≡ true)

-- no row is older than one before it
abbrev pub TimesRise : List Numbered → Type 0
TimesRise [] = ⊤
TimesRise (row ∷ rows) = EachRow (λ later. row.message.time ≤ later.message.time) rows × TimesRise rows

-- no row is older than one before it, and none is younger than this moment
pub record IsInOrder (moment : ℕ) (rows : List Numbered) : Type 0 where
  pub rise : TimesRise rows
  pub latest : EachRow (λ row. row.message.time ≤ moment) rows

abbrev pub ready_in : Option (Vec ℕ) → Option (List ℕ)
ready_in coming = option_map (λ v. v.items) coming

-- the numbers rise, and the total and the indexes are those of the rows
pub record IsIndexed (index : Index) : Type 0 where
  pub rises : Rises 0 (keys_of index.messages.items)
  pub total : IsTotal index.total (rows_of index.messages.items)
  pub subjects : IsIndexOf index.subjects (rows_of index.messages.items)
  pub ready : IsReady (ready_in index.coming) index.messages.has_room index.subjects
  pub order : index.in_order ≡ true → IsInOrder index.latest (rows_of index.messages.items)

-- the number of a row
abbrev pub seq_in : Option Numbered → Option ℕ
seq_in row = option_map (λ r. r.seq) row

-- the first number of a list
abbrev pub first_of_list : List ℕ → Option ℕ
first_of_list [] = None
first_of_list (n ∷ ns) = Some n

-- the last number of a list
abbrev pub last_of_list : List ℕ → Option ℕ
last_of_list [] = None
last_of_list (n ∷ ns) = either (last_of_list ns) (Some n)

-- one of the filters matches the subject, or there is none
abbrev pub takes : List (List ℕ) → List ℕ → Bool
takes filters subject = (length filters == 0) || list_any (λ pattern. matches pattern subject) filters

-- the first row's number, where the rows are not within the limits
abbrev pub excess : Config → List Numbered → Option ℕ
excess c rows = if are_within c rows then None else seq_in (slice_get rows 0)

-- the first row's number, where an expiry takes that row
abbrev pub expired_front : ℕ → ℕ → List Numbered → Option ℕ
expired_front max_age now [] = None
expired_front max_age now (row ∷ rows) = if is_expired max_age now row then Some row.seq else None

-- there is a message, and the pattern matches its subject
abbrev pub matches_in : List ℕ → Option Message → Bool
matches_in pattern None = false
matches_in pattern (Some m) = matches pattern m.subject

-- there is a message, and it is as old as the limit on age says
abbrev pub expired_in : ℕ → ℕ → Option Message → Bool
expired_in max_age now None = false
expired_in max_age now (Some m) = not (max_age == 0) && nat_le (m.time + max_age) now

-- at most so many rows have the subject of this one
abbrev pub has_at_most : ℕ → List Numbered → Numbered → Bool
has_at_most most rows row = nat_le (count_by (has_subject_of row) rows) most

-- there is a message, and more rows than so many have its subject
abbrev pub too_many : ℕ → List Numbered → Option Message → Bool
too_many most rows None = false
too_many most rows (Some m) = nat_lt most (count_by (is_of m.subject) rows)

-- the number, where it is below this one
abbrev pub below_in : ℕ → Option ℕ → Option ℕ
below_in below None = None
below_in below (Some n) = if nat_lt n below then Some n else None

-- a byte that is no wildcard
abbrev pub is_plain : ℕ → Bool
is_plain b = not (b == 42) && not (b == 62)
