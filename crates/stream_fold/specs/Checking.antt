-- Which configurations a stream may have, and which member of another one is wrong (the stream
-- configuration of JetStream).
use Rattle.std.specs.Prelude.{◌≡◌, ℕ, ◌^◌, List, [], ◌∷◌, length, Bool, true, false, ◌&&◌, ◌||◌, not, ◌==◌, nat_lt, nat_le, if◌then◌else◌, Option, None, Some, is_some, Result, Ok, Err, codes}
use Rattle.std.specs.List.{list_any, list_all}
use Rattle.nats_text.specs.Matching.{overlap}
use Rattle.nats_text.specs.Text.{is_pattern}
use Rattle.nats_text.specs.declared.message.Start.{Start}
use Rattle.nats_text.specs.declared.message.Start.TheVariants.{Seq, Time}
use Rattle.nats_text.specs.declared.origin.Mapping.{Mapping}
use Rattle.nats_text.specs.declared.origin.Origin.{Origin}
use Rattle.subject_transform.specs.Transforms.{TransformTexts, is_transform, is_blank, without_blanks}
use Rattle.stream_fold.specs.declared.config.Config.{Config}
use Rattle.stream_fold.specs.declared.config.Discard.{Discard}
use Rattle.stream_fold.specs.declared.config.Discard.TheVariants.{Old, New}
use Rattle.stream_fold.specs.declared.config.Copies.{Copies}
use Rattle.stream_fold.specs.declared.config.Copies.TheVariants.{Nothing, Mirror, Sources}
use Rattle.stream_fold.specs.declared.config.ConfigFault.{ConfigFault}
use Rattle.stream_fold.specs.declared.config.ConfigFault.TheVariants.{Bad, NoMemory}
use Rattle.stream_fold.specs.Histories.{either}

-- the member of this name, where it is wrong
abbrev pub wrong_if : Bool → List ℕ → Option (List ℕ)
wrong_if wrong member = if wrong then Some member else None

-- the subjects under which a node itself speaks
abbrev pub own_subjects : List ℕ
own_subjects = codes "$JS.>"

-- two of the patterns match a common subject
abbrev pub some_overlap : List (List ℕ) → Bool
some_overlap [] = false
some_overlap (pattern ∷ patterns) = list_any (overlap pattern) patterns || some_overlap patterns

-- the stream is a mirror or has sources
abbrev pub is_copy : Copies → Bool
is_copy Nothing = false
is_copy (Mirror origin) = true
is_copy (Sources origins) = true

-- the stream is a mirror
abbrev pub is_mirror : Copies → Bool
is_mirror Nothing = false
is_mirror (Mirror origin) = true
is_mirror (Sources origins) = false

-- no subjects where the stream is no copy, more than 64, one that overlaps the node's own, or two
-- that overlap
abbrev pub has_wrong_subjects : Config → Bool
has_wrong_subjects c =
    ((length c.subjects == 0) && not (is_copy c.copies)) || nat_lt 64 (length c.subjects)
    || list_any (overlap own_subjects) c.subjects || some_overlap c.subjects

-- 0, or a window longer than an age that is limited
abbrev pub has_wrong_window : Config → Bool
has_wrong_window c = (c.window == 0) || (not (c.max_age == 0) && nat_lt c.max_age c.window)

-- a limit, a sequence number or a moment of 2^63 or more
abbrev pub is_too_great : ℕ → Bool
is_too_great n = nat_le (2 ^ 63) n

-- the member of a start that is too great
abbrev pub start_fault : Start → Option (List ℕ)
start_fault (Seq n) = wrong_if (is_too_great n) (codes "opt_start_seq")
start_fault (Time moment) = wrong_if (is_too_great moment) (codes "opt_start_time")

-- a full stream drops its oldest messages
abbrev pub is_old : Discard → Bool
is_old Old = true
is_old New = false

-- the stream keeps its newest messages, of any size, as a copy does
abbrev pub keeps_all_sizes : Config → Bool
keeps_all_sizes c = is_old c.discard && (c.max_msg_size == 0)

-- a mirror takes all of its origin, has no subjects, and limits no size
abbrev pub is_wrong_mirror : Config → Origin → Bool
is_wrong_mirror c origin = is_some origin.filter || nat_lt 0 (length origin.maps) || nat_lt 0 (length c.subjects) || not (keeps_all_sizes c)

-- a text of at most 1,024 bytes
abbrev pub is_short : List ℕ → Bool
is_short text = nat_le (length text) 1024

-- both texts have at most 1,024 bytes as they are written
abbrev pub has_short_texts : Mapping → Bool
has_short_texts m = is_short m.src && is_short m.dest

-- the transform that the two texts are, with its destination without blanks, where they are one
abbrev pub transform_in : Mapping → Option TransformTexts
transform_in m = if is_transform m.src m.dest then Some (record { src = m.src; dest = without_blanks m.dest }) else None

-- the two texts are a transform
abbrev pub are_transform : Mapping → Bool
are_transform m = is_transform m.src m.dest

-- a destination of which nothing is left once its blanks are dropped: it leaves the subject
abbrev pub leaves_subject : List ℕ → Bool
leaves_subject dest = list_all is_blank dest

-- a map that a source may have: a pattern and a destination that leaves the subject, or a transform
abbrev pub is_legal_map : Mapping → Bool
is_legal_map m = has_short_texts m && ((is_pattern m.src && leaves_subject m.dest) || are_transform m)

-- both a filter and maps, more than 16 maps, or one that a source may not have
abbrev pub has_wrong_maps : Origin → Bool
has_wrong_maps origin =
    (is_some origin.filter && nat_lt 0 (length origin.maps)) || nat_lt 16 (length origin.maps)
    || not (list_all is_legal_map origin.maps)

-- the first wrong member of a source: its start, and its filter and maps
abbrev pub source_fault : Origin → Option (List ℕ)
source_fault origin = either (start_fault origin.start) (wrong_if (has_wrong_maps origin) (codes "subject_transforms"))

-- the first wrong member of the origins, in their order
abbrev pub source_faults : List Origin → Option (List ℕ)
source_faults [] = None
source_faults (origin ∷ origins) = either (source_fault origin) (source_faults origins)

-- no source, more than 32, or a limit on the size or a refusal of new messages
abbrev pub are_wrong_sources : Config → List Origin → Bool
are_wrong_sources c origins = (length origins == 0) || nat_lt 32 (length origins) || not (keeps_all_sizes c)

-- the first wrong member of a mirror: the start of its origin, or the mirror itself
abbrev pub mirror_fault : Config → Origin → Option (List ℕ)
mirror_fault c origin = either (start_fault origin.start) (wrong_if (is_wrong_mirror c origin) (codes "mirror"))

-- the first wrong member of the origins, or the list of them
abbrev pub copies_fault : Config → Copies → Option (List ℕ)
copies_fault c Nothing = None
copies_fault c (Mirror origin) = mirror_fault c origin
copies_fault c (Sources origins) = either (source_faults origins) (wrong_if (are_wrong_sources c origins) (codes "sources"))

-- the first of four limits that is too great
abbrev pub limits_fault : Config → Option (List ℕ)
limits_fault c =
    either (wrong_if (is_too_great c.max_msgs) (codes "max_msgs"))
    (either (wrong_if (is_too_great c.max_bytes) (codes "max_bytes"))
    (either (wrong_if (is_too_great c.max_per_subject) (codes "max_msgs_per_subject"))
    (wrong_if (is_too_great c.max_msg_size) (codes "max_msg_size"))))

-- a stream's own transform that it may not have: one of a mirror, one with a longer text, or two texts
-- that are no transform
abbrev pub is_wrong_transform : Copies → Option Mapping → Bool
is_wrong_transform copies None = false
is_wrong_transform copies (Some m) = is_mirror copies || not (has_short_texts m) || not (are_transform m)

-- The first wrong member of a configuration, by the name that it has in JetStream: the subjects, the
-- limits, the duplicate window, the origins, the stream's own transform.
abbrev pub config_fault : Config → Option (List ℕ)
config_fault c =
    either (wrong_if (has_wrong_subjects c) (codes "subjects"))
    (either (limits_fault c)
    (either (wrong_if (has_wrong_window c) (codes "duplicate_window"))
    (either (copies_fault c c.copies)
    (wrong_if (is_wrong_transform c.copies c.transform) (codes "subject_transform")))))

-- what is answered is the first wrong member, or that there is none, unless memory ran out
abbrev pub IsFault : {T : Type 0} → Result T ConfigFault → Option (List ℕ) → Type 0
IsFault (Ok value) fault = fault ≡ None
IsFault (Err (Bad member)) fault = fault ≡ Some member
IsFault (Err NoMemory) fault = Unit {0}
