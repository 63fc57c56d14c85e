-- A stream's configuration, as JSON is read as one (the stream configuration of JetStream's API).
use Rattle.std.specs.Prelude.{ℕ, List, [], ◌∷◌, length, Bool, false, ◌&&◌, ◌||◌, not, ◌==◌, nat_lt, nat_le, if◌then◌else◌, Option, None, Some, is_some, Result, Ok, Err, codes, option_and_then, option_map}
use Rattle.std.specs.List.{list_any}
use Rattle.std.specs.Option.{option_map_or}
use Rattle.std.specs.Str.{is_utf8}
use Rattle.serde_json.specs.Data.{Data}
use Rattle.serde_json.specs.Find.{get, as_array, as_object}
use Rattle.serde_json.specs.Read.{read}
use Rattle.nats_text.specs.Matching.{overlap}
use Rattle.nats_text.specs.declared.origin.Mapping.{Mapping}
use Rattle.nats_text.specs.declared.origin.Origin.{Origin}
use Rattle.stream_fold.specs.Checking.{own_subjects, some_overlap, is_old, is_mirror, is_copy, has_short_texts, are_transform}
use Rattle.stream_fold.specs.Histories.{either}
use Rattle.stream_fold.specs.declared.config.Config.{Config}
use Rattle.stream_fold.specs.declared.config.Discard.{Discard}
use Rattle.stream_fold.specs.declared.config.Discard.TheVariants.{Old, New}
use Rattle.stream_fold.specs.declared.config.Copies.{Copies}
use Rattle.stream_fold.specs.declared.config.Copies.TheVariants.{Nothing, Mirror, Sources}
use Rattle.config_json.specs.declared.fault.ApiFault.{ApiFault}
use Rattle.config_json.specs.declared.fault.ApiFault.TheVariants.{BadRequest, BadConfig}
use Rattle.config_json.specs.declared.limits.Limits.{Limits}
use Rattle.config_json.specs.Answers.{member, member_is, and_then, no_wrong}
use Rattle.config_json.specs.Others.{absent_or, absent_or_is, name_of, patterns_of, is_word, whole_of, limit_of, is_no_null, other_in}
use Rattle.config_json.specs.Origins.{mapping_of, origin_of, origins_of}

-- ---- subjects

-- more than 64, one that overlaps the node's own, or two that overlap
abbrev pub are_wrong_subjects : List (List ℕ) → Bool
are_wrong_subjects subjects = nat_lt 64 (length subjects) || list_any (overlap own_subjects) subjects || some_overlap subjects

-- patterns that a stream may have as its subjects
abbrev pub subjects_of : Data → Option (List (List ℕ))
subjects_of d = option_and_then (λ subjects. if are_wrong_subjects subjects then None else Some subjects) (option_and_then patterns_of (as_array d))

-- where no subjects are given, a stream that is no copy has its name as its one subject
abbrev pub subjects_or_name : List ℕ → Copies → List (List ℕ) → List (List ℕ)
subjects_or_name name copies [] = if is_copy copies then [] else name ∷ []
subjects_or_name name copies (subject ∷ subjects) = subject ∷ subjects

-- ---- limits

-- up to one replica
abbrev pub is_one_replica : Data → Bool
is_one_replica d = option_map_or (λ n. nat_le n 1) (whole_of d) false

-- which message goes where a limit is reached
abbrev pub discard_of : Data → Option Discard
discard_of d = if is_word (codes "old") d then Some Old else if is_word (codes "new") d then Some New else None

-- the window that a stream has by itself, in nanoseconds: two minutes, or the age of its messages
-- where that is limited and less
abbrev pub default_window : ℕ → ℕ
default_window age = if nat_lt 0 age && nat_lt age 120_000_000_000 then age else 120_000_000_000

-- a window, of which 0 is the one that a stream has by itself; it isn't above an age that is limited
abbrev pub window_from : ℕ → ℕ → Option ℕ
window_from age window = if window == 0 then Some (default_window age) else if nat_lt 0 age && nat_lt age window then None else Some window

-- the window for messages of a limited age or not
abbrev pub window_in : ℕ → Option Data → Option ℕ
window_in age m = option_and_then (window_from age) (absent_or 0 whole_of m)

-- the limits, or the first wrong one of these members
abbrev pub limits_in : Data → Result Limits ApiFault
limits_in d =
    member_is (codes "retention") (absent_or_is (is_word (codes "limits")) (get (codes "retention") d))
    (member (codes "max_msgs") (absent_or 0 limit_of (get (codes "max_msgs") d)) (λ max_msgs.
    member (codes "max_bytes") (absent_or 0 limit_of (get (codes "max_bytes") d)) (λ max_bytes.
    member (codes "max_msgs_per_subject") (absent_or 0 limit_of (get (codes "max_msgs_per_subject") d)) (λ max_per_subject.
    member (codes "max_msg_size") (absent_or 0 limit_of (get (codes "max_msg_size") d)) (λ max_msg_size.
    member (codes "max_age") (absent_or 0 whole_of (get (codes "max_age") d)) (λ max_age.
    member_is (codes "storage") (absent_or_is (is_word (codes "file")) (get (codes "storage") d))
    (member_is (codes "num_replicas") (absent_or_is is_one_replica (get (codes "num_replicas") d))
    (member (codes "discard") (absent_or Old discard_of (get (codes "discard") d)) (λ discard.
    member (codes "duplicate_window") (window_in max_age (get (codes "duplicate_window") d)) (λ window.
    Ok (record { max_msgs = max_msgs; max_bytes = max_bytes; max_age = max_age; max_per_subject = max_per_subject; max_msg_size = max_msg_size; discard = discard; window = window })))))))))))

-- ---- copies

-- a stream that drops its oldest messages and takes messages of any size, as a copy has to
abbrev pub takes_all : Limits → Bool
takes_all limits = is_old limits.discard && (limits.max_msg_size == 0)

-- a mirror that doesn't take all of its origin as it is, or has subjects
abbrev pub is_wrong_mirror : List (List ℕ) → Limits → Origin → Bool
is_wrong_mirror subjects limits origin = is_some origin.filter || nat_lt 0 (length origin.maps) || nat_lt 0 (length subjects) || not (takes_all limits)

-- a mirror, or the first wrong member
abbrev pub mirror_of : List (List ℕ) → Limits → Data → Result Copies ApiFault
mirror_of subjects limits d =
    and_then (origin_of (codes "mirror") d) (λ origin. member_is (codes "mirror") (not (is_wrong_mirror subjects limits origin)) (Ok (Mirror origin)))

-- no sources, more than 32, or a stream that doesn't take all of them
abbrev pub are_wrong_sources : Limits → List Origin → Bool
are_wrong_sources limits origins = (length origins == 0) || nat_lt 32 (length origins) || not (takes_all limits)

-- sources, or the first wrong member
abbrev pub sources_of : Limits → Data → Result Copies ApiFault
sources_of limits d =
    member (codes "sources") (as_array d) (λ ds. and_then (origins_of ds) (λ origins.
    member_is (codes "sources") (not (are_wrong_sources limits origins)) (Ok (Sources origins))))

-- what a stream copies: a mirror and sources don't stand together
abbrev pub copies_in : List (List ℕ) → Limits → Option Data → Option Data → Result Copies ApiFault
copies_in subjects limits None None = Ok Nothing
copies_in subjects limits None (Some sources) = sources_of limits sources
copies_in subjects limits (Some mirror) None = mirror_of subjects limits mirror
copies_in subjects limits (Some mirror) (Some sources) = and_then (mirror_of subjects limits mirror) (λ copies. Err (BadConfig (codes "sources")))

-- ---- the stream's own transform

-- a transform
abbrev pub transform_of : Data → Option Mapping
transform_of d = option_and_then (λ m. if has_short_texts m && are_transform m then Some m else None) (mapping_of d)

-- the transform of a stream that is no mirror
abbrev pub transform_in : Copies → Option Data → Option (Option Mapping)
transform_in copies None = Some None
transform_in copies (Some d) = if is_mirror copies then None else option_map (λ m. Some m) (transform_of d)

-- ---- the whole

-- the names of all members that have a meaning here
abbrev pub config_members : List (List ℕ)
config_members =
    codes "name" ∷ codes "subjects" ∷ codes "retention" ∷ codes "max_msgs" ∷ codes "max_bytes" ∷ codes "max_msgs_per_subject" ∷ codes "max_msg_size"
    ∷ codes "max_age" ∷ codes "storage" ∷ codes "num_replicas" ∷ codes "discard" ∷ codes "duplicate_window" ∷ codes "mirror" ∷ codes "sources"
    ∷ codes "subject_transform" ∷ codes "description" ∷ codes "metadata" ∷ codes "allow_direct" ∷ codes "mirror_direct" ∷ []

-- a member that is null, although it has a meaning
abbrev pub null_in : List ℕ → Data → Option (List ℕ)
null_in name d = if absent_or_is is_no_null (get name d) then None else Some name

-- the first wrong one of the members that aren't kept: those that are read past, and then the others
abbrev pub rest_fault : Data → Option (List ℕ)
rest_fault d =
    either (null_in (codes "description") d) (either (null_in (codes "metadata") d)
    (either (null_in (codes "allow_direct") d) (either (null_in (codes "mirror_direct") d) (other_in config_members d))))

-- the stream's own transform, where no other member is wrong
abbrev pub transform_at_last : Copies → Data → Result (Option Mapping) ApiFault
transform_at_last copies d = member (codes "subject_transform") (transform_in copies (get (codes "subject_transform") d)) (λ transform. no_wrong (rest_fault d) (Ok transform))

-- a configuration of what was read
abbrev pub config_with : List ℕ → List (List ℕ) → Limits → Copies → Option Mapping → Config
config_with name subjects limits copies transform = record {
  name = name;
  subjects = subjects_or_name name copies subjects;
  max_msgs = limits.max_msgs;
  max_bytes = limits.max_bytes;
  max_age = limits.max_age;
  max_per_subject = limits.max_per_subject;
  max_msg_size = limits.max_msg_size;
  discard = limits.discard;
  window = limits.window;
  transform = transform;
  copies = copies;
}

-- the configuration that an object is, or its first wrong member: in this order, and then another one
abbrev pub config_from : Data → Result Config ApiFault
config_from d =
    member (codes "name") (option_and_then name_of (get (codes "name") d)) (λ name.
    member (codes "subjects") (absent_or [] subjects_of (get (codes "subjects") d)) (λ subjects.
    and_then (limits_in d) (λ limits.
    and_then (copies_in subjects limits (get (codes "mirror") d) (get (codes "sources") d)) (λ copies.
    and_then (transform_at_last copies d) (λ transform.
    Ok (config_with name subjects limits copies transform))))))

-- the configuration that JSON is: an object, or it is no request at all
abbrev pub config_in : Data → Result Config ApiFault
config_in d = if is_some (as_object d) then config_from d else Err BadRequest

-- the JSON of a text in UTF-8
abbrev pub data_of : List ℕ → Option Data
data_of text = if is_utf8 text then read text else None

-- the configuration of JSON, where there is some
abbrev pub config_if : Option Data → Result Config ApiFault
config_if None = Err BadRequest
config_if (Some d) = config_in d

-- the configuration that a text is
abbrev pub config_of : List ℕ → Result Config ApiFault
config_of text = config_if (data_of text)
