-- The origin of a mirror or of a source, as JSON (the stream sources of JetStream's API).
use Rattle.std.specs.Prelude.{ℕ, ◌-◌, ◌^◌, List, [], ◌∷◌, ◌++◌, length, take, drop, Bool, ◌&&◌, ◌||◌, nat_lt, if◌then◌else◌, Option, None, Some, is_some, Result, Ok, codes, option_and_then, option_map}
use Rattle.std.specs.Str.{bytes_eq}
use Rattle.serde_json.specs.Data.{Data, Items, no_items, item}
use Rattle.serde_json.specs.Find.{get, as_str, as_array, as_object}
use Rattle.moments.specs.Moments.{moment_of}
use Rattle.nats_text.specs.Text.{is_name}
use Rattle.nats_text.specs.declared.message.Start.{Start}
use Rattle.nats_text.specs.declared.message.Start.TheVariants.{Seq, Time}
use Rattle.nats_text.specs.declared.origin.Mapping.{Mapping}
use Rattle.nats_text.specs.declared.origin.Origin.{Origin}
use Rattle.stream_fold.specs.Checking.{is_legal_map}
use Rattle.config_json.specs.declared.fault.ApiFault.{ApiFault}
use Rattle.config_json.specs.declared.origin.Choice.{Choice}
use Rattle.config_json.specs.declared.origin.Place.{Place}
use Rattle.config_json.specs.Answers.{member, and_then, no_wrong}
use Rattle.config_json.specs.Others.{absent_or, absent_or_is, maybe, name_of, pattern_of, is_word, number_of, other_in}

-- ---- maps

-- the text under a name
abbrev pub text_at : List ℕ → Data → Option (List ℕ)
text_at name d = option_and_then as_str (get name d)

-- the two texts of a transform, and no other member
abbrev pub mapping_of : Data → Option Mapping
mapping_of d =
    if is_some (other_in (codes "src" ∷ codes "dest" ∷ []) d) then None
    else option_and_then (λ src. option_map (λ dest. record { src = src; dest = dest }) (text_at (codes "dest") d)) (text_at (codes "src") d)

-- a map that a source may have
abbrev pub map_of : Data → Option Mapping
map_of d = option_and_then (λ m. if is_legal_map m then Some m else None) (mapping_of d)

-- maps
abbrev pub maps_of : Items → Option (List Mapping)
maps_of no_items = Some []
maps_of (item d ds) = option_and_then (λ m. option_map (λ ms. m ∷ ms) (maps_of ds)) (map_of d)

-- up to 16 maps, and none beside a filter
abbrev pub maps_beside : Bool → List Mapping → Option (List Mapping)
maps_beside has_filter maps = if (has_filter && nat_lt 0 (length maps)) || nat_lt 16 (length maps) then None else Some maps

-- the maps of an origin that has a filter or none
abbrev pub maps_in : Bool → Option Data → Option (List Mapping)
maps_in has_filter m = option_and_then (maps_beside has_filter) (absent_or [] (λ d. option_and_then maps_of (as_array d)) m)

-- ---- starts

-- a moment below 2^63: a text that is one
abbrev pub time_of : Data → Option ℕ
time_of d = option_and_then (λ t. if nat_lt t (2 ^ 63) then Some t else None) (option_and_then moment_of (as_str d))

-- where a copy starts: at a number, or at a moment, which don't stand together; else at the first
abbrev pub start_in : Option ℕ → Option Data → Option Start
start_in None None = Some (Seq 1)
start_in (Some seq) None = Some (Seq seq)
start_in None (Some d) = option_map (λ t. Time t) (time_of d)
start_in (Some seq) (Some d) = None

-- ---- the node of an origin

-- the subjects of a node's API, without what is asked
abbrev pub api_of : List ℕ → List ℕ
api_of node = codes "$JS." ++ node ++ codes ".API"

-- what stands between the first four bytes of a text and its last four
abbrev pub between : List ℕ → List ℕ
between text = take (length text - 4 - 4) (drop 4 text)

-- the node of such subjects
abbrev pub node_from : List ℕ → Option (List ℕ)
node_from text = if is_name (between text) && bytes_eq text (api_of (between text)) then Some (between text) else None

-- the node that an external stream stands on; nothing is said of where it delivers
abbrev pub external_of : Data → Option (List ℕ)
external_of d =
    if is_some (other_in (codes "api" ∷ codes "deliver" ∷ []) d) then None
    else if absent_or_is (is_word []) (get (codes "deliver") d) then option_and_then node_from (text_at (codes "api") d) else None

-- ---- origins

-- the names of an origin's members
abbrev pub origin_members : List (List ℕ)
origin_members = codes "name" ∷ codes "opt_start_seq" ∷ codes "opt_start_time" ∷ codes "filter_subject" ∷ codes "subject_transforms" ∷ codes "external" ∷ []

-- which stream is copied, and from where on; or the first wrong one of these members
abbrev pub place_in : Data → Result Place ApiFault
place_in d =
    member (codes "name") (option_and_then name_of (get (codes "name") d)) (λ name.
    member (codes "opt_start_seq") (maybe number_of (get (codes "opt_start_seq") d)) (λ seq.
    member (codes "opt_start_time") (start_in seq (get (codes "opt_start_time") d)) (λ start.
    Ok (record { stream = name; start = start }))))

-- what of it is copied, or the first wrong one of these members
abbrev pub choice_in : Data → Result Choice ApiFault
choice_in d =
    member (codes "filter_subject") (maybe pattern_of (get (codes "filter_subject") d)) (λ filter.
    member (codes "subject_transforms") (maps_in (is_some filter) (get (codes "subject_transforms") d)) (λ maps.
    Ok (record { filter = filter; maps = maps })))

-- on which node it is, where no other member is wrong
abbrev pub node_at_last : Data → Result (Option (List ℕ)) ApiFault
node_at_last d = member (codes "external") (maybe external_of (get (codes "external") d)) (λ node. no_wrong (other_in origin_members d) (Ok node))

-- an origin, or its first wrong member: in this order, and then another one
abbrev pub origin_from : Data → Result Origin ApiFault
origin_from d = and_then (place_in d) (λ place. and_then (choice_in d) (λ choice. and_then (node_at_last d) (λ node.
    Ok (record { node = node; stream = place.stream; start = place.start; filter = choice.filter; maps = choice.maps }))))

-- an origin in a member of a configuration, which is wrong where it is no object
abbrev pub origin_of : List ℕ → Data → Result Origin ApiFault
origin_of holder d = member holder (as_object d) (λ ms. origin_from d)

-- the sources, or the first wrong member
abbrev pub origins_of : Items → Result (List Origin) ApiFault
origins_of no_items = Ok []
origins_of (item d ds) = and_then (origin_of (codes "sources") d) (λ origin. and_then (origins_of ds) (λ origins. Ok (origin ∷ origins)))
