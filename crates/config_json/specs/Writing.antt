-- A stream's configuration, as it is written: all members from `name` to `duplicate_window`, and of
-- the others those that are there, in byte order of their names.
use Rattle.std.specs.Prelude.{ℕ, List, [], ◌∷◌, map, Bool, true, ◌&&◌, ◌==◌, if◌then◌else◌, Option, None, Some, negsuc, codes}
use Rattle.std.specs.List.{list_all}
use Rattle.std.specs.Option.{option_map_or}
use Rattle.std.specs.Str.{is_utf8}
use Rattle.serde_json.specs.Data.{Data, number, unsigned, negative, string, array, object, Members, no_members, member, put}
use Rattle.serde_json.specs.View.{items_of}
use Rattle.serde_json.specs.Written.{compact_text}
use Rattle.moments.specs.Moments.{moment_text}
use Rattle.nats_text.specs.declared.message.Start.{Start}
use Rattle.nats_text.specs.declared.message.Start.TheVariants.{Seq, Time}
use Rattle.nats_text.specs.declared.origin.Mapping.{Mapping}
use Rattle.nats_text.specs.declared.origin.Origin.{Origin}
use Rattle.stream_fold.specs.declared.config.Config.{Config}
use Rattle.stream_fold.specs.declared.config.Discard.{Discard}
use Rattle.stream_fold.specs.declared.config.Discard.TheVariants.{Old, New}
use Rattle.stream_fold.specs.declared.config.Copies.{Copies}
use Rattle.stream_fold.specs.declared.config.Copies.TheVariants.{Nothing, Mirror, Sources}
use Rattle.config_json.specs.Origins.{api_of}

-- ---- texts

-- the two texts of a transform are UTF-8
abbrev pub mapping_is_text : Mapping → Bool
mapping_is_text m = is_utf8 m.src && is_utf8 m.dest

-- so are those of the maps of an origin
abbrev pub origin_is_text : Origin → Bool
origin_is_text o = list_all mapping_is_text o.maps

-- so are those of the origins of a copy
abbrev pub copies_are_text : Copies → Bool
copies_are_text Nothing = true
copies_are_text (Mirror origin) = origin_is_text origin
copies_are_text (Sources origins) = list_all origin_is_text origins

-- all that is written of a configuration is UTF-8: its names and patterns always are
abbrev pub is_text : Config → Bool
is_text c = copies_are_text c.copies && option_map_or mapping_is_text c.transform true

-- ---- JSON

-- a number in JSON
abbrev pub whole : ℕ → Data
whole n = number (unsigned n)

-- a limit, which is written as -1 where it is none
abbrev pub limit_data : ℕ → Data
limit_data n = if n == 0 then number (negative (negsuc 0)) else whole n

-- which message goes where a limit is reached
abbrev pub discard_data : Discard → Data
discard_data Old = string (codes "old")
discard_data New = string (codes "new")

-- the two texts of a transform
abbrev pub mapping_data : Mapping → Data
mapping_data m = object (member (codes "dest") (string m.dest) (member (codes "src") (string m.src) no_members))

-- the maps, where there are some
abbrev pub maps_members : List Mapping → Members
maps_members [] = no_members
maps_members (m ∷ ms) = member (codes "subject_transforms") (array (items_of (map mapping_data (m ∷ ms)))) no_members

-- where a copy starts, and the maps behind it
abbrev pub start_members : Start → Members → Members
start_members (Seq n) others = member (codes "opt_start_seq") (whole n) others
start_members (Time t) others = member (codes "opt_start_time") (string (moment_text t)) others

-- the filter, where there is one
abbrev pub filter_members : Option (List ℕ) → Members → Members
filter_members None others = others
filter_members (Some filter) others = member (codes "filter_subject") (string filter) others

-- the node of the origin, where it is another one
abbrev pub node_members : Option (List ℕ) → Members → Members
node_members None others = others
node_members (Some node) others = member (codes "external") (object (member (codes "api") (string (api_of node)) no_members)) others

-- an origin
abbrev pub origin_data : Origin → Data
origin_data o = object (node_members o.node (filter_members o.filter (member (codes "name") (string o.stream) (start_members o.start (maps_members o.maps)))))

-- the origin of a mirror
abbrev pub mirror_members : Copies → Members → Members
mirror_members Nothing others = others
mirror_members (Mirror origin) others = member (codes "mirror") (origin_data origin) others
mirror_members (Sources origins) others = others

-- the origins of sources
abbrev pub sources_members : Copies → Members → Members
sources_members Nothing others = others
sources_members (Mirror origin) others = others
sources_members (Sources origins) others = member (codes "sources") (array (items_of (map origin_data origins))) others

-- the stream's own transform
abbrev pub transform_members : Option Mapping → Members → Members
transform_members None others = others
transform_members (Some m) others = member (codes "subject_transform") (mapping_data m) others

-- a configuration
abbrev pub config_data : Config → Data
config_data c = object
    (member (codes "discard") (discard_data c.discard)
    (member (codes "duplicate_window") (whole c.window)
    (member (codes "max_age") (whole c.max_age)
    (member (codes "max_bytes") (limit_data c.max_bytes)
    (member (codes "max_msg_size") (limit_data c.max_msg_size)
    (member (codes "max_msgs") (limit_data c.max_msgs)
    (member (codes "max_msgs_per_subject") (limit_data c.max_per_subject)
    (mirror_members c.copies
    (member (codes "name") (string c.name)
    (member (codes "num_replicas") (whole 1)
    (member (codes "retention") (string (codes "limits"))
    (sources_members c.copies
    (member (codes "storage") (string (codes "file"))
    (transform_members c.transform
    (member (codes "subjects") (array (items_of (map string c.subjects))) no_members)))))))))))))))

-- the text of a configuration
abbrev pub config_text : Config → List ℕ
config_text c = compact_text (config_data c)

-- ---- the members as they are put, one after another

-- with the node
abbrev pub with_node : Option (List ℕ) → Members → Members
with_node None ms = ms
with_node (Some node) ms = put (codes "external") (object (member (codes "api") (string (api_of node)) no_members)) ms

-- with the filter
abbrev pub with_filter : Option (List ℕ) → Members → Members
with_filter None ms = ms
with_filter (Some filter) ms = put (codes "filter_subject") (string filter) ms

-- with the start
abbrev pub with_start : Start → Members → Members
with_start (Seq n) ms = put (codes "opt_start_seq") (whole n) ms
with_start (Time t) ms = put (codes "opt_start_time") (string (moment_text t)) ms

-- with the maps
abbrev pub with_maps : List Mapping → Members → Members
with_maps [] ms = ms
with_maps (first ∷ maps) ms = put (codes "subject_transforms") (array (items_of (map mapping_data (first ∷ maps)))) ms

-- the limits
abbrev pub limit_members : Config → Members
limit_members c =
    member (codes "discard") (discard_data c.discard)
    (member (codes "duplicate_window") (whole c.window)
    (member (codes "max_age") (whole c.max_age)
    (member (codes "max_bytes") (limit_data c.max_bytes)
    (member (codes "max_msg_size") (limit_data c.max_msg_size)
    (member (codes "max_msgs") (limit_data c.max_msgs)
    (member (codes "max_msgs_per_subject") (limit_data c.max_per_subject) no_members))))))

-- with the other members that are always there
abbrev pub with_words : Config → Members → Members
with_words c ms =
    put (codes "subjects") (array (items_of (map string c.subjects))) (put (codes "storage") (string (codes "file"))
    (put (codes "retention") (string (codes "limits")) (put (codes "num_replicas") (whole 1) (put (codes "name") (string c.name) ms))))

-- with what is copied
abbrev pub with_copies : Copies → Members → Members
with_copies Nothing ms = ms
with_copies (Mirror origin) ms = put (codes "mirror") (origin_data origin) ms
with_copies (Sources origins) ms = put (codes "sources") (array (items_of (map origin_data origins))) ms

-- with the stream's own transform
abbrev pub with_transform : Option Mapping → Members → Members
with_transform None ms = ms
with_transform (Some m) ms = put (codes "subject_transform") (mapping_data m) ms
