-- No configuration has a number with a fraction.
use Rattle.std.proofs.Common.{◌≡◌, ℕ, List, [], ◌∷◌, map, Bool, true, false, ◌==◌, cond, Option, None, Some, refl}
use Rattle.std.specs.Prelude.{negsuc}
use Rattle.serde_json.specs.Data.{number, negative, string}
use Rattle.serde_json.specs.View.{items_of}
use Rattle.serde_json.specs.Written.{has_float, items_have_float}
use Rattle.nats_text.specs.declared.message.Start.{Start}
use Rattle.nats_text.specs.declared.message.Start.TheVariants.{Seq, Time}
use Rattle.nats_text.specs.declared.origin.Mapping.{Mapping}
use Rattle.nats_text.specs.declared.origin.Origin.{Origin}
use Rattle.stream_fold.specs.declared.config.Config.{Config}
use Rattle.stream_fold.specs.declared.config.Discard.{Discard}
use Rattle.stream_fold.specs.declared.config.Discard.TheVariants.{Old, New}
use Rattle.stream_fold.specs.declared.config.Copies.{Copies}
use Rattle.stream_fold.specs.declared.config.Copies.TheVariants.{Nothing, Mirror, Sources}
use Rattle.config_json.specs.Writing.{whole, limit_data, mapping_data, origin_data, config_data}
use Rattle.config_json.proofs.Written.{origin_parts, config_parts}

limit_whole : (n : ℕ) → has_float (limit_data n) ≡ false
limit_whole n =
    let P : Bool → Type 0 = λ b. has_float (cond b (number (negative (negsuc 0))) (whole n)) ≡ false in
    elim (n == 0) as P [ true ↦ refl | false ↦ refl ]

texts_whole : (ts : List (List ℕ)) → items_have_float (items_of (map string ts)) ≡ false
texts_whole [] = refl
texts_whole (t ∷ ts) = texts_whole ts

maps_whole : (ms : List Mapping) → items_have_float (items_of (map mapping_data ms)) ≡ false
maps_whole [] = refl
maps_whole (m ∷ ms) = maps_whole ms

parts_whole : (node filter : Option (List ℕ)) (name : List ℕ) (start : Start) (maps : List Mapping) → has_float (origin_parts node filter name start maps) ≡ false
parts_whole None None name (Seq q) [] = refl
parts_whole None None name (Seq q) (m ∷ ms) = rw (maps_whole ms) refl
parts_whole None None name (Time t) [] = refl
parts_whole None None name (Time t) (m ∷ ms) = rw (maps_whole ms) refl
parts_whole None (Some f) name (Seq q) [] = refl
parts_whole None (Some f) name (Seq q) (m ∷ ms) = rw (maps_whole ms) refl
parts_whole None (Some f) name (Time t) [] = refl
parts_whole None (Some f) name (Time t) (m ∷ ms) = rw (maps_whole ms) refl
parts_whole (Some n) None name (Seq q) [] = refl
parts_whole (Some n) None name (Seq q) (m ∷ ms) = rw (maps_whole ms) refl
parts_whole (Some n) None name (Time t) [] = refl
parts_whole (Some n) None name (Time t) (m ∷ ms) = rw (maps_whole ms) refl
parts_whole (Some n) (Some f) name (Seq q) [] = refl
parts_whole (Some n) (Some f) name (Seq q) (m ∷ ms) = rw (maps_whole ms) refl
parts_whole (Some n) (Some f) name (Time t) [] = refl
parts_whole (Some n) (Some f) name (Time t) (m ∷ ms) = rw (maps_whole ms) refl

origin_whole : (o : Origin) → has_float (origin_data o) ≡ false
origin_whole o = parts_whole o.node o.filter o.stream o.start o.maps

origins_whole : (os : List Origin) → items_have_float (items_of (map origin_data os)) ≡ false
origins_whole [] = refl
origins_whole (o ∷ os) = rw (origin_whole o, origins_whole os) refl

config_whole : (c : Config) (discard : Discard) (copies : Copies) (transform : Option Mapping) → has_float (config_parts c discard copies transform) ≡ false
config_whole c Old Nothing None = rw (limit_whole c.max_bytes, limit_whole c.max_msg_size, limit_whole c.max_msgs, limit_whole c.max_per_subject, texts_whole c.subjects) refl
config_whole c Old Nothing (Some m) = rw (limit_whole c.max_bytes, limit_whole c.max_msg_size, limit_whole c.max_msgs, limit_whole c.max_per_subject, texts_whole c.subjects) refl
config_whole c Old (Mirror o) None = rw (limit_whole c.max_bytes, limit_whole c.max_msg_size, limit_whole c.max_msgs, limit_whole c.max_per_subject, texts_whole c.subjects, origin_whole o) refl
config_whole c Old (Mirror o) (Some m) = rw (limit_whole c.max_bytes, limit_whole c.max_msg_size, limit_whole c.max_msgs, limit_whole c.max_per_subject, texts_whole c.subjects, origin_whole o) refl
config_whole c Old (Sources os) None = rw (limit_whole c.max_bytes, limit_whole c.max_msg_size, limit_whole c.max_msgs, limit_whole c.max_per_subject, texts_whole c.subjects, origins_whole os) refl
config_whole c Old (Sources os) (Some m) = rw (limit_whole c.max_bytes, limit_whole c.max_msg_size, limit_whole c.max_msgs, limit_whole c.max_per_subject, texts_whole c.subjects, origins_whole os) refl
config_whole c New Nothing None = rw (limit_whole c.max_bytes, limit_whole c.max_msg_size, limit_whole c.max_msgs, limit_whole c.max_per_subject, texts_whole c.subjects) refl
config_whole c New Nothing (Some m) = rw (limit_whole c.max_bytes, limit_whole c.max_msg_size, limit_whole c.max_msgs, limit_whole c.max_per_subject, texts_whole c.subjects) refl
config_whole c New (Mirror o) None = rw (limit_whole c.max_bytes, limit_whole c.max_msg_size, limit_whole c.max_msgs, limit_whole c.max_per_subject, texts_whole c.subjects, origin_whole o) refl
config_whole c New (Mirror o) (Some m) = rw (limit_whole c.max_bytes, limit_whole c.max_msg_size, limit_whole c.max_msgs, limit_whole c.max_per_subject, texts_whole c.subjects, origin_whole o) refl
config_whole c New (Sources os) None = rw (limit_whole c.max_bytes, limit_whole c.max_msg_size, limit_whole c.max_msgs, limit_whole c.max_per_subject, texts_whole c.subjects, origins_whole os) refl
config_whole c New (Sources os) (Some m) = rw (limit_whole c.max_bytes, limit_whole c.max_msg_size, limit_whole c.max_msgs, limit_whole c.max_per_subject, texts_whole c.subjects, origins_whole os) refl

pub no_float : (c : Config) → has_float (config_data c) ≡ false
no_float c = config_whole c c.discard c.copies c.transform
