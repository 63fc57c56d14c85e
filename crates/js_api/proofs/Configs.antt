-- The members of a configuration that is written stand in byte order.
use Rattle.std.proofs.Common.{◌≡◌, ℕ, List, [], ◌∷◌, map, Bool, true, false, ◌==◌, cond, Option, None, Some, refl}
use Rattle.std.specs.Prelude.{negsuc}
use Rattle.serde_json.specs.Data.{number, negative, string}
use Rattle.serde_json.specs.View.{items_of}
use Rattle.nats_text.specs.declared.message.Start.{Start}
use Rattle.nats_text.specs.declared.message.Start.TheVariants.{Seq, Time}
use Rattle.nats_text.specs.declared.origin.Mapping.{Mapping}
use Rattle.nats_text.specs.declared.origin.Origin.{Origin}
use Rattle.stream_fold.specs.declared.config.Config.{Config}
use Rattle.stream_fold.specs.declared.config.Discard.{Discard}
use Rattle.stream_fold.specs.declared.config.Discard.TheVariants.{Old, New}
use Rattle.stream_fold.specs.declared.config.Copies.{Copies}
use Rattle.stream_fold.specs.declared.config.Copies.TheVariants.{Nothing, Mirror, Sources}
use Rattle.config_json.specs.Writing.{whole, limit_data, discard_data, mapping_data, origin_data, config_data}
use Rattle.config_json.proofs.Written.{config_parts}
use Rattle.js_api.specs.Laws.{in_order, items_in_order}

limit_in_order : (n : ℕ) → in_order (limit_data n) ≡ true
limit_in_order n =
    let P : Bool → Type 0 = λ b. in_order (cond b (number (negative (negsuc 0))) (whole n)) ≡ true in
    elim (n == 0) as P [ true ↦ refl | false ↦ refl ]

texts_in_order : (texts : List (List ℕ)) → items_in_order (items_of (map string texts)) ≡ true
texts_in_order [] = refl
texts_in_order (t ∷ texts) = texts_in_order texts

maps_in_order : (ms : List Mapping) → items_in_order (items_of (map mapping_data ms)) ≡ true
maps_in_order [] = refl
maps_in_order (m ∷ ms) = maps_in_order ms

-- an origin, by its parts
origin_parts : (o : Origin) (node filter : Option (List ℕ)) (start : Start) (maps : List Mapping)
    → in_order (origin_data (record o { node = node; filter = filter; start = start; maps = maps })) ≡ true
origin_parts o None None (Seq n) [] = refl
origin_parts o None None (Time t) [] = refl
origin_parts o None (Some f) (Seq n) [] = refl
origin_parts o None (Some f) (Time t) [] = refl
origin_parts o (Some e) None (Seq n) [] = refl
origin_parts o (Some e) None (Time t) [] = refl
origin_parts o (Some e) (Some f) (Seq n) [] = refl
origin_parts o (Some e) (Some f) (Time t) [] = refl
origin_parts o None None (Seq n) (m ∷ ms) = rw (maps_in_order ms) refl
origin_parts o None None (Time t) (m ∷ ms) = rw (maps_in_order ms) refl
origin_parts o None (Some f) (Seq n) (m ∷ ms) = rw (maps_in_order ms) refl
origin_parts o None (Some f) (Time t) (m ∷ ms) = rw (maps_in_order ms) refl
origin_parts o (Some e) None (Seq n) (m ∷ ms) = rw (maps_in_order ms) refl
origin_parts o (Some e) None (Time t) (m ∷ ms) = rw (maps_in_order ms) refl
origin_parts o (Some e) (Some f) (Seq n) (m ∷ ms) = rw (maps_in_order ms) refl
origin_parts o (Some e) (Some f) (Time t) (m ∷ ms) = rw (maps_in_order ms) refl

origin_in_order : (o : Origin) → in_order (origin_data o) ≡ true
origin_in_order o = origin_parts o o.node o.filter o.start o.maps

origins_in_order : (os : List Origin) → items_in_order (items_of (map origin_data os)) ≡ true
origins_in_order [] = refl
origins_in_order (o ∷ os) = rw (origin_in_order o) (origins_in_order os)

parts_in_order : (c : Config) (discard : Discard) (copies : Copies) (transform : Option Mapping) → in_order (discard_data discard) ≡ true → in_order (config_parts c discard copies transform) ≡ true
parts_in_order c discard Nothing None d = rw (d, limit_in_order c.max_bytes, limit_in_order c.max_msg_size, limit_in_order c.max_msgs, limit_in_order c.max_per_subject, texts_in_order c.subjects) refl
parts_in_order c discard Nothing (Some m) d = rw (d, limit_in_order c.max_bytes, limit_in_order c.max_msg_size, limit_in_order c.max_msgs, limit_in_order c.max_per_subject, texts_in_order c.subjects) refl
parts_in_order c discard (Mirror o) None d = rw (d, limit_in_order c.max_bytes, limit_in_order c.max_msg_size, limit_in_order c.max_msgs, limit_in_order c.max_per_subject, texts_in_order c.subjects, origin_in_order o) refl
parts_in_order c discard (Mirror o) (Some m) d = rw (d, limit_in_order c.max_bytes, limit_in_order c.max_msg_size, limit_in_order c.max_msgs, limit_in_order c.max_per_subject, texts_in_order c.subjects, origin_in_order o) refl
parts_in_order c discard (Sources os) None d = rw (d, limit_in_order c.max_bytes, limit_in_order c.max_msg_size, limit_in_order c.max_msgs, limit_in_order c.max_per_subject, texts_in_order c.subjects, origins_in_order os) refl
parts_in_order c discard (Sources os) (Some m) d = rw (d, limit_in_order c.max_bytes, limit_in_order c.max_msg_size, limit_in_order c.max_msgs, limit_in_order c.max_per_subject, texts_in_order c.subjects, origins_in_order os) refl

discard_in_order : (d : Discard) → in_order (discard_data d) ≡ true
discard_in_order Old = refl
discard_in_order New = refl

pub config_in_order : (c : Config) → in_order (config_data c) ≡ true
config_in_order c = parts_in_order c c.discard c.copies c.transform (discard_in_order c.discard)
