-- What is written of a configuration reads as the same JSON.
use Rattle.std.proofs.Common.{◌≡◌, ℕ, ◌^◌, ◌<◌, ◌≤◌, List, [], ◌∷◌, ◌++◌, length, map, Bool, true, false, ◌&&◌, ◌==◌, cond, Option, None, Some, refl, ap, ◌∙◌, arith, IsUtf8}
use Rattle.std.specs.Prelude.{codes, negsuc, option_and_then, option_map, nat_le}
use Rattle.std.specs.List.{list_all}
use Rattle.std.specs.Option.{option_map_or}
use Rattle.std.specs.Str.{is_utf8}
use Rattle.std.proofs.lemmas.Bool.{and_parts}
use Rattle.std.proofs.lemmas.Str.{IsUtf8-from_is_utf8, is_utf8-from_IsUtf8, IsUtf8-append}
use Rattle.json.proofs.Printed.Utf8.{IsUtf8-are_ascii}
use Rattle.serde_json.specs.Data.{Data, number, negative, string, array, object, item, Members, no_members, member, depth, items_depth}
use Rattle.serde_json.specs.Read.{read, of_json, of_items, max_depth}
use Rattle.serde_json.specs.View.{items_of}
use Rattle.serde_json.specs.Written.{outline, items_outline}
use Rattle.serde_json.proofs.Numbers.{number_of-decimal, number_of-negative}
use Rattle.moments.proofs.Clock.{moment_utf8}
use Rattle.nats_text.specs.Text.{is_name, is_pattern, tokens, are_pattern_tokens}
use Rattle.nats_text.specs.declared.message.Start.{Start}
use Rattle.nats_text.specs.declared.message.Start.TheVariants.{Seq, Time}
use Rattle.nats_text.specs.declared.origin.Mapping.{Mapping}
use Rattle.nats_text.specs.declared.origin.Origin.{Origin}
use Rattle.stream_fold.specs.declared.config.Config.{Config}
use Rattle.stream_fold.specs.declared.config.Discard.{Discard}
use Rattle.stream_fold.specs.declared.config.Discard.TheVariants.{Old, New}
use Rattle.stream_fold.specs.declared.config.Copies.{Copies}
use Rattle.stream_fold.specs.declared.config.Copies.TheVariants.{Nothing, Mirror, Sources}
use Rattle.config_json.specs.Laws.{IsStart, IsOrigin, AreOrigins, AreCopies, IsConfig}
use Rattle.config_json.specs.Origins.{api_of}
use Rattle.config_json.specs.Reading.{data_of}
use Rattle.config_json.specs.Writing.{whole, limit_data, discard_data, mapping_data, maps_members, start_members, filter_members, node_members, origin_data, mirror_members, sources_members, transform_members, config_data, config_text, mapping_is_text, origin_is_text, copies_are_text, is_text}
use Rattle.config_json.proofs.Json.{Plain, PlainItems, PlainMembers, reads_again, text_utf8}
use Rattle.config_json.proofs.Names.{name_utf8}

pattern_utf8 : (t : List ℕ) → is_pattern t ≡ true → IsUtf8 t
pattern_utf8 t h =
    let p = and_parts (nat_le (length t) 1024 && is_utf8 t) (are_pattern_tokens (tokens t)) h in
    IsUtf8-from_is_utf8 t (and_parts (nat_le (length t) 1024) (is_utf8 t) p.0).1

-- ---- limits

limit_plain : (n : ℕ) → n < 2 ^ 64 → Plain (limit_data n)
limit_plain n h =
    let P : Bool → Type 0 = λ b. Plain (cond b (number (negative (negsuc 0))) (whole n)) in
    elim (n == 0) as P [ true ↦ refl | false ↦ h ]

limit_ordered : (n : ℕ) → n < 2 ^ 64 → of_json (outline (limit_data n)) ≡ Some (limit_data n)
limit_ordered n h =
    let P : Bool → Type 0 = λ b. of_json (outline (cond b (number (negative (negsuc 0))) (whole n))) ≡ Some (cond b (number (negative (negsuc 0))) (whole n)) in
    elim (n == 0) as P [ true ↦ ap (option_map number) (number_of-negative 0 (omega arith)) | false ↦ ap (option_map number) (number_of-decimal n h) ]

limit_shallow : (n : ℕ) → depth (limit_data n) ≡ 0
limit_shallow n =
    let P : Bool → Type 0 = λ b. depth (cond b (number (negative (negsuc 0))) (whole n)) ≡ 0 in
    elim (n == 0) as P [ true ↦ refl | false ↦ refl ]

discard_plain : (d : Discard) → Plain (discard_data d)
discard_plain Old = IsUtf8-are_ascii (codes "old") refl
discard_plain New = IsUtf8-are_ascii (codes "new") refl

-- ---- maps

mapping_plain : (m : Mapping) → mapping_is_text m ≡ true → Plain (mapping_data m)
mapping_plain m h =
    let p = and_parts (is_utf8 m.src) (is_utf8 m.dest) h in
    (IsUtf8-are_ascii (codes "dest") refl, IsUtf8-from_is_utf8 m.dest p.1, (IsUtf8-are_ascii (codes "src") refl, IsUtf8-from_is_utf8 m.src p.0, tt))

maps_plain : (ms : List Mapping) → list_all mapping_is_text ms ≡ true → PlainItems (items_of (map mapping_data ms))
maps_plain [] h = tt
maps_plain (m ∷ ms) h =
    let p = and_parts (mapping_is_text m) (list_all mapping_is_text ms) h in
    (mapping_plain m p.0, maps_plain ms p.1)

maps_ordered : (ms : List Mapping) → of_items (items_outline (items_of (map mapping_data ms))) ≡ Some (items_of (map mapping_data ms))
maps_ordered [] = refl
maps_ordered (m ∷ ms) = ap (option_map (item (mapping_data m))) (maps_ordered ms)

maps_shallow : (ms : List Mapping) → items_depth (items_of (map mapping_data ms)) ≤ 1
maps_shallow [] = omega arith
maps_shallow (m ∷ ms) = omega (arith, maps_shallow ms)

texts_plain : (ts : List (List ℕ)) → list_all is_pattern ts ≡ true → PlainItems (items_of (map string ts))
texts_plain [] h = tt
texts_plain (t ∷ ts) h = let p = and_parts (is_pattern t) (list_all is_pattern ts) h in (pattern_utf8 t p.0, texts_plain ts p.1)

texts_ordered : (ts : List (List ℕ)) → of_items (items_outline (items_of (map string ts))) ≡ Some (items_of (map string ts))
texts_ordered [] = refl
texts_ordered (t ∷ ts) = ap (option_map (item (string t))) (texts_ordered ts)

texts_shallow : (ts : List (List ℕ)) → items_depth (items_of (map string ts)) ≤ 0
texts_shallow [] = omega arith
texts_shallow (t ∷ ts) = omega (arith, texts_shallow ts)

-- ---- origins

maps_members_plain : (ms : List Mapping) → list_all mapping_is_text ms ≡ true → PlainMembers (maps_members ms)
maps_members_plain [] h = tt
maps_members_plain (m ∷ ms) h = (IsUtf8-are_ascii (codes "subject_transforms") refl, maps_plain (m ∷ ms) h, tt)

start_plain : (s : Start) (others : Members) → IsStart s → PlainMembers others → PlainMembers (start_members s others)
start_plain (Seq n) others h p = (IsUtf8-are_ascii (codes "opt_start_seq") refl, h, p)
start_plain (Time t) others h p = (IsUtf8-are_ascii (codes "opt_start_time") refl, moment_utf8 t h, p)

filter_plain : (f : Option (List ℕ)) (others : Members) → option_map_or is_pattern f true ≡ true → PlainMembers others → PlainMembers (filter_members f others)
filter_plain None others h p = p
filter_plain (Some t) others h p = (IsUtf8-are_ascii (codes "filter_subject") refl, pattern_utf8 t h, p)

pub api_utf8 : (n : List ℕ) → is_name n ≡ true → IsUtf8 (api_of n)
api_utf8 n h = IsUtf8-append (codes "$JS." ++ n) (codes ".API") (IsUtf8-append (codes "$JS.") n (IsUtf8-are_ascii (codes "$JS.") refl) (name_utf8 n h)) (IsUtf8-are_ascii (codes ".API") refl)

node_plain : (n : Option (List ℕ)) (others : Members) → option_map_or is_name n true ≡ true → PlainMembers others → PlainMembers (node_members n others)
node_plain None others h p = p
node_plain (Some n) others h p = (IsUtf8-are_ascii (codes "external") refl, (IsUtf8-are_ascii (codes "api") refl, api_utf8 n h, tt), p)

origin_plain : (o : Origin) → IsOrigin o → origin_is_text o ≡ true → Plain (origin_data o)
origin_plain o h t =
    let maps = maps_members_plain o.maps t in
    let start = start_plain o.start (maps_members o.maps) h.start_is maps in
    node_plain o.node _ h.node_is (filter_plain o.filter _ h.filter_is (IsUtf8-are_ascii (codes "name") refl, name_utf8 o.stream h.stream_is, start))

abbrev pub origin_parts : Option (List ℕ) → Option (List ℕ) → List ℕ → Start → List Mapping → Data
origin_parts node filter name start maps = object (node_members node (filter_members filter (member (codes "name") (string name) (start_members start (maps_members maps)))))

parts_ordered : (node filter : Option (List ℕ)) (name : List ℕ) (start : Start) (maps : List Mapping) → IsStart start
    → of_json (outline (origin_parts node filter name start maps)) ≡ Some (origin_parts node filter name start maps)
parts_ordered None None name (Seq q) [] h = rw (number_of-decimal q h) refl
parts_ordered None None name (Seq q) (m ∷ ms) h = rw (maps_ordered ms, number_of-decimal q h) refl
parts_ordered None None name (Time t) [] h = refl
parts_ordered None None name (Time t) (m ∷ ms) h = rw (maps_ordered ms) refl
parts_ordered None (Some f) name (Seq q) [] h = rw (number_of-decimal q h) refl
parts_ordered None (Some f) name (Seq q) (m ∷ ms) h = rw (maps_ordered ms, number_of-decimal q h) refl
parts_ordered None (Some f) name (Time t) [] h = refl
parts_ordered None (Some f) name (Time t) (m ∷ ms) h = rw (maps_ordered ms) refl
parts_ordered (Some n) None name (Seq q) [] h = rw (number_of-decimal q h) refl
parts_ordered (Some n) None name (Seq q) (m ∷ ms) h = rw (maps_ordered ms, number_of-decimal q h) refl
parts_ordered (Some n) None name (Time t) [] h = refl
parts_ordered (Some n) None name (Time t) (m ∷ ms) h = rw (maps_ordered ms) refl
parts_ordered (Some n) (Some f) name (Seq q) [] h = rw (number_of-decimal q h) refl
parts_ordered (Some n) (Some f) name (Seq q) (m ∷ ms) h = rw (maps_ordered ms, number_of-decimal q h) refl
parts_ordered (Some n) (Some f) name (Time t) [] h = refl
parts_ordered (Some n) (Some f) name (Time t) (m ∷ ms) h = rw (maps_ordered ms) refl

parts_shallow : (node filter : Option (List ℕ)) (name : List ℕ) (start : Start) (maps : List Mapping) → depth (origin_parts node filter name start maps) ≤ 3
parts_shallow None None name (Seq q) [] = omega arith
parts_shallow None None name (Seq q) (m ∷ ms) = omega (arith, maps_shallow (m ∷ ms))
parts_shallow None None name (Time t) [] = omega arith
parts_shallow None None name (Time t) (m ∷ ms) = omega (arith, maps_shallow (m ∷ ms))
parts_shallow None (Some f) name (Seq q) [] = omega arith
parts_shallow None (Some f) name (Seq q) (m ∷ ms) = omega (arith, maps_shallow (m ∷ ms))
parts_shallow None (Some f) name (Time t) [] = omega arith
parts_shallow None (Some f) name (Time t) (m ∷ ms) = omega (arith, maps_shallow (m ∷ ms))
parts_shallow (Some n) None name (Seq q) [] = omega arith
parts_shallow (Some n) None name (Seq q) (m ∷ ms) = omega (arith, maps_shallow (m ∷ ms))
parts_shallow (Some n) None name (Time t) [] = omega arith
parts_shallow (Some n) None name (Time t) (m ∷ ms) = omega (arith, maps_shallow (m ∷ ms))
parts_shallow (Some n) (Some f) name (Seq q) [] = omega arith
parts_shallow (Some n) (Some f) name (Seq q) (m ∷ ms) = omega (arith, maps_shallow (m ∷ ms))
parts_shallow (Some n) (Some f) name (Time t) [] = omega arith
parts_shallow (Some n) (Some f) name (Time t) (m ∷ ms) = omega (arith, maps_shallow (m ∷ ms))

origin_ordered : (o : Origin) → IsOrigin o → of_json (outline (origin_data o)) ≡ Some (origin_data o)
origin_ordered o h = parts_ordered o.node o.filter o.stream o.start o.maps h.start_is

origin_shallow : (o : Origin) → depth (origin_data o) ≤ 3
origin_shallow o = parts_shallow o.node o.filter o.stream o.start o.maps

origins_plain : (os : List Origin) → AreOrigins os → list_all origin_is_text os ≡ true → PlainItems (items_of (map origin_data os))
origins_plain [] h t = tt
origins_plain (o ∷ os) h t = let p = and_parts (origin_is_text o) (list_all origin_is_text os) t in (origin_plain o h.0 p.0, origins_plain os h.1 p.1)

origins_ordered : (os : List Origin) → AreOrigins os → of_items (items_outline (items_of (map origin_data os))) ≡ Some (items_of (map origin_data os))
origins_ordered [] h = refl
origins_ordered (o ∷ os) h =
    ap (option_and_then (λ d. option_map (item d) (of_items (items_outline (items_of (map origin_data os)))))) (origin_ordered o h.0) ∙ ap (option_map (item (origin_data o))) (origins_ordered os h.1)

origins_shallow : (os : List Origin) → items_depth (items_of (map origin_data os)) ≤ 3
origins_shallow [] = omega arith
origins_shallow (o ∷ os) = omega (arith, origin_shallow o, origins_shallow os)

-- ---- configurations

mirror_plain : (copies : Copies) (others : Members) → AreCopies copies → copies_are_text copies ≡ true → PlainMembers others → PlainMembers (mirror_members copies others)
mirror_plain Nothing others h t p = p
mirror_plain (Mirror o) others h t p = (IsUtf8-are_ascii (codes "mirror") refl, origin_plain o h t, p)
mirror_plain (Sources os) others h t p = p

sources_plain : (copies : Copies) (others : Members) → AreCopies copies → copies_are_text copies ≡ true → PlainMembers others → PlainMembers (sources_members copies others)
sources_plain Nothing others h t p = p
sources_plain (Mirror o) others h t p = p
sources_plain (Sources os) others h t p = (IsUtf8-are_ascii (codes "sources") refl, origins_plain os h t, p)

transform_plain : (m : Option Mapping) (others : Members) → option_map_or mapping_is_text m true ≡ true → PlainMembers others → PlainMembers (transform_members m others)
transform_plain None others t p = p
transform_plain (Some m) others t p = (IsUtf8-are_ascii (codes "subject_transform") refl, mapping_plain m t, p)

-- what is written of a configuration is whole numbers and texts
pub config_plain : (c : Config) → IsConfig c → is_text c ≡ true → Plain (config_data c)
config_plain c h t =
    let texts = and_parts (copies_are_text c.copies) (option_map_or mapping_is_text c.transform true) t in
    let one : 1 < 2 ^ 64 = omega arith in (
      IsUtf8-are_ascii (codes "discard") refl,
      discard_plain c.discard,
      (
        IsUtf8-are_ascii (codes "duplicate_window") refl,
        h.window_is,
        (
          IsUtf8-are_ascii (codes "max_age") refl,
          h.age_is,
          (
            IsUtf8-are_ascii (codes "max_bytes") refl,
            limit_plain c.max_bytes h.bytes_are,
            (
              IsUtf8-are_ascii (codes "max_msg_size") refl,
              limit_plain c.max_msg_size h.size_is,
              (
                IsUtf8-are_ascii (codes "max_msgs") refl,
                limit_plain c.max_msgs h.msgs_are,
                (
                  IsUtf8-are_ascii (codes "max_msgs_per_subject") refl,
                  limit_plain c.max_per_subject h.per_subject_is,
                  mirror_plain c.copies _ h.copies_are texts.0 (
                    IsUtf8-are_ascii (codes "name") refl,
                    name_utf8 c.name h.name_is,
                    (
                      IsUtf8-are_ascii (codes "num_replicas") refl,
                      one,
                      (
                        IsUtf8-are_ascii (codes "retention") refl,
                        IsUtf8-are_ascii (codes "limits") refl,
                        sources_plain c.copies _ h.copies_are texts.0 (
                          IsUtf8-are_ascii (codes "storage") refl,
                          IsUtf8-are_ascii (codes "file") refl,
                          transform_plain c.transform _ texts.1
                              (IsUtf8-are_ascii (codes "subjects") refl, texts_plain c.subjects h.subjects_are, tt),
                        ),
                      ),
                    ),
                  ),
                ),
              ),
            ),
          ),
        ),
      ),
    )

-- a configuration, with what it copies and its transform apart
abbrev pub config_parts : Config → Discard → Copies → Option Mapping → Data
config_parts c discard copies transform = object
    (member (codes "discard") (discard_data discard)
    (member (codes "duplicate_window") (whole c.window)
    (member (codes "max_age") (whole c.max_age)
    (member (codes "max_bytes") (limit_data c.max_bytes)
    (member (codes "max_msg_size") (limit_data c.max_msg_size)
    (member (codes "max_msgs") (limit_data c.max_msgs)
    (member (codes "max_msgs_per_subject") (limit_data c.max_per_subject)
    (mirror_members copies
    (member (codes "name") (string c.name)
    (member (codes "num_replicas") (whole 1)
    (member (codes "retention") (string (codes "limits"))
    (sources_members copies
    (member (codes "storage") (string (codes "file"))
    (transform_members transform
    (member (codes "subjects") (array (items_of (map string c.subjects))) no_members)))))))))))))))

config_ordered : (c : Config) (discard : Discard) (copies : Copies) (transform : Option Mapping) → IsConfig c → AreCopies copies
    → of_json (outline (config_parts c discard copies transform)) ≡ Some (config_parts c discard copies transform)
config_ordered c Old Nothing None h k = rw (limit_ordered c.max_bytes h.bytes_are, limit_ordered c.max_msg_size h.size_is, limit_ordered c.max_msgs h.msgs_are, limit_ordered c.max_per_subject h.per_subject_is, number_of-decimal c.window h.window_is, number_of-decimal c.max_age h.age_is, texts_ordered c.subjects, number_of-decimal 1 (omega arith)) refl
config_ordered c Old Nothing (Some m) h k = rw (limit_ordered c.max_bytes h.bytes_are, limit_ordered c.max_msg_size h.size_is, limit_ordered c.max_msgs h.msgs_are, limit_ordered c.max_per_subject h.per_subject_is, number_of-decimal c.window h.window_is, number_of-decimal c.max_age h.age_is, texts_ordered c.subjects, number_of-decimal 1 (omega arith)) refl
config_ordered c Old (Mirror o) None h k = rw (limit_ordered c.max_bytes h.bytes_are, limit_ordered c.max_msg_size h.size_is, limit_ordered c.max_msgs h.msgs_are, limit_ordered c.max_per_subject h.per_subject_is, number_of-decimal c.window h.window_is, number_of-decimal c.max_age h.age_is, texts_ordered c.subjects, number_of-decimal 1 (omega arith), origin_ordered o k) refl
config_ordered c Old (Mirror o) (Some m) h k = rw (limit_ordered c.max_bytes h.bytes_are, limit_ordered c.max_msg_size h.size_is, limit_ordered c.max_msgs h.msgs_are, limit_ordered c.max_per_subject h.per_subject_is, number_of-decimal c.window h.window_is, number_of-decimal c.max_age h.age_is, texts_ordered c.subjects, number_of-decimal 1 (omega arith), origin_ordered o k) refl
config_ordered c Old (Sources os) None h k = rw (limit_ordered c.max_bytes h.bytes_are, limit_ordered c.max_msg_size h.size_is, limit_ordered c.max_msgs h.msgs_are, limit_ordered c.max_per_subject h.per_subject_is, number_of-decimal c.window h.window_is, number_of-decimal c.max_age h.age_is, texts_ordered c.subjects, number_of-decimal 1 (omega arith), origins_ordered os k) refl
config_ordered c Old (Sources os) (Some m) h k = rw (limit_ordered c.max_bytes h.bytes_are, limit_ordered c.max_msg_size h.size_is, limit_ordered c.max_msgs h.msgs_are, limit_ordered c.max_per_subject h.per_subject_is, number_of-decimal c.window h.window_is, number_of-decimal c.max_age h.age_is, texts_ordered c.subjects, number_of-decimal 1 (omega arith), origins_ordered os k) refl
config_ordered c New Nothing None h k = rw (limit_ordered c.max_bytes h.bytes_are, limit_ordered c.max_msg_size h.size_is, limit_ordered c.max_msgs h.msgs_are, limit_ordered c.max_per_subject h.per_subject_is, number_of-decimal c.window h.window_is, number_of-decimal c.max_age h.age_is, texts_ordered c.subjects, number_of-decimal 1 (omega arith)) refl
config_ordered c New Nothing (Some m) h k = rw (limit_ordered c.max_bytes h.bytes_are, limit_ordered c.max_msg_size h.size_is, limit_ordered c.max_msgs h.msgs_are, limit_ordered c.max_per_subject h.per_subject_is, number_of-decimal c.window h.window_is, number_of-decimal c.max_age h.age_is, texts_ordered c.subjects, number_of-decimal 1 (omega arith)) refl
config_ordered c New (Mirror o) None h k = rw (limit_ordered c.max_bytes h.bytes_are, limit_ordered c.max_msg_size h.size_is, limit_ordered c.max_msgs h.msgs_are, limit_ordered c.max_per_subject h.per_subject_is, number_of-decimal c.window h.window_is, number_of-decimal c.max_age h.age_is, texts_ordered c.subjects, number_of-decimal 1 (omega arith), origin_ordered o k) refl
config_ordered c New (Mirror o) (Some m) h k = rw (limit_ordered c.max_bytes h.bytes_are, limit_ordered c.max_msg_size h.size_is, limit_ordered c.max_msgs h.msgs_are, limit_ordered c.max_per_subject h.per_subject_is, number_of-decimal c.window h.window_is, number_of-decimal c.max_age h.age_is, texts_ordered c.subjects, number_of-decimal 1 (omega arith), origin_ordered o k) refl
config_ordered c New (Sources os) None h k = rw (limit_ordered c.max_bytes h.bytes_are, limit_ordered c.max_msg_size h.size_is, limit_ordered c.max_msgs h.msgs_are, limit_ordered c.max_per_subject h.per_subject_is, number_of-decimal c.window h.window_is, number_of-decimal c.max_age h.age_is, texts_ordered c.subjects, number_of-decimal 1 (omega arith), origins_ordered os k) refl
config_ordered c New (Sources os) (Some m) h k = rw (limit_ordered c.max_bytes h.bytes_are, limit_ordered c.max_msg_size h.size_is, limit_ordered c.max_msgs h.msgs_are, limit_ordered c.max_per_subject h.per_subject_is, number_of-decimal c.window h.window_is, number_of-decimal c.max_age h.age_is, texts_ordered c.subjects, number_of-decimal 1 (omega arith), origins_ordered os k) refl

config_shallow : (c : Config) (discard : Discard) (copies : Copies) (transform : Option Mapping) → depth (config_parts c discard copies transform) ≤ 5
config_shallow c Old Nothing None = omega (arith, limit_shallow c.max_bytes, limit_shallow c.max_msg_size, limit_shallow c.max_msgs, limit_shallow c.max_per_subject, texts_shallow c.subjects)
config_shallow c Old Nothing (Some m) = omega (arith, limit_shallow c.max_bytes, limit_shallow c.max_msg_size, limit_shallow c.max_msgs, limit_shallow c.max_per_subject, texts_shallow c.subjects)
config_shallow c Old (Mirror o) None = omega (arith, limit_shallow c.max_bytes, limit_shallow c.max_msg_size, limit_shallow c.max_msgs, limit_shallow c.max_per_subject, texts_shallow c.subjects, origin_shallow o)
config_shallow c Old (Mirror o) (Some m) = omega (arith, limit_shallow c.max_bytes, limit_shallow c.max_msg_size, limit_shallow c.max_msgs, limit_shallow c.max_per_subject, texts_shallow c.subjects, origin_shallow o)
config_shallow c Old (Sources os) None = omega (arith, limit_shallow c.max_bytes, limit_shallow c.max_msg_size, limit_shallow c.max_msgs, limit_shallow c.max_per_subject, texts_shallow c.subjects, origins_shallow os)
config_shallow c Old (Sources os) (Some m) = omega (arith, limit_shallow c.max_bytes, limit_shallow c.max_msg_size, limit_shallow c.max_msgs, limit_shallow c.max_per_subject, texts_shallow c.subjects, origins_shallow os)
config_shallow c New Nothing None = omega (arith, limit_shallow c.max_bytes, limit_shallow c.max_msg_size, limit_shallow c.max_msgs, limit_shallow c.max_per_subject, texts_shallow c.subjects)
config_shallow c New Nothing (Some m) = omega (arith, limit_shallow c.max_bytes, limit_shallow c.max_msg_size, limit_shallow c.max_msgs, limit_shallow c.max_per_subject, texts_shallow c.subjects)
config_shallow c New (Mirror o) None = omega (arith, limit_shallow c.max_bytes, limit_shallow c.max_msg_size, limit_shallow c.max_msgs, limit_shallow c.max_per_subject, texts_shallow c.subjects, origin_shallow o)
config_shallow c New (Mirror o) (Some m) = omega (arith, limit_shallow c.max_bytes, limit_shallow c.max_msg_size, limit_shallow c.max_msgs, limit_shallow c.max_per_subject, texts_shallow c.subjects, origin_shallow o)
config_shallow c New (Sources os) None = omega (arith, limit_shallow c.max_bytes, limit_shallow c.max_msg_size, limit_shallow c.max_msgs, limit_shallow c.max_per_subject, texts_shallow c.subjects, origins_shallow os)
config_shallow c New (Sources os) (Some m) = omega (arith, limit_shallow c.max_bytes, limit_shallow c.max_msg_size, limit_shallow c.max_msgs, limit_shallow c.max_per_subject, texts_shallow c.subjects, origins_shallow os)

-- it is no deeper than five levels
pub written_shallow : (c : Config) → depth (config_data c) ≤ 5
written_shallow c = config_shallow c c.discard c.copies c.transform

pub texts_read : (c : Config) → IsConfig c → is_text c ≡ true → read (config_text c) ≡ Some (config_data c)
texts_read c h t =
    let low : depth (config_data c) ≤ max_depth = omega (arith, config_shallow c c.discard c.copies c.transform) in
    reads_again (config_data c) (config_plain c h t) (config_ordered c c.discard c.copies c.transform h h.copies_are) low

pub data_read : (c : Config) → IsConfig c → is_text c ≡ true → data_of (config_text c) ≡ Some (config_data c)
data_read c h t =
    let u : is_utf8 (config_text c) ≡ true = is_utf8-from_IsUtf8 (config_text c) (text_utf8 (config_data c) (config_plain c h t)) in
    ap (λ b. cond b (read (config_text c)) None) u ∙ texts_read c h t
