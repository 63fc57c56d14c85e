-- What is written of a configuration that a stream may have is read as that configuration.
use Rattle.std.proofs.Common.{◌≡◌, ℕ, zero, suc, ◌+◌, ◌-◌, ◌^◌, ◌<◌, List, [], ◌∷◌, ◌++◌, length, length-append, take_at, map, Bool, true, false, ◌&&◌, ◌||◌, not, ◌==◌, cond, nat_lt, Option, None, Some, Result, Ok, refl, sym, ap, ◌∙◌, arith, lt-ltb}
use Rattle.std.specs.Prelude.{codes, negsuc, pos, is_some, option_and_then, option_map}
use Rattle.std.specs.List.{list_all, list_any}
use Rattle.std.specs.Option.{option_map_or}
use Rattle.std.specs.Str.{bytes_eq}
use Rattle.std.proofs.lemmas.Bool.{and_parts, eqb-true, ne_eqb, ltb-false, false≢true}
use Rattle.std.proofs.lemmas.Bool.Decides.{nat_tests}
use Rattle.std.proofs.lemmas.Option.{none-some}
use Rattle.std.proofs.lemmas.Slice.Eq.{bytes_eq-Decides}
use Rattle.serde_json.specs.Data.{Data, number, negative, string, array, object, no_members, member as json_member}
use Rattle.serde_json.specs.Find.{get}
use Rattle.serde_json.specs.View.{items_of}
use Rattle.moments.specs.Moments.{moment_text}
use Rattle.moments.proofs.Clock.{moment_read}
use Rattle.nats_text.specs.Matching.{overlap}
use Rattle.nats_text.specs.Text.{is_name, is_pattern}
use Rattle.nats_text.specs.declared.message.Start.{Start}
use Rattle.nats_text.specs.declared.message.Start.TheVariants.{Seq, Time}
use Rattle.nats_text.specs.declared.origin.Mapping.{Mapping}
use Rattle.nats_text.specs.declared.origin.Origin.{Origin}
use Rattle.stream_fold.specs.Checking as checking
use Rattle.stream_fold.specs.Checking.{wrong_if, own_subjects, some_overlap, is_copy, is_mirror, is_too_great, start_fault, is_legal_map, has_wrong_maps, has_short_texts, are_transform, config_fault, limits_fault, copies_fault, source_fault, source_faults, mirror_fault, has_wrong_subjects, has_wrong_window, is_wrong_transform}
use Rattle.stream_fold.specs.Histories.{either}
use Rattle.stream_fold.specs.declared.config.Config.{Config}
use Rattle.stream_fold.specs.declared.config.Discard.{Discard}
use Rattle.stream_fold.specs.declared.config.Discard.TheVariants.{Old, New}
use Rattle.stream_fold.specs.declared.config.Copies.{Copies}
use Rattle.stream_fold.specs.declared.config.Copies.TheVariants.{Nothing, Mirror, Sources}
use Rattle.config_json.specs.declared.fault.ApiFault.{ApiFault}
use Rattle.config_json.specs.declared.limits.Limits.{Limits}
use Rattle.config_json.specs.Answers.{member, member_is, and_then, no_wrong}
use Rattle.config_json.specs.Laws.{IsOrigin, AreOrigins, AreCopies, IsConfig}
use Rattle.config_json.specs.Origins.{api_of, between, node_from, external_of, map_of, maps_of, maps_in, maps_beside, time_of, start_in, origin_members, place_in, choice_in, node_at_last, origin_of, origins_of}
use Rattle.config_json.specs.Others.{absent_or, absent_or_is, maybe, name_of, pattern_of, patterns_of, is_word, number_of, limit_of, limit_from, other_in}
use Rattle.config_json.specs.Reading.{are_wrong_subjects, subjects_of, subjects_or_name, discard_of, is_one_replica, window_from, window_in, limits_in, mirror_of, sources_of, copies_in, transform_in, rest_fault, transform_at_last, config_from, config_if, config_of}
use Rattle.config_json.specs.Writing.{whole, limit_data, discard_data, mapping_data, origin_data, config_data, config_text, is_text}
use Rattle.config_json.proofs.Written.{origin_parts, config_parts, data_read}

same_bytes : (s : List ℕ) → bytes_eq s s ≡ true
same_bytes s = (bytes_eq-Decides s s).1 refl

-- ---- one reading behind another

member_read : {A B : Type 0} (name : List ℕ) (o : Option A) (a : A) (go : A → Result B ApiFault) (r : Result B ApiFault) → o ≡ Some a → go a ≡ r → member name o go ≡ r
member_read name o a go r h k = ap (λ x. member name x go) h ∙ k

right_read : {B : Type 0} (name : List ℕ) (b : Bool) (rest r : Result B ApiFault) → b ≡ true → rest ≡ r → member_is name b rest ≡ r
right_read name b rest r h k = ap (λ x. member_is name x rest) h ∙ k

behind_read : {A B : Type 0} (first : Result A ApiFault) (a : A) (go : A → Result B ApiFault) (r : Result B ApiFault) → first ≡ Ok a → go a ≡ r → and_then first go ≡ r
behind_read first a go r h k = ap (λ x. and_then x go) h ∙ k

none_wrong : {B : Type 0} (o : Option (List ℕ)) (rest : Result B ApiFault) → o ≡ None → no_wrong o rest ≡ rest
none_wrong o rest h = ap (λ x. no_wrong x rest) h

-- ---- what no fault says

none_either : {A : Type 0} (a b : Option A) → either a b ≡ None → (a ≡ None) × (b ≡ None)
none_either None b h = (refl, h)
none_either (Some x) b h = absurd (none-some x (sym h))

not_wrong : (b : Bool) (name : List ℕ) → wrong_if b name ≡ None → b ≡ false
not_wrong false name h = refl
not_wrong true name h = absurd (none-some name (sym h))

none_or : (a b : Bool) → (a || b) ≡ false → (a ≡ false) × (b ≡ false)
none_or false b h = (refl, h)
none_or true b h = absurd (false≢true (sym h))

neither : (a b c : Bool) → (a || b || c) ≡ false → (a ≡ false) × (b ≡ false) × (c ≡ false)
neither false false c h = (refl, refl, h)
neither false true c h = absurd (false≢true (sym h))
neither true b c h = absurd (false≢true (sym h))

turned : (b : Bool) → not b ≡ false → b ≡ true
turned true h = refl
turned false h = absurd (false≢true (sym h))

small : (n : ℕ) → is_too_great n ≡ false → n < 2 ^ 63
small n h = grind (arith, nat_tests)

-- ---- limits

limit_read : (n : ℕ) → n < 2 ^ 63 → limit_of (limit_data n) ≡ Some n
limit_read n h =
    let P : Bool → Type 0 = λ b. (n == 0) ≡ b → limit_of (cond b (number (negative (negsuc 0))) (whole n)) ≡ Some n in
    let go : (b : Bool) → P b = λ b. elim b as P [
      | true ↦ (λ e. ap (λ k. Some k) (sym (eqb-true n 0 e)))
      | false ↦ (λ e. ap (λ t. option_and_then limit_from (cond t (Some (pos n)) None)) (lt-ltb n (2 ^ 63) h) ∙ ap (λ t. cond t (Some n) None) (lt-ltb n (2 ^ 63) h))
    ] in
    go (n == 0) refl

number_read : (n : ℕ) → n < 2 ^ 63 → number_of (whole n) ≡ Some n
number_read n h = ap (λ b. cond b (Some n) None) (lt-ltb n (2 ^ 63) h)

discard_read : (d : Discard) → absent_or Old discard_of (Some (discard_data d)) ≡ Some d
discard_read Old = refl
discard_read New = refl

positive : (n : ℕ) → nat_lt 0 n ≡ not (n == 0)
positive zero = refl
positive (suc n) = lt-ltb 0 (suc n) (omega arith) ∙ sym (ap not (ne_eqb (suc n) 0 (λ e. omega (arith, e))))

window_read : (age window : ℕ) → ((window == 0) || (not (age == 0) && nat_lt age window)) ≡ false → window_from age window ≡ Some window
window_read age window h =
    let k = none_or (window == 0) (not (age == 0) && nat_lt age window) h in
    rw (k.0, positive age, k.1) refl

abbrev limits_with : Config → Discard → ℕ → Limits
limits_with c discard window = record { max_msgs = c.max_msgs; max_bytes = c.max_bytes; max_age = c.max_age; max_per_subject = c.max_per_subject; max_msg_size = c.max_msg_size; discard = discard; window = window }

abbrev limits_of : Config → Discard → Limits
limits_of c discard = limits_with c discard c.window

-- ---- the members of a configuration that is written

get_name : (c : Config) (discard : Discard) (copies : Copies) (transform : Option Mapping) → get (codes "name") (config_parts c discard copies transform) ≡ Some (string c.name)
get_name c discard Nothing transform = refl
get_name c discard (Mirror o) transform = refl
get_name c discard (Sources os) transform = refl

get_replicas : (c : Config) (discard : Discard) (copies : Copies) (transform : Option Mapping) → get (codes "num_replicas") (config_parts c discard copies transform) ≡ Some (whole 1)
get_replicas c discard Nothing transform = refl
get_replicas c discard (Mirror o) transform = refl
get_replicas c discard (Sources os) transform = refl

get_retention : (c : Config) (discard : Discard) (copies : Copies) (transform : Option Mapping) → get (codes "retention") (config_parts c discard copies transform) ≡ Some (string (codes "limits"))
get_retention c discard Nothing transform = refl
get_retention c discard (Mirror o) transform = refl
get_retention c discard (Sources os) transform = refl

get_storage : (c : Config) (discard : Discard) (copies : Copies) (transform : Option Mapping) → get (codes "storage") (config_parts c discard copies transform) ≡ Some (string (codes "file"))
get_storage c discard Nothing transform = refl
get_storage c discard (Mirror o) transform = refl
get_storage c discard (Sources os) transform = refl

get_subjects : (c : Config) (discard : Discard) (copies : Copies) (transform : Option Mapping) → get (codes "subjects") (config_parts c discard copies transform) ≡ Some (array (items_of (map string c.subjects)))
get_subjects c discard Nothing None = refl
get_subjects c discard Nothing (Some m) = refl
get_subjects c discard (Mirror o) None = refl
get_subjects c discard (Mirror o) (Some m) = refl
get_subjects c discard (Sources os) None = refl
get_subjects c discard (Sources os) (Some m) = refl

abbrev mirror_data : Copies → Option Data
mirror_data Nothing = None
mirror_data (Mirror origin) = Some (origin_data origin)
mirror_data (Sources origins) = None

abbrev sources_data : Copies → Option Data
sources_data Nothing = None
sources_data (Mirror origin) = None
sources_data (Sources origins) = Some (array (items_of (map origin_data origins)))

get_mirror : (c : Config) (discard : Discard) (copies : Copies) (transform : Option Mapping) → get (codes "mirror") (config_parts c discard copies transform) ≡ mirror_data copies
get_mirror c discard Nothing None = refl
get_mirror c discard Nothing (Some m) = refl
get_mirror c discard (Mirror o) None = refl
get_mirror c discard (Mirror o) (Some m) = refl
get_mirror c discard (Sources os) None = refl
get_mirror c discard (Sources os) (Some m) = refl

get_sources : (c : Config) (discard : Discard) (copies : Copies) (transform : Option Mapping) → get (codes "sources") (config_parts c discard copies transform) ≡ sources_data copies
get_sources c discard Nothing None = refl
get_sources c discard Nothing (Some m) = refl
get_sources c discard (Mirror o) None = refl
get_sources c discard (Mirror o) (Some m) = refl
get_sources c discard (Sources os) None = refl
get_sources c discard (Sources os) (Some m) = refl

get_transform : (c : Config) (discard : Discard) (copies : Copies) (transform : Option Mapping) → get (codes "subject_transform") (config_parts c discard copies transform) ≡ option_map mapping_data transform
get_transform c discard Nothing None = refl
get_transform c discard Nothing (Some m) = refl
get_transform c discard (Mirror o) None = refl
get_transform c discard (Mirror o) (Some m) = refl
get_transform c discard (Sources os) None = refl
get_transform c discard (Sources os) (Some m) = refl

rest_is : (c : Config) (discard : Discard) (copies : Copies) (transform : Option Mapping) → rest_fault (config_parts c discard copies transform) ≡ None
rest_is c discard Nothing None = refl
rest_is c discard Nothing (Some m) = refl
rest_is c discard (Mirror o) None = refl
rest_is c discard (Mirror o) (Some m) = refl
rest_is c discard (Sources os) None = refl
rest_is c discard (Sources os) (Some m) = refl

limits_read : (c : Config) (discard : Discard) (copies : Copies) (transform : Option Mapping) → limits_fault c ≡ None → has_wrong_window c ≡ false
    → limits_in (config_parts c discard copies transform) ≡ Ok (limits_of c discard)
limits_read c discard copies transform h w =
    let d = config_parts c discard copies transform in
    let f1 = none_either (wrong_if (is_too_great c.max_msgs) (codes "max_msgs")) _ h in
    let f2 = none_either (wrong_if (is_too_great c.max_bytes) (codes "max_bytes")) _ f1.1 in
    let f3 = none_either (wrong_if (is_too_great c.max_per_subject) (codes "max_msgs_per_subject")) _ f2.1 in
    let msgs = limit_read c.max_msgs (small c.max_msgs (not_wrong _ _ f1.0)) in
    let bytes = limit_read c.max_bytes (small c.max_bytes (not_wrong _ _ f2.0)) in
    let per_subject = limit_read c.max_per_subject (small c.max_per_subject (not_wrong _ _ f3.0)) in
    let size = limit_read c.max_msg_size (small c.max_msg_size (not_wrong _ _ f3.1)) in
    right_read (codes "retention") _ _ _ (ap (absent_or_is (is_word (codes "limits"))) (get_retention c discard copies transform))
    (member_read (codes "max_msgs") _ c.max_msgs _ _ msgs
    (member_read (codes "max_bytes") _ c.max_bytes _ _ bytes
    (member_read (codes "max_msgs_per_subject") _ c.max_per_subject _ _ per_subject
    (member_read (codes "max_msg_size") _ c.max_msg_size _ _ size
    (right_read (codes "storage") _ _ _ (ap (absent_or_is (is_word (codes "file"))) (get_storage c discard copies transform))
    (right_read (codes "num_replicas") _ _ _ (ap (absent_or_is is_one_replica) (get_replicas c discard copies transform))
    (member_read (codes "discard") _ discard (λ x. member (codes "duplicate_window") (window_in c.max_age (get (codes "duplicate_window") d)) (λ window. Ok (limits_with c x window))) _ (discard_read discard)
    (member_read (codes "duplicate_window") _ c.window (λ window. Ok (limits_with c discard window)) _ (window_read c.max_age c.window w) refl))))))))

-- ---- names and patterns

name_read : (t : List ℕ) → is_name t ≡ true → name_of (string t) ≡ Some t
name_read t h = ap (λ b. cond b (Some t) None) h

pattern_read : (t : List ℕ) → is_pattern t ≡ true → pattern_of (string t) ≡ Some t
pattern_read t h = ap (λ b. cond b (Some t) None) h

patterns_read : (ts : List (List ℕ)) → list_all is_pattern ts ≡ true → patterns_of (items_of (map string ts)) ≡ Some ts
patterns_read [] h = refl
patterns_read (t ∷ ts) h =
    let p = and_parts (is_pattern t) (list_all is_pattern ts) h in
    ap (option_and_then (λ (x : List ℕ). option_map (λ (xs : List (List ℕ)). x ∷ xs) (patterns_of (items_of (map string ts))))) (pattern_read t p.0)
    ∙ ap (option_map (λ (xs : List (List ℕ)). t ∷ xs)) (patterns_read ts p.1)

four : (a b c d : Bool) → (a || b || c || d) ≡ false → (a ≡ false) × ((b || c || d) ≡ false)
four false b c d h = (refl, h)
four true b c d h = absurd (false≢true (sym h))

subjects_read : (ts : List (List ℕ)) → list_all is_pattern ts ≡ true → are_wrong_subjects ts ≡ false → subjects_of (array (items_of (map string ts))) ≡ Some ts
subjects_read ts h k =
    ap (option_and_then (λ (s : List (List ℕ)). cond (are_wrong_subjects s) None (Some s))) (patterns_read ts h) ∙ ap (λ b. cond b None (Some ts)) k

subjects_kept : (name : List ℕ) (copies : Copies) (ts : List (List ℕ)) → ((length ts == 0) && not (is_copy copies)) ≡ false → subjects_or_name name copies ts ≡ ts
subjects_kept name Nothing [] h = absurd (false≢true (sym h))
subjects_kept name (Mirror o) [] h = refl
subjects_kept name (Sources os) [] h = refl
subjects_kept name copies (t ∷ ts) h = refl

-- ---- maps

map_read : (m : Mapping) → is_legal_map m ≡ true → map_of (mapping_data m) ≡ Some m
map_read m h = ap (λ b. cond b (Some m) None) h

maps_read : (ms : List Mapping) → list_all is_legal_map ms ≡ true → maps_of (items_of (map mapping_data ms)) ≡ Some ms
maps_read [] h = refl
maps_read (m ∷ ms) h =
    let p = and_parts (is_legal_map m) (list_all is_legal_map ms) h in
    ap (option_and_then (λ (x : Mapping). option_map (λ (xs : List Mapping). x ∷ xs) (maps_of (items_of (map mapping_data ms))))) (map_read m p.0)
    ∙ ap (option_map (λ (xs : List Mapping). m ∷ xs)) (maps_read ms p.1)

abbrev maps_data : List Mapping → Option Data
maps_data [] = None
maps_data (m ∷ ms) = Some (array (items_of (map mapping_data (m ∷ ms))))

few_read : (has_filter : Bool) (ms : List Mapping) → ((has_filter && nat_lt 0 (length ms)) || nat_lt 16 (length ms) || not (list_all is_legal_map ms)) ≡ false
    → maps_in has_filter (maps_data ms) ≡ Some ms
few_read has_filter [] h =
    let k = neither (has_filter && nat_lt 0 0) (nat_lt 16 0) (not true) h in
    ap (λ b. cond b None (Some [])) (ap (λ b. b || nat_lt 16 0) k.0)
few_read has_filter (m ∷ ms) h =
    let k = neither (has_filter && nat_lt 0 (length (m ∷ ms))) (nat_lt 16 (length (m ∷ ms))) (not (list_all is_legal_map (m ∷ ms))) h in
    ap (option_and_then (maps_beside has_filter)) (maps_read (m ∷ ms) (turned _ k.2)) ∙ ap (λ b. cond b None (Some (m ∷ ms))) (ap (λ b. b || nat_lt 16 (length (m ∷ ms))) k.0 ∙ k.1)

-- ---- starts

abbrev seq_data : Start → Option Data
seq_data (Seq n) = Some (whole n)
seq_data (Time t) = None

abbrev time_data : Start → Option Data
time_data (Seq n) = None
time_data (Time t) = Some (string (moment_text t))

abbrev seq_in : Start → Option ℕ
seq_in (Seq n) = Some n
seq_in (Time t) = None

seq_read : (s : Start) → start_fault s ≡ None → maybe number_of (seq_data s) ≡ Some (seq_in s)
seq_read (Seq n) h = ap (option_map (λ (k : ℕ). Some k)) (number_read n (small n (not_wrong _ _ h)))
seq_read (Time t) h = refl

time_read : (t : ℕ) → t < 2 ^ 63 → time_of (string (moment_text t)) ≡ Some t
time_read t h =
    let wide : t < 2 ^ 64 = omega (arith, h) in
    ap (option_and_then (λ (k : ℕ). cond (nat_lt k (2 ^ 63)) (Some k) None)) (moment_read t wide) ∙ ap (λ b. cond b (Some t) None) (lt-ltb t (2 ^ 63) h)

start_read : (s : Start) → start_fault s ≡ None → start_in (seq_in s) (time_data s) ≡ Some s
start_read (Seq n) h = refl
start_read (Time t) h = ap (option_map (λ (k : ℕ). Time k)) (time_read t (small t (not_wrong _ _ h)))

-- ---- nodes

between_is : (node : List ℕ) → between (api_of node) ≡ node
between_is node =
    let long : length (node ++ codes ".API") ≡ length node + 4 = length-append node (codes ".API") in
    take_at node (codes ".API") (length (api_of node) - 4 - 4) (omega (arith, long))

node_read : (node : List ℕ) → is_name node ≡ true → node_from (api_of node) ≡ Some node
node_read node h =
    let e = between_is node in
    rw (e, h, same_bytes (api_of node)) refl

abbrev node_data : Option (List ℕ) → Option Data
node_data None = None
node_data (Some node) = Some (object (json_member (codes "api") (string (api_of node)) no_members))

external_read : (node : Option (List ℕ)) → option_map_or is_name node true ≡ true → maybe external_of (node_data node) ≡ Some node
external_read None h = refl
external_read (Some node) h = ap (option_map (λ (n : List ℕ). Some n)) (node_read node h)

filter_read : (filter : Option (List ℕ)) → option_map_or is_pattern filter true ≡ true → maybe pattern_of (option_map string filter) ≡ Some filter
filter_read None h = refl
filter_read (Some filter) h = ap (option_map (λ (f : List ℕ). Some f)) (pattern_read filter h)

-- ---- the members of an origin that is written

origin_name : (node filter : Option (List ℕ)) (name : List ℕ) (start : Start) (maps : List Mapping) → get (codes "name") (origin_parts node filter name start maps) ≡ Some (string name)
origin_name None None name (Seq q) [] = refl
origin_name None None name (Seq q) (m ∷ ms) = refl
origin_name None None name (Time t) [] = refl
origin_name None None name (Time t) (m ∷ ms) = refl
origin_name None (Some f) name (Seq q) [] = refl
origin_name None (Some f) name (Seq q) (m ∷ ms) = refl
origin_name None (Some f) name (Time t) [] = refl
origin_name None (Some f) name (Time t) (m ∷ ms) = refl
origin_name (Some n) None name (Seq q) [] = refl
origin_name (Some n) None name (Seq q) (m ∷ ms) = refl
origin_name (Some n) None name (Time t) [] = refl
origin_name (Some n) None name (Time t) (m ∷ ms) = refl
origin_name (Some n) (Some f) name (Seq q) [] = refl
origin_name (Some n) (Some f) name (Seq q) (m ∷ ms) = refl
origin_name (Some n) (Some f) name (Time t) [] = refl
origin_name (Some n) (Some f) name (Time t) (m ∷ ms) = refl

origin_seq : (node filter : Option (List ℕ)) (name : List ℕ) (start : Start) (maps : List Mapping) → get (codes "opt_start_seq") (origin_parts node filter name start maps) ≡ seq_data start
origin_seq None None name (Seq q) [] = refl
origin_seq None None name (Seq q) (m ∷ ms) = refl
origin_seq None None name (Time t) [] = refl
origin_seq None None name (Time t) (m ∷ ms) = refl
origin_seq None (Some f) name (Seq q) [] = refl
origin_seq None (Some f) name (Seq q) (m ∷ ms) = refl
origin_seq None (Some f) name (Time t) [] = refl
origin_seq None (Some f) name (Time t) (m ∷ ms) = refl
origin_seq (Some n) None name (Seq q) [] = refl
origin_seq (Some n) None name (Seq q) (m ∷ ms) = refl
origin_seq (Some n) None name (Time t) [] = refl
origin_seq (Some n) None name (Time t) (m ∷ ms) = refl
origin_seq (Some n) (Some f) name (Seq q) [] = refl
origin_seq (Some n) (Some f) name (Seq q) (m ∷ ms) = refl
origin_seq (Some n) (Some f) name (Time t) [] = refl
origin_seq (Some n) (Some f) name (Time t) (m ∷ ms) = refl

origin_time : (node filter : Option (List ℕ)) (name : List ℕ) (start : Start) (maps : List Mapping) → get (codes "opt_start_time") (origin_parts node filter name start maps) ≡ time_data start
origin_time None None name (Seq q) [] = refl
origin_time None None name (Seq q) (m ∷ ms) = refl
origin_time None None name (Time t) [] = refl
origin_time None None name (Time t) (m ∷ ms) = refl
origin_time None (Some f) name (Seq q) [] = refl
origin_time None (Some f) name (Seq q) (m ∷ ms) = refl
origin_time None (Some f) name (Time t) [] = refl
origin_time None (Some f) name (Time t) (m ∷ ms) = refl
origin_time (Some n) None name (Seq q) [] = refl
origin_time (Some n) None name (Seq q) (m ∷ ms) = refl
origin_time (Some n) None name (Time t) [] = refl
origin_time (Some n) None name (Time t) (m ∷ ms) = refl
origin_time (Some n) (Some f) name (Seq q) [] = refl
origin_time (Some n) (Some f) name (Seq q) (m ∷ ms) = refl
origin_time (Some n) (Some f) name (Time t) [] = refl
origin_time (Some n) (Some f) name (Time t) (m ∷ ms) = refl

origin_filter : (node filter : Option (List ℕ)) (name : List ℕ) (start : Start) (maps : List Mapping) → get (codes "filter_subject") (origin_parts node filter name start maps) ≡ option_map string filter
origin_filter None None name (Seq q) [] = refl
origin_filter None None name (Seq q) (m ∷ ms) = refl
origin_filter None None name (Time t) [] = refl
origin_filter None None name (Time t) (m ∷ ms) = refl
origin_filter None (Some f) name (Seq q) [] = refl
origin_filter None (Some f) name (Seq q) (m ∷ ms) = refl
origin_filter None (Some f) name (Time t) [] = refl
origin_filter None (Some f) name (Time t) (m ∷ ms) = refl
origin_filter (Some n) None name (Seq q) [] = refl
origin_filter (Some n) None name (Seq q) (m ∷ ms) = refl
origin_filter (Some n) None name (Time t) [] = refl
origin_filter (Some n) None name (Time t) (m ∷ ms) = refl
origin_filter (Some n) (Some f) name (Seq q) [] = refl
origin_filter (Some n) (Some f) name (Seq q) (m ∷ ms) = refl
origin_filter (Some n) (Some f) name (Time t) [] = refl
origin_filter (Some n) (Some f) name (Time t) (m ∷ ms) = refl

origin_maps : (node filter : Option (List ℕ)) (name : List ℕ) (start : Start) (maps : List Mapping) → get (codes "subject_transforms") (origin_parts node filter name start maps) ≡ maps_data maps
origin_maps None None name (Seq q) [] = refl
origin_maps None None name (Seq q) (m ∷ ms) = refl
origin_maps None None name (Time t) [] = refl
origin_maps None None name (Time t) (m ∷ ms) = refl
origin_maps None (Some f) name (Seq q) [] = refl
origin_maps None (Some f) name (Seq q) (m ∷ ms) = refl
origin_maps None (Some f) name (Time t) [] = refl
origin_maps None (Some f) name (Time t) (m ∷ ms) = refl
origin_maps (Some n) None name (Seq q) [] = refl
origin_maps (Some n) None name (Seq q) (m ∷ ms) = refl
origin_maps (Some n) None name (Time t) [] = refl
origin_maps (Some n) None name (Time t) (m ∷ ms) = refl
origin_maps (Some n) (Some f) name (Seq q) [] = refl
origin_maps (Some n) (Some f) name (Seq q) (m ∷ ms) = refl
origin_maps (Some n) (Some f) name (Time t) [] = refl
origin_maps (Some n) (Some f) name (Time t) (m ∷ ms) = refl

origin_node : (node filter : Option (List ℕ)) (name : List ℕ) (start : Start) (maps : List Mapping) → get (codes "external") (origin_parts node filter name start maps) ≡ node_data node
origin_node None None name (Seq q) [] = refl
origin_node None None name (Seq q) (m ∷ ms) = refl
origin_node None None name (Time t) [] = refl
origin_node None None name (Time t) (m ∷ ms) = refl
origin_node None (Some f) name (Seq q) [] = refl
origin_node None (Some f) name (Seq q) (m ∷ ms) = refl
origin_node None (Some f) name (Time t) [] = refl
origin_node None (Some f) name (Time t) (m ∷ ms) = refl
origin_node (Some n) None name (Seq q) [] = refl
origin_node (Some n) None name (Seq q) (m ∷ ms) = refl
origin_node (Some n) None name (Time t) [] = refl
origin_node (Some n) None name (Time t) (m ∷ ms) = refl
origin_node (Some n) (Some f) name (Seq q) [] = refl
origin_node (Some n) (Some f) name (Seq q) (m ∷ ms) = refl
origin_node (Some n) (Some f) name (Time t) [] = refl
origin_node (Some n) (Some f) name (Time t) (m ∷ ms) = refl

origin_rest : (node filter : Option (List ℕ)) (name : List ℕ) (start : Start) (maps : List Mapping) → other_in origin_members (origin_parts node filter name start maps) ≡ None
origin_rest None None name (Seq q) [] = refl
origin_rest None None name (Seq q) (m ∷ ms) = refl
origin_rest None None name (Time t) [] = refl
origin_rest None None name (Time t) (m ∷ ms) = refl
origin_rest None (Some f) name (Seq q) [] = refl
origin_rest None (Some f) name (Seq q) (m ∷ ms) = refl
origin_rest None (Some f) name (Time t) [] = refl
origin_rest None (Some f) name (Time t) (m ∷ ms) = refl
origin_rest (Some n) None name (Seq q) [] = refl
origin_rest (Some n) None name (Seq q) (m ∷ ms) = refl
origin_rest (Some n) None name (Time t) [] = refl
origin_rest (Some n) None name (Time t) (m ∷ ms) = refl
origin_rest (Some n) (Some f) name (Seq q) [] = refl
origin_rest (Some n) (Some f) name (Seq q) (m ∷ ms) = refl
origin_rest (Some n) (Some f) name (Time t) [] = refl
origin_rest (Some n) (Some f) name (Time t) (m ∷ ms) = refl

origin_read : (holder : List ℕ) (o : Origin) → IsOrigin o → source_fault o ≡ None → origin_of holder (origin_data o) ≡ Ok o
origin_read holder o h k =
    let f = none_either (start_fault o.start) (wrong_if (has_wrong_maps o) (codes "subject_transforms")) k in
    let maps = not_wrong _ _ f.1 in
    let right = neither (is_some o.filter && nat_lt 0 (length o.maps)) (nat_lt 16 (length o.maps)) (not (list_all is_legal_map o.maps)) maps in
    behind_read (place_in (origin_data o)) (record { stream = o.stream; start = o.start }) _ _
    (member_read (codes "name") _ o.stream _ _ (ap (option_and_then name_of) (origin_name o.node o.filter o.stream o.start o.maps) ∙ name_read o.stream h.stream_is)
    (member_read (codes "opt_start_seq") _ (seq_in o.start) _ _ (ap (maybe number_of) (origin_seq o.node o.filter o.stream o.start o.maps) ∙ seq_read o.start f.0)
    (member_read (codes "opt_start_time") _ o.start _ _ (ap (start_in (seq_in o.start)) (origin_time o.node o.filter o.stream o.start o.maps) ∙ start_read o.start f.0) refl)))
    (behind_read (choice_in (origin_data o)) (record { filter = o.filter; maps = o.maps }) _ _
    (member_read (codes "filter_subject") _ o.filter _ _ (ap (maybe pattern_of) (origin_filter o.node o.filter o.stream o.start o.maps) ∙ filter_read o.filter h.filter_is)
    (member_read (codes "subject_transforms") _ o.maps _ _ (ap (maps_in (is_some o.filter)) (origin_maps o.node o.filter o.stream o.start o.maps) ∙ few_read (is_some o.filter) o.maps maps) refl))
    (behind_read (node_at_last (origin_data o)) o.node _ _
    (member_read (codes "external") _ o.node _ _ (ap (maybe external_of) (origin_node o.node o.filter o.stream o.start o.maps) ∙ external_read o.node h.node_is)
    (none_wrong _ _ (origin_rest o.node o.filter o.stream o.start o.maps)))
    refl))

origins_read : (os : List Origin) → AreOrigins os → source_faults os ≡ None → origins_of (items_of (map origin_data os)) ≡ Ok os
origins_read [] h k = refl
origins_read (o ∷ os) h k =
    let f = none_either (source_fault o) (source_faults os) k in
    behind_read (origin_of (codes "sources") (origin_data o)) o _ _ (origin_read (codes "sources") o h.0 f.0)
    (behind_read (origins_of (items_of (map origin_data os))) os _ _ (origins_read os h.1 f.1) refl)

-- ---- copies

no_maps : (filter : Option (List ℕ)) (ms : List Mapping) → is_some filter ≡ false → nat_lt 0 (length ms) ≡ false → ((is_some filter && nat_lt 0 (length ms)) || nat_lt 16 (length ms) || not (list_all is_legal_map ms)) ≡ false
no_maps filter [] f h = rw f refl
no_maps filter (m ∷ ms) f h = absurd (omega (arith, ltb-false 0 (length (m ∷ ms)) h))

plain_source : (o : Origin) → start_fault o.start ≡ None → is_some o.filter ≡ false → nat_lt 0 (length o.maps) ≡ false → source_fault o ≡ None
plain_source o s f m = rw (s, no_maps o.filter o.maps f m) refl

mirror_read : (c : Config) (discard : Discard) (o : Origin) → c.discard ≡ discard → IsOrigin o → mirror_fault c o ≡ None → mirror_of c.subjects (limits_of c discard) (origin_data o) ≡ Ok (Mirror o)
mirror_read c discard o e h k =
    let f = none_either (start_fault o.start) (wrong_if (checking.is_wrong_mirror c o) (codes "mirror")) k in
    let w = not_wrong _ _ f.1 in
    let first = four (is_some o.filter) (nat_lt 0 (length o.maps)) (nat_lt 0 (length c.subjects)) (not (checking.keeps_all_sizes c)) w in
    let next = neither (nat_lt 0 (length o.maps)) (nat_lt 0 (length c.subjects)) (not (checking.keeps_all_sizes c)) first.1 in
    let source = plain_source o f.0 first.0 next.0 in
    behind_read (origin_of (codes "mirror") (origin_data o)) o _ _ (origin_read (codes "mirror") o h source)
    (right_read (codes "mirror") _ _ _ (ap not (ap (λ d. is_some o.filter || nat_lt 0 (length o.maps) || nat_lt 0 (length c.subjects) || not (checking.is_old d && (c.max_msg_size == 0))) (sym e) ∙ w)) refl)

sources_read : (c : Config) (discard : Discard) (os : List Origin) → c.discard ≡ discard → AreOrigins os → copies_fault c (Sources os) ≡ None → sources_of (limits_of c discard) (array (items_of (map origin_data os))) ≡ Ok (Sources os)
sources_read c discard os e h k =
    let f = none_either (source_faults os) (wrong_if (checking.are_wrong_sources c os) (codes "sources")) k in
    let w = not_wrong _ _ f.1 in
    behind_read (origins_of (items_of (map origin_data os))) os _ _ (origins_read os h f.0)
    (right_read (codes "sources") _ _ _ (ap not (ap (λ d. (length os == 0) || nat_lt 32 (length os) || not (checking.is_old d && (c.max_msg_size == 0))) (sym e) ∙ w)) refl)

copies_read : (c : Config) (discard : Discard) (copies : Copies) → c.discard ≡ discard → AreCopies copies → copies_fault c copies ≡ None
    → copies_in c.subjects (limits_of c discard) (mirror_data copies) (sources_data copies) ≡ Ok copies
copies_read c discard Nothing e h k = refl
copies_read c discard (Mirror o) e h k = mirror_read c discard o e h k
copies_read c discard (Sources os) e h k = sources_read c discard os e h k

-- ---- the stream's own transform

own_read : (copies : Copies) (transform : Option Mapping) → is_wrong_transform copies transform ≡ false → transform_in copies (option_map mapping_data transform) ≡ Some transform
own_read copies None h = refl
own_read copies (Some m) h =
    let k = neither (is_mirror copies) (not (has_short_texts m)) (not (are_transform m)) h in
    rw (k.0, turned _ k.1, turned _ k.2) refl

-- ---- the whole

pub config_read : (c : Config) → IsConfig c → config_fault c ≡ None → config_from (config_data c) ≡ Ok c
config_read c h k =
    let f1 = none_either (wrong_if (has_wrong_subjects c) (codes "subjects")) _ k in
    let f2 = none_either (limits_fault c) _ f1.1 in
    let f3 = none_either (wrong_if (has_wrong_window c) (codes "duplicate_window")) _ f2.1 in
    let f4 = none_either (copies_fault c c.copies) (wrong_if (is_wrong_transform c.copies c.transform) (codes "subject_transform")) f3.1 in
    let subjects = four ((length c.subjects == 0) && not (is_copy c.copies)) (nat_lt 64 (length c.subjects)) (list_any (overlap own_subjects) c.subjects) (some_overlap c.subjects) (not_wrong _ _ f1.0) in
    let transform = not_wrong _ _ f4.1 in
    let d = c.discard in
    let limits = limits_of c d in
    member_read (codes "name") _ c.name _ _ (ap (option_and_then name_of) (get_name c d c.copies c.transform) ∙ name_read c.name h.name_is)
    (member_read (codes "subjects") _ c.subjects _ _ (ap (absent_or [] subjects_of) (get_subjects c d c.copies c.transform) ∙ subjects_read c.subjects h.subjects_are subjects.1)
    (behind_read (limits_in (config_data c)) limits _ _ (limits_read c d c.copies c.transform f2.0 (not_wrong _ _ f3.0))
    (behind_read (copies_in c.subjects limits (get (codes "mirror") (config_data c)) (get (codes "sources") (config_data c))) c.copies _ _
    (ap (λ x. copies_in c.subjects limits x (get (codes "sources") (config_data c))) (get_mirror c d c.copies c.transform) ∙ (ap (copies_in c.subjects limits (mirror_data c.copies)) (get_sources c d c.copies c.transform) ∙ copies_read c d c.copies refl h.copies_are f4.0))
    (behind_read (transform_at_last c.copies (config_data c)) c.transform _ _
    (member_read (codes "subject_transform") _ c.transform _ _ (ap (transform_in c.copies) (get_transform c d c.copies c.transform) ∙ own_read c.copies c.transform transform) (none_wrong _ _ (rest_is c d c.copies c.transform)))
    (ap (λ s. Ok (record { name = c.name; subjects = s; max_msgs = c.max_msgs; max_bytes = c.max_bytes; max_age = c.max_age; max_per_subject = c.max_per_subject; max_msg_size = c.max_msg_size; discard = c.discard; window = c.window; transform = c.transform; copies = c.copies }))
    (subjects_kept c.name c.copies c.subjects subjects.0))))))

pub configs_read : (c : Config) → IsConfig c → is_text c ≡ true → config_fault c ≡ None → config_of (config_text c) ≡ Ok c
configs_read c h t k = ap config_if (data_read c h t) ∙ config_read c h k
