-- What is read as a configuration is one that a stream may have.
use Rattle.std.proofs.Common.{◌≡◌, ℕ, zero, suc, ◌^◌, ◌<◌, ◌≤◌, List, [], ◌∷◌, length, Bool, true, false, ◌&&◌, ◌||◌, not, ◌==◌, cond, nat_lt, Option, None, Some, refl, sym, ap, ◌∙◌, subst, arith, inl, inr}
use Rattle.std.specs.Prelude.{codes, pos, negsuc, is_some, option_and_then, option_map, Result, Ok, Err, nat_le}
use Rattle.std.specs.List.{list_all, list_any}
use Rattle.std.specs.Str.{bytes_eq}
use Rattle.std.proofs.lemmas.Bool.{cases_Bool, and_parts, eqb-true, ne_eqb, ltb-true, ltb-false, lt-ltb, false≢true, true≢false}
use Rattle.std.proofs.lemmas.Bool.Decides.{nat_tests}
use Rattle.std.proofs.lemmas.Option.{none-some}
use Rattle.serde_json.specs.Data.{Data, Num, unsigned, negative, float, Items, no_items, item}
use Rattle.serde_json.specs.Find.{get, as_str, as_number, as_i64, as_array, as_object}
use Rattle.moments.specs.Moments.{moment_of}
use Rattle.nats_text.specs.Matching.{overlap, overlap_tokens, is_tail, meets}
use Rattle.nats_text.specs.Text.{is_name, is_name_byte, tokens, tail}
use Rattle.nats_text.specs.declared.message.Start.{Start}
use Rattle.nats_text.specs.declared.message.Start.TheVariants.{Seq, Time}
use Rattle.nats_text.specs.declared.origin.Mapping.{Mapping}
use Rattle.nats_text.specs.declared.origin.Origin.{Origin}
use Rattle.stream_fold.specs.Checking as checking
use Rattle.stream_fold.specs.Checking.{wrong_if, own_subjects, some_overlap, is_copy, is_mirror, is_too_great, start_fault, source_fault, source_faults, is_legal_map, has_short_texts, are_transform, is_wrong_transform, config_fault}
use Rattle.stream_fold.specs.Histories.{either}
use Rattle.stream_fold.specs.declared.config.Config.{Config}
use Rattle.stream_fold.specs.declared.config.Discard.{Discard}
use Rattle.stream_fold.specs.declared.config.Discard.TheVariants.{Old}
use Rattle.stream_fold.specs.declared.config.Copies.{Copies}
use Rattle.stream_fold.specs.declared.config.Copies.TheVariants.{Nothing, Mirror, Sources}
use Rattle.config_json.specs.declared.fault.ApiFault.{ApiFault}
use Rattle.config_json.specs.declared.fault.ApiFault.TheVariants.{BadRequest, BadConfig}
use Rattle.config_json.specs.declared.limits.Limits.{Limits}
use Rattle.config_json.specs.declared.origin.Choice.{Choice}
use Rattle.config_json.specs.declared.origin.Place.{Place}
use Rattle.config_json.specs.Answers.{member, member_is, and_then, no_wrong}
use Rattle.config_json.specs.Laws.{ReadsArePassed}
use Rattle.config_json.specs.Origins.{mapping_of, map_of, maps_of, maps_in, maps_beside, time_of, start_in, place_in, choice_in, node_at_last, origin_from, origin_of, origins_of}
use Rattle.config_json.specs.Others.{absent_or, absent_or_is, maybe, name_of, pattern_of, patterns_of, is_word, whole_of, number_of, limit_of, limit_from}
use Rattle.config_json.specs.Reading.{are_wrong_subjects, subjects_of, subjects_or_name, default_window, window_from, window_in, limits_in, discard_of, is_one_replica, is_wrong_mirror, mirror_of, are_wrong_sources, sources_of, copies_in, transform_of, transform_in, rest_fault, transform_at_last, config_with, config_from, config_in, data_of, config_if}

-- ---- what an answer says of what was read before it

err-ok : {A : Type 0} (f : ApiFault) (x : A) → Err f ≡ Ok x → ⊥
err-ok {A} f x e = false≢true (ap (λ (r : Result A ApiFault). elim r [ Ok v ↦ true | Err g ↦ false ]) e)

-- what is answered
abbrev answered : {A : Type 0} → A → Result A ApiFault
answered x = Ok x

ok-same : {A : Type 0} (x y : A) → answered x ≡ answered y → x ≡ y
ok-same {A} x y e = ap (λ (r : Result A ApiFault). elim r [ Ok v ↦ v | Err g ↦ x ]) e

some-same : {A : Type 0} (x y : A) → Some x ≡ Some y → x ≡ y
some-same {A} x y e = ap (λ (o : Option A). elim o [ Some v ↦ v | None ↦ x ]) e

member-gave : {A B : Type 0} (name : List ℕ) (o : Option A) (go : A → Result B ApiFault) (b : B) → member name o go ≡ Ok b → (a : A) × (o ≡ Some a) × (go a ≡ Ok b)
member-gave name None go b e = absurd (err-ok (BadConfig name) b e)
member-gave name (Some a) go b e = (a, refl, e)

test-gave : {B : Type 0} (name : List ℕ) (t : Bool) (rest : Result B ApiFault) (b : B) → member_is name t rest ≡ Ok b → (t ≡ true) × (rest ≡ Ok b)
test-gave name true rest b e = (refl, e)
test-gave name false rest b e = absurd (err-ok (BadConfig name) b e)

first-gave : {A B : Type 0} (first : Result A ApiFault) (go : A → Result B ApiFault) (b : B) → and_then first go ≡ Ok b → (a : A) × (first ≡ Ok a) × (go a ≡ Ok b)
first-gave (Ok a) go b e = (a, refl, e)
first-gave (Err f) go b e = absurd (err-ok f b e)

rest-gave : {B : Type 0} (o : Option (List ℕ)) (rest : Result B ApiFault) (b : B) → no_wrong o rest ≡ Ok b → rest ≡ Ok b
rest-gave None rest b e = e
rest-gave (Some name) rest b e = absurd (err-ok (BadConfig name) b e)

option-gave : {A B : Type 0} (f : A → Option B) (o : Option A) (b : B) → option_and_then f o ≡ Some b → (a : A) × (o ≡ Some a) × (f a ≡ Some b)
option-gave f None b e = absurd (none-some b e)
option-gave f (Some a) b e = (a, refl, e)

map-gave : {A B : Type 0} (f : A → B) (o : Option A) (b : B) → option_map f o ≡ Some b → (a : A) × (o ≡ Some a) × (f a ≡ b)
map-gave f None b e = absurd (none-some b e)
map-gave f (Some a) b e = (a, refl, some-same (f a) b e)

where-so : {A : Type 0} (t : Bool) (x y : A) → cond t (Some x) None ≡ Some y → (t ≡ true) × (x ≡ y)
where-so true x y e = (refl, some-same x y e)
where-so false x y e = absurd (none-some y e)

where-not : {A : Type 0} (t : Bool) (o : Option A) (y : A) → cond t None o ≡ Some y → (t ≡ false) × (o ≡ Some y)
where-not true o y e = absurd (none-some y e)
where-not false o y e = (refl, e)

where-else : {A : Type 0} (t : Bool) (o : Option A) (y : A) → cond t o None ≡ Some y → (t ≡ true) × (o ≡ Some y)
where-else true o y e = (refl, e)
where-else false o y e = absurd (none-some y e)

is-false : (b : Bool) → not b ≡ true → b ≡ false
is-false true e = absurd (false≢true e)
is-false false e = refl

none-wrong : (b : Bool) (name : List ℕ) → b ≡ false → wrong_if b name ≡ None
none-wrong b name e = ap (λ t. wrong_if t name) e

-- ---- subjects

byte-free : (b : ℕ) → is_name_byte b ≡ true → ((b == 46) ≡ false) × ((b == 62) ≡ false)
byte-free b h = (grind (arith, nat_tests), grind (arith, nat_tests))

one_token : (bs : List ℕ) → list_all is_name_byte bs ≡ true → tokens bs ≡ bs ∷ []
one_token [] h = refl
one_token (b ∷ bs) h =
    let p = and_parts (is_name_byte b) (list_all is_name_byte bs) h in
    rw ((byte-free b p.0).0, one_token bs p.1) refl

no_tail : (bs : List ℕ) → list_all is_name_byte bs ≡ true → bytes_eq bs tail ≡ false
no_tail [] h = refl
no_tail (b ∷ bs) h = rw ((byte-free b (and_parts (is_name_byte b) (list_all is_name_byte bs) h).0).1) refl

nothing_meets : (b : Bool) → (b && false) ≡ false
nothing_meets true = refl
nothing_meets false = refl

name-apart : (name : List ℕ) → is_name name ≡ true → overlap own_subjects name ≡ false
name-apart name h =
    let bytes = (and_parts (nat_lt 0 (length name) && nat_le (length name) 64) (list_all is_name_byte name) h).1 in
    ap (overlap_tokens (tokens own_subjects)) (one_token name bytes) ∙ rw (no_tail name bytes, nothing_meets (meets (codes "$JS") name)) refl

abbrev are_wrong_in : Copies → List (List ℕ) → Bool
are_wrong_in copies subjects = ((length subjects == 0) && not (is_copy copies)) || nat_lt 64 (length subjects) || list_any (overlap own_subjects) subjects || some_overlap subjects

own-name : (name : List ℕ) (copies : Copies) (b : Bool) → is_copy copies ≡ b → is_name name ≡ true → are_wrong_in copies (cond b [] (name ∷ [])) ≡ false
own-name name copies true e h = rw e refl
own-name name copies false e h = rw (name-apart name h) refl

subjects-pass : (name : List ℕ) (copies : Copies) (subjects : List (List ℕ)) → is_name name ≡ true → are_wrong_subjects subjects ≡ false → are_wrong_in copies (subjects_or_name name copies subjects) ≡ false
subjects-pass name copies [] h w = own-name name copies (is_copy copies) refl h
subjects-pass name copies (s ∷ ss) h w = rw (ne_eqb (suc (length ss)) 0 (λ e. omega (arith, e)), w) refl

subjects-read : (m : Option Data) (subjects : List (List ℕ)) → absent_or [] subjects_of m ≡ Some subjects → are_wrong_subjects subjects ≡ false
subjects-read None subjects e = ap are_wrong_subjects (sym (some-same [] subjects e))
subjects-read (Some d) subjects e =
    let p = option-gave (λ (x : List (List ℕ)). cond (are_wrong_subjects x) None (Some x)) (option_and_then patterns_of (as_array d)) subjects e in
    let q = where-not (are_wrong_subjects p.0) (Some p.0) subjects p.2 in
    ap are_wrong_subjects (sym (some-same p.0 subjects q.1)) ∙ q.0

name-read : (m : Option Data) (name : List ℕ) → option_and_then name_of m ≡ Some name → is_name name ≡ true
name-read m name e =
    let p = option-gave name_of m name e in
    let q = option-gave (λ (t : List ℕ). cond (is_name t) (Some t) None) (as_str p.0) name p.2 in
    let r = where-so (is_name q.0) q.0 name q.2 in
    ap is_name (sym r.1) ∙ r.0

-- ---- limits

fits : (n : ℕ) → n < 2 ^ 63 → is_too_great n ≡ false
fits n h = grind (arith, nat_tests)

limit-fits : (d : Data) (n : ℕ) → limit_of d ≡ Some n → n < 2 ^ 63
limit-fits d n e = by p.0 p.2 where
  p : (z : lib.IntN.ℤ) × (option_and_then as_i64 (as_number d) ≡ Some z) × (limit_from z ≡ Some n)
  p = option-gave limit_from (option_and_then as_i64 (as_number d)) n e

  by : (z : lib.IntN.ℤ) → limit_from z ≡ Some n → n < 2 ^ 63
  by (pos k) h = let q = where-so (nat_lt k (2 ^ 63)) k n h in subst (λ x. x < 2 ^ 63) q.1 (ltb-true k (2 ^ 63) q.0)
  by (negsuc zero) h = subst (λ x. x < 2 ^ 63) (some-same 0 n h) (omega arith)
  by (negsuc (suc k)) h = absurd (none-some n h)

limit-read : (m : Option Data) (n : ℕ) → absent_or 0 limit_of m ≡ Some n → is_too_great n ≡ false
limit-read None n e = ap is_too_great (sym (some-same 0 n e))
limit-read (Some d) n e = fits n (limit-fits d n e)

abbrev is_wrong_window : ℕ → ℕ → Bool
is_wrong_window age window = (window == 0) || (not (age == 0) && nat_lt age window)

default-passes : (age : ℕ) → is_wrong_window age (default_window age) ≡ false
default-passes age = grind (arith, nat_tests)

window-read : (age : ℕ) (m : Option Data) (window : ℕ) → window_in age m ≡ Some window → is_wrong_window age window ≡ false
window-read age m window e = by p.0 p.2 where
  p : (n : ℕ) × (absent_or 0 whole_of m ≡ Some n) × (window_from age n ≡ Some window)
  p = option-gave (window_from age) (absent_or 0 whole_of m) window e

  given : (n : ℕ) → (n == 0) ≡ false → cond (nat_lt 0 age && nat_lt age n) None (Some n) ≡ Some window → is_wrong_window age window ≡ false
  given n z h =
      let q = where-not (nat_lt 0 age && nat_lt age n) (Some n) window h in
      let same : n ≡ window = some-same n window q.1 in
      ap (is_wrong_window age) (sym same) ∙ passes n z q.0 where
        passes : (n : ℕ) → (n == 0) ≡ false → (nat_lt 0 age && nat_lt age n) ≡ false → is_wrong_window age n ≡ false
        passes n z k = grind (arith, nat_tests, z, k)

  by : (n : ℕ) → window_from age n ≡ Some window → is_wrong_window age window ≡ false
  by n h = elim (cases_Bool (n == 0)) [
    | inl none ↦ ap (is_wrong_window age) (sym (some-same (default_window age) window (sym (ap (λ b. cond b (Some (default_window age)) (cond (nat_lt 0 age && nat_lt age n) None (Some n))) none) ∙ h))) ∙ default-passes age
    | inr some ↦ given n some (sym (ap (λ b. cond b (Some (default_window age)) (cond (nat_lt 0 age && nat_lt age n) None (Some n))) some) ∙ h)
  ]

record Pass (l : Limits) : Type 0 where
  msgs : is_too_great l.max_msgs ≡ false
  bytes : is_too_great l.max_bytes ≡ false
  subject : is_too_great l.max_per_subject ≡ false
  size : is_too_great l.max_msg_size ≡ false
  window : is_wrong_window l.max_age l.window ≡ false

abbrev limits_with : ℕ → ℕ → ℕ → ℕ → ℕ → Discard → ℕ → Limits
limits_with msgs bytes subject size age discard window = record { max_msgs = msgs; max_bytes = bytes; max_age = age; max_per_subject = subject; max_msg_size = size; discard = discard; window = window }

module _ (d : Data) where
  abbrev window_part : ℕ → ℕ → ℕ → ℕ → ℕ → Discard → Result Limits ApiFault
  window_part msgs bytes subject size age discard = member (codes "duplicate_window") (window_in age (get (codes "duplicate_window") d)) (λ window.
      answered (limits_with msgs bytes subject size age discard window))

  abbrev discard_part : ℕ → ℕ → ℕ → ℕ → ℕ → Result Limits ApiFault
  discard_part msgs bytes subject size age = member (codes "discard") (absent_or Old discard_of (get (codes "discard") d)) (λ discard. window_part msgs bytes subject size age discard)

  abbrev replicas_part : ℕ → ℕ → ℕ → ℕ → ℕ → Result Limits ApiFault
  replicas_part msgs bytes subject size age = member_is (codes "num_replicas") (absent_or_is is_one_replica (get (codes "num_replicas") d)) (discard_part msgs bytes subject size age)

  abbrev storage_part : ℕ → ℕ → ℕ → ℕ → ℕ → Result Limits ApiFault
  storage_part msgs bytes subject size age = member_is (codes "storage") (absent_or_is (is_word (codes "file")) (get (codes "storage") d)) (replicas_part msgs bytes subject size age)

  abbrev age_part : ℕ → ℕ → ℕ → ℕ → Result Limits ApiFault
  age_part msgs bytes subject size = member (codes "max_age") (absent_or 0 whole_of (get (codes "max_age") d)) (λ age. storage_part msgs bytes subject size age)

  abbrev size_part : ℕ → ℕ → ℕ → Result Limits ApiFault
  size_part msgs bytes subject = member (codes "max_msg_size") (absent_or 0 limit_of (get (codes "max_msg_size") d)) (λ size. age_part msgs bytes subject size)

  abbrev subject_part : ℕ → ℕ → Result Limits ApiFault
  subject_part msgs bytes = member (codes "max_msgs_per_subject") (absent_or 0 limit_of (get (codes "max_msgs_per_subject") d)) (λ subject. size_part msgs bytes subject)

  abbrev bytes_part : ℕ → Result Limits ApiFault
  bytes_part msgs = member (codes "max_bytes") (absent_or 0 limit_of (get (codes "max_bytes") d)) (λ bytes. subject_part msgs bytes)

  abbrev msgs_part : Result Limits ApiFault
  msgs_part = member (codes "max_msgs") (absent_or 0 limit_of (get (codes "max_msgs") d)) (λ msgs. bytes_part msgs)

  limits-read : (l : Limits) → limits_in d ≡ Ok l → Pass l
  limits-read l e =
      let a = test-gave (codes "retention") (absent_or_is (is_word (codes "limits")) (get (codes "retention") d)) msgs_part l e in
      let b = member-gave (codes "max_msgs") (absent_or 0 limit_of (get (codes "max_msgs") d)) (λ msgs. bytes_part msgs) l a.1 in
      let c = member-gave (codes "max_bytes") (absent_or 0 limit_of (get (codes "max_bytes") d)) (λ bytes. subject_part b.0 bytes) l b.2 in
      let f = member-gave (codes "max_msgs_per_subject") (absent_or 0 limit_of (get (codes "max_msgs_per_subject") d)) (λ subject. size_part b.0 c.0 subject) l c.2 in
      let g = member-gave (codes "max_msg_size") (absent_or 0 limit_of (get (codes "max_msg_size") d)) (λ size. age_part b.0 c.0 f.0 size) l f.2 in
      let h = member-gave (codes "max_age") (absent_or 0 whole_of (get (codes "max_age") d)) (λ age. storage_part b.0 c.0 f.0 g.0 age) l g.2 in
      let i = test-gave (codes "storage") (absent_or_is (is_word (codes "file")) (get (codes "storage") d)) (replicas_part b.0 c.0 f.0 g.0 h.0) l h.2 in
      let j = test-gave (codes "num_replicas") (absent_or_is is_one_replica (get (codes "num_replicas") d)) (discard_part b.0 c.0 f.0 g.0 h.0) l i.1 in
      let k = member-gave (codes "discard") (absent_or Old discard_of (get (codes "discard") d)) (λ discard. window_part b.0 c.0 f.0 g.0 h.0 discard) l j.1 in
      let w = member-gave (codes "duplicate_window") (window_in h.0 (get (codes "duplicate_window") d)) (λ (window : ℕ). answered (limits_with b.0 c.0 f.0 g.0 h.0 k.0 window)) l k.2 in
      subst Pass (ok-same (limits_with b.0 c.0 f.0 g.0 h.0 k.0 w.0) l w.2) (record {
        msgs = limit-read (get (codes "max_msgs") d) b.0 b.1;
        bytes = limit-read (get (codes "max_bytes") d) c.0 c.1;
        subject = limit-read (get (codes "max_msgs_per_subject") d) f.0 f.1;
        size = limit-read (get (codes "max_msg_size") d) g.0 g.1;
        window = window-read h.0 (get (codes "duplicate_window") d) w.0 w.1;
      })

-- ---- origins

number-fits : (d : Data) (n : ℕ) → number_of d ≡ Some n → n < 2 ^ 63
number-fits d n e =
    let p = option-gave (λ (x : ℕ). cond (nat_lt x (2 ^ 63)) (Some x) None) (whole_of d) n e in
    let q = where-so (nat_lt p.0 (2 ^ 63)) p.0 n p.2 in
    subst (λ x. x < 2 ^ 63) q.1 (ltb-true p.0 (2 ^ 63) q.0)

time-fits : (d : Data) (t : ℕ) → time_of d ≡ Some t → t < 2 ^ 63
time-fits d t e =
    let p = option-gave (λ (x : ℕ). cond (nat_lt x (2 ^ 63)) (Some x) None) (option_and_then moment_of (as_str d)) t e in
    let q = where-so (nat_lt p.0 (2 ^ 63)) p.0 t p.2 in
    subst (λ x. x < 2 ^ 63) q.1 (ltb-true p.0 (2 ^ 63) q.0)

abbrev StartFits : Option ℕ → Type 0
StartFits seq = (n : ℕ) → seq ≡ Some n → n < 2 ^ 63

seq-read : (m : Option Data) (seq : Option ℕ) → maybe number_of m ≡ Some seq → StartFits seq
seq-read None seq e n k = absurd (none-some n (some-same None seq e ∙ k))
seq-read (Some d) seq e n k =
    let p = map-gave (λ (x : ℕ). Some x) (number_of d) seq e in
    number-fits d n (p.1 ∙ (p.2 ∙ k))

start-read : (seq : Option ℕ) (m : Option Data) (start : Start) → StartFits seq → start_in seq m ≡ Some start → start_fault start ≡ None
start-read None None start f e = ap start_fault (sym (some-same (Seq 1) start e))
start-read (Some n) None start f e = ap start_fault (sym (some-same (Seq n) start e)) ∙ none-wrong (is_too_great n) (codes "opt_start_seq") (fits n (f n refl))
start-read None (Some d) start f e =
    let p = map-gave (λ (t : ℕ). Time t) (time_of d) start e in
    ap start_fault (sym p.2) ∙ none-wrong (is_too_great p.0) (codes "opt_start_time") (fits p.0 (time-fits d p.0 p.1))
start-read (Some n) (Some d) start f e = absurd (none-some start e)

abbrev place_with : List ℕ → Start → Place
place_with name start = record { stream = name; start = start }

abbrev start_part : Data → List ℕ → Option ℕ → Result Place ApiFault
start_part d name seq = member (codes "opt_start_time") (start_in seq (get (codes "opt_start_time") d)) (λ start. answered (place_with name start))

place-read : (d : Data) (place : Place) → place_in d ≡ Ok place → start_fault place.start ≡ None
place-read d place e =
    let a = member-gave (codes "name") (option_and_then name_of (get (codes "name") d)) (λ (name : List ℕ). member (codes "opt_start_seq") (maybe number_of (get (codes "opt_start_seq") d)) (λ seq. start_part d name seq)) place e in
    let b = member-gave (codes "opt_start_seq") (maybe number_of (get (codes "opt_start_seq") d)) (λ (seq : Option ℕ). start_part d a.0 seq) place a.2 in
    let c = member-gave (codes "opt_start_time") (start_in b.0 (get (codes "opt_start_time") d)) (λ (start : Start). answered (place_with a.0 start)) place b.2 in
    subst (λ (p : Place). start_fault p.start ≡ None) (ok-same (place_with a.0 c.0) place c.2) (start-read b.0 (get (codes "opt_start_time") d) c.0 (seq-read (get (codes "opt_start_seq") d) b.0 b.1) c.1)

map-read : (d : Data) (m : Mapping) → map_of d ≡ Some m → is_legal_map m ≡ true
map-read d m e =
    let p = option-gave (λ (x : Mapping). cond (is_legal_map x) (Some x) None) (mapping_of d) m e in
    let q = where-so (is_legal_map p.0) p.0 m p.2 in
    ap is_legal_map (sym q.1) ∙ q.0

maps-read : (ds : Items) (ms : List Mapping) → maps_of ds ≡ Some ms → list_all is_legal_map ms ≡ true
maps-read no_items ms e = ap (list_all is_legal_map) (sym (some-same [] ms e))
maps-read (item d ds) ms e =
    let p = option-gave (λ (m : Mapping). option_map (λ (xs : List Mapping). m ∷ xs) (maps_of ds)) (map_of d) ms e in
    let q = map-gave (λ (xs : List Mapping). p.0 ∷ xs) (maps_of ds) ms p.2 in
    ap (list_all is_legal_map) (sym q.2) ∙ rw (map-read d p.0 p.1, maps-read ds q.0 q.1) refl

given-maps : (m : Option Data) (ms : List Mapping) → absent_or [] (λ d. option_and_then maps_of (as_array d)) m ≡ Some ms → list_all is_legal_map ms ≡ true
given-maps None ms e = ap (list_all is_legal_map) (sym (some-same [] ms e))
given-maps (Some d) ms e = let p = option-gave maps_of (as_array d) ms e in maps-read p.0 ms p.2

abbrev are_wrong_maps : Bool → List Mapping → Bool
are_wrong_maps filtered maps = (filtered && nat_lt 0 (length maps)) || nat_lt 16 (length maps) || not (list_all is_legal_map maps)

none-of-three : (a b : Bool) → (a || b) ≡ false → (c : Bool) → c ≡ true → (a || b || not c) ≡ false
none-of-three false false e true k = refl
none-of-three false false e false k = absurd (false≢true k)
none-of-three false true e c k = absurd (true≢false e)
none-of-three true b e c k = absurd (true≢false e)

beside-read : (filtered : Bool) (m : Option Data) (ms : List Mapping) → maps_in filtered m ≡ Some ms → are_wrong_maps filtered ms ≡ false
beside-read filtered m ms e =
    let p = option-gave (maps_beside filtered) (absent_or [] (λ d. option_and_then maps_of (as_array d)) m) ms e in
    let q = where-not ((filtered && nat_lt 0 (length p.0)) || nat_lt 16 (length p.0)) (Some p.0) ms p.2 in
    ap (are_wrong_maps filtered) (sym (some-same p.0 ms q.1)) ∙ none-of-three (filtered && nat_lt 0 (length p.0)) (nat_lt 16 (length p.0)) q.0 (list_all is_legal_map p.0) (given-maps m p.0 p.1)

abbrev choice_with : Option (List ℕ) → List Mapping → Choice
choice_with filter maps = record { filter = filter; maps = maps }

abbrev maps_part : Data → Option (List ℕ) → Result Choice ApiFault
maps_part d filter = member (codes "subject_transforms") (maps_in (is_some filter) (get (codes "subject_transforms") d)) (λ maps. answered (choice_with filter maps))

choice-read : (d : Data) (choice : Choice) → choice_in d ≡ Ok choice → are_wrong_maps (is_some choice.filter) choice.maps ≡ false
choice-read d choice e =
    let a = member-gave (codes "filter_subject") (maybe pattern_of (get (codes "filter_subject") d)) (λ (filter : Option (List ℕ)). maps_part d filter) choice e in
    let b = member-gave (codes "subject_transforms") (maps_in (is_some a.0) (get (codes "subject_transforms") d)) (λ (maps : List Mapping). answered (choice_with a.0 maps)) choice a.2 in
    subst (λ (c : Choice). are_wrong_maps (is_some c.filter) c.maps ≡ false) (ok-same (choice_with a.0 b.0) choice b.2) (beside-read (is_some a.0) (get (codes "subject_transforms") d) b.0 b.1)

both-none : (a b : Option (List ℕ)) → a ≡ None → b ≡ None → either a b ≡ None
both-none a b e k = ap (λ o. either o b) e ∙ k

record Stands (origin : Origin) : Type 0 where
  start : start_fault origin.start ≡ None
  maps : are_wrong_maps (is_some origin.filter) origin.maps ≡ false

abbrev origin_with : Place → Choice → Option (List ℕ) → Origin
origin_with place choice node = record { node = node; stream = place.stream; start = place.start; filter = choice.filter; maps = choice.maps }

abbrev node_part : Data → Place → Choice → Result Origin ApiFault
node_part d place choice = and_then (node_at_last d) (λ node. answered (origin_with place choice node))

origin-read : (holder : List ℕ) (d : Data) (origin : Origin) → origin_of holder d ≡ Ok origin → Stands origin
origin-read holder d origin e =
    let a = member-gave holder (as_object d) (λ ms. origin_from d) origin e in
    let p = first-gave (place_in d) (λ place. and_then (choice_in d) (λ choice. node_part d place choice)) origin a.2 in
    let c = first-gave (choice_in d) (λ choice. node_part d p.0 choice) origin p.2 in
    let n = first-gave (node_at_last d) (λ node. answered (origin_with p.0 c.0 node)) origin c.2 in
    subst Stands (ok-same (origin_with p.0 c.0 n.0) origin n.2) (record { start = place-read d p.0 p.1; maps = choice-read d c.0 c.1 })

source-stands : (origin : Origin) → Stands origin → source_fault origin ≡ None
source-stands origin s = both-none (start_fault origin.start) (wrong_if (checking.has_wrong_maps origin) (codes "subject_transforms")) s.start (none-wrong (checking.has_wrong_maps origin) (codes "subject_transforms") s.maps)

origins-read : (ds : Items) (os : List Origin) → origins_of ds ≡ Ok os → source_faults os ≡ None
origins-read no_items os e = ap source_faults (sym (ok-same [] os e))
origins-read (item d ds) os e =
    let a = first-gave (origin_of (codes "sources") d) (λ origin. and_then (origins_of ds) (λ origins. answered (origin ∷ origins))) os e in
    let b = first-gave (origins_of ds) (λ origins. answered (a.0 ∷ origins)) os a.2 in
    ap source_faults (sym (ok-same (a.0 ∷ b.0) os b.2)) ∙ both-none (source_fault a.0) (source_faults b.0) (source-stands a.0 (origin-read (codes "sources") d a.0 a.1)) (origins-read ds b.0 b.1)

-- ---- copies

-- a mirror with its limits and subjects passes where it was read
mirror-passes : (name : List ℕ) (subjects : List (List ℕ)) (limits : Limits) (origin : Origin) (transform : Option Mapping) → Stands origin → is_wrong_mirror subjects limits origin ≡ false
    → checking.copies_fault (config_with name subjects limits (Mirror origin) transform) (Mirror origin) ≡ None
mirror-passes name [] limits origin transform s w = both-none (start_fault origin.start) (wrong_if (is_wrong_mirror [] limits origin) (codes "mirror")) s.start (none-wrong (is_wrong_mirror [] limits origin) (codes "mirror") w)
mirror-passes name (x ∷ xs) limits origin transform s w = both-none (start_fault origin.start) (wrong_if (is_wrong_mirror (x ∷ xs) limits origin) (codes "mirror")) s.start (none-wrong (is_wrong_mirror (x ∷ xs) limits origin) (codes "mirror") w)

abbrev Passes : List (List ℕ) → Limits → Copies → Type 0
Passes subjects limits copies = (name : List ℕ) (transform : Option Mapping) → checking.copies_fault (config_with name subjects limits copies transform) copies ≡ None

mirror-read : (subjects : List (List ℕ)) (limits : Limits) (d : Data) (copies : Copies) → mirror_of subjects limits d ≡ Ok copies → Passes subjects limits copies
mirror-read subjects limits d copies e =
    let a = first-gave (origin_of (codes "mirror") d) (λ origin. member_is (codes "mirror") (not (is_wrong_mirror subjects limits origin)) (answered (Mirror origin))) copies e in
    let b = test-gave (codes "mirror") (not (is_wrong_mirror subjects limits a.0)) (answered (Mirror a.0)) copies a.2 in
    subst (Passes subjects limits) (ok-same (Mirror a.0) copies b.1) (λ name transform. mirror-passes name subjects limits a.0 transform (origin-read (codes "mirror") d a.0 a.1) (is-false (is_wrong_mirror subjects limits a.0) b.0))

abbrev checked_part : Limits → List Origin → Result Copies ApiFault
checked_part limits origins = member_is (codes "sources") (not (are_wrong_sources limits origins)) (answered (Sources origins))

sources-read : (subjects : List (List ℕ)) (limits : Limits) (d : Data) (copies : Copies) → sources_of limits d ≡ Ok copies → Passes subjects limits copies
sources-read subjects limits d copies e =
    let i = member-gave (codes "sources") (as_array d) (λ ds. and_then (origins_of ds) (λ origins. checked_part limits origins)) copies e in
    let a = first-gave (origins_of i.0) (λ origins. checked_part limits origins) copies i.2 in
    let b = test-gave (codes "sources") (not (are_wrong_sources limits a.0)) (answered (Sources a.0)) copies a.2 in
    subst (Passes subjects limits) (ok-same (Sources a.0) copies b.1) (λ name transform. both-none (source_faults a.0) (wrong_if (are_wrong_sources limits a.0) (codes "sources")) (origins-read i.0 a.0 a.1) (none-wrong (are_wrong_sources limits a.0) (codes "sources") (is-false (are_wrong_sources limits a.0) b.0)))

copies-read : (subjects : List (List ℕ)) (limits : Limits) (m s : Option Data) (copies : Copies) → copies_in subjects limits m s ≡ Ok copies → Passes subjects limits copies
copies-read subjects limits None None copies e = subst (Passes subjects limits) (ok-same Nothing copies e) (λ name transform. refl)
copies-read subjects limits None (Some s) copies e = sources-read subjects limits s copies e
copies-read subjects limits (Some m) None copies e = mirror-read subjects limits m copies e
copies-read subjects limits (Some m) (Some s) copies e = let a = first-gave (mirror_of subjects limits m) (λ c. Err (BadConfig (codes "sources"))) copies e in absurd (err-ok (BadConfig (codes "sources")) copies a.2)

-- ---- the stream's own transform

all-right : (copies : Copies) (m : Mapping) → is_mirror copies ≡ false → (has_short_texts m && are_transform m) ≡ true → is_wrong_transform copies (Some m) ≡ false
all-right copies m e k =
    let p = and_parts (has_short_texts m) (are_transform m) k in
    rw (e, p.0, p.1) refl

transform-in : (copies : Copies) (m : Option Data) (transform : Option Mapping) → transform_in copies m ≡ Some transform → is_wrong_transform copies transform ≡ false
transform-in copies None transform e = ap (is_wrong_transform copies) (sym (some-same None transform e))
transform-in copies (Some d) transform e =
    let a = where-not (is_mirror copies) (option_map (λ (m : Mapping). Some m) (transform_of d)) transform e in
    let b = map-gave (λ (m : Mapping). Some m) (transform_of d) transform a.1 in
    let f = option-gave (λ (m : Mapping). cond (has_short_texts m && are_transform m) (Some m) None) (mapping_of d) b.0 b.1 in
    let g = where-so (has_short_texts f.0 && are_transform f.0) f.0 b.0 f.2 in
    ap (is_wrong_transform copies) (sym b.2) ∙ all-right copies b.0 a.0 (ap (λ (m : Mapping). has_short_texts m && are_transform m) (sym g.1) ∙ g.0)

transform-read : (copies : Copies) (d : Data) (transform : Option Mapping) → transform_at_last copies d ≡ Ok transform → is_wrong_transform copies transform ≡ false
transform-read copies d transform e =
    let a = member-gave (codes "subject_transform") (transform_in copies (get (codes "subject_transform") d)) (λ (t : Option Mapping). no_wrong (rest_fault d) (answered t)) transform e in
    let b = rest-gave (rest_fault d) (Ok a.0) transform a.2 in
    subst (λ t. is_wrong_transform copies t ≡ false) (ok-same a.0 transform b) (transform-in copies (get (codes "subject_transform") d) a.0 a.1)

-- ---- the whole

whole-passes : (name : List ℕ) (subjects : List (List ℕ)) (limits : Limits) (copies : Copies) (transform : Option Mapping) → is_name name ≡ true → are_wrong_subjects subjects ≡ false → Pass limits → Passes subjects limits copies
    → is_wrong_transform copies transform ≡ false → config_fault (config_with name subjects limits copies transform) ≡ None
whole-passes name subjects limits copies transform n s l c t =
    both-none _ _ (none-wrong (are_wrong_in copies (subjects_or_name name copies subjects)) (codes "subjects") (subjects-pass name copies subjects n s))
    (both-none _ _ (both-none _ _ (none-wrong (is_too_great limits.max_msgs) (codes "max_msgs") l.msgs)
    (both-none _ _ (none-wrong (is_too_great limits.max_bytes) (codes "max_bytes") l.bytes)
    (both-none _ _ (none-wrong (is_too_great limits.max_per_subject) (codes "max_msgs_per_subject") l.subject) (none-wrong (is_too_great limits.max_msg_size) (codes "max_msg_size") l.size))))
    (both-none _ _ (none-wrong (is_wrong_window limits.max_age limits.window) (codes "duplicate_window") l.window)
    (both-none _ _ (c name transform) (none-wrong (is_wrong_transform copies transform) (codes "subject_transform") t))))

abbrev transform_part : Data → List ℕ → List (List ℕ) → Limits → Copies → Result Config ApiFault
transform_part d name subjects limits copies = and_then (transform_at_last copies d) (λ transform. answered (config_with name subjects limits copies transform))

abbrev copies_part : Data → List ℕ → List (List ℕ) → Limits → Result Config ApiFault
copies_part d name subjects limits = and_then (copies_in subjects limits (get (codes "mirror") d) (get (codes "sources") d)) (λ copies. transform_part d name subjects limits copies)

abbrev limits_part : Data → List ℕ → List (List ℕ) → Result Config ApiFault
limits_part d name subjects = and_then (limits_in d) (λ limits. copies_part d name subjects limits)

config-read : (d : Data) (c : Config) → config_from d ≡ Ok c → config_fault c ≡ None
config-read d c e =
    let n = member-gave (codes "name") (option_and_then name_of (get (codes "name") d)) (λ (name : List ℕ). member (codes "subjects") (absent_or [] subjects_of (get (codes "subjects") d)) (λ subjects. limits_part d name subjects)) c e in
    let s = member-gave (codes "subjects") (absent_or [] subjects_of (get (codes "subjects") d)) (λ (subjects : List (List ℕ)). limits_part d n.0 subjects) c n.2 in
    let l = first-gave (limits_in d) (λ limits. copies_part d n.0 s.0 limits) c s.2 in
    let k = first-gave (copies_in s.0 l.0 (get (codes "mirror") d) (get (codes "sources") d)) (λ copies. transform_part d n.0 s.0 l.0 copies) c l.2 in
    let t = first-gave (transform_at_last k.0 d) (λ (transform : Option Mapping). answered (config_with n.0 s.0 l.0 k.0 transform)) c k.2 in
    subst (λ (x : Config). config_fault x ≡ None) (ok-same (config_with n.0 s.0 l.0 k.0 t.0) c t.2)
    (whole-passes n.0 s.0 l.0 k.0 t.0 (name-read (get (codes "name") d) n.0 n.1) (subjects-read (get (codes "subjects") d) s.0 s.1) (limits-read d l.0 l.1)
    (copies-read s.0 l.0 (get (codes "mirror") d) (get (codes "sources") d) k.0 k.1) (transform-read k.0 d t.0 t.1))

data-read : (o : Option Data) (c : Config) → config_if o ≡ Ok c → config_fault c ≡ None
data-read None c e = absurd (err-ok BadRequest c e)
data-read (Some d) c e = by (is_some (as_object d)) e where
  by : (b : Bool) → cond b (config_from d) (Err BadRequest) ≡ Ok c → config_fault c ≡ None
  by true h = config-read d c h
  by false h = absurd (err-ok BadRequest c h)

pub reads_passed : ReadsArePassed
reads_passed text c e = data-read (data_of text) c e
