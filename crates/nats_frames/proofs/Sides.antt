-- What a side may send is written in lines whose fields are fields.
use Rattle.std.proofs.Common.{◌≡◌, ℕ, ◌<◌, ◌==◌, List, [], ◌∷◌, length, Bool, true, false, ◌&&◌, not, cond, nat_lt, Option, None, Some, refl, sym, ap, ◌∙◌, arith}
use Rattle.std.specs.Prelude.{nat_le}
use Rattle.std.specs.List.{list_all}
use Rattle.std.specs.Option.{option_map_or}
use Rattle.std.specs.Str.{bytes_eq, is_utf8}
use Rattle.std.proofs.lemmas.Bool.{false≢true, and_parts, and_from, ltb-true, lt-ltb, eqb-true}
use Rattle.std.proofs.lemmas.Bool.Decides.{nat_tests}
use Rattle.std.proofs.lemmas.Str.{is_utf8-from_IsUtf8}
use Rattle.nats_text.specs.Pieces.{pieces, onto_first}
use Rattle.nats_text.specs.Text.{tokens, is_subject_byte, is_token, star, tail, is_literal_token, is_subject, are_pattern_tokens, is_pattern}
use Rattle.nats_frames.specs.declared.frame.Side.{Side}
use Rattle.nats_frames.specs.declared.frame.ServerInfo.{ServerInfo}
use Rattle.nats_frames.specs.declared.frame.ClientFrame.{ClientFrame}
use Rattle.nats_frames.specs.declared.frame.ClientFrame.TheVariants.{Connect, Info, Pub, HPub, Sub, Unsub, Msg, HMsg, Ping, Pong, Okay, Fault, BadSubject}
use Rattle.nats_text.specs.declared.message.Parcel.{Parcel}
use Rattle.nats_frames.specs.Fields.{is_short}
use Rattle.nats_frames.specs.Texts.{HasTexts}
use Rattle.nats_frames.specs.Kinds.{is_plain_byte, is_label, is_queue, IsCount, IsServer, IsParcel, IsOf}
use Rattle.nats_frames.specs.Laws.{ReadsEachText}
use Rattle.nats_frames.proofs.Parts.{is_field_byte, is_field}
use Rattle.nats_frames.proofs.Readable.{GoodAddress, GoodShort, GoodQueue, GoodCount, GoodServer, Good}
use Rattle.nats_frames.proofs.Again.{ReadsAgain}
use Rattle.nats_frames.proofs.Written.{good_again}

-- ---- subjects and patterns have no blanks

above_space : (b : ℕ) → 32 < b → is_field_byte b ≡ true
above_space b low = grind (arith, nat_tests)

byte_field : (b : ℕ) → is_subject_byte b ≡ true → is_field_byte b ≡ true
byte_field b h = above_space b (ltb-true 32 b (and_parts (nat_lt 32 b) (not (b == 127)) h).0)

dot_field : (b : ℕ) → (b == 46) ≡ true → is_field_byte b ≡ true
dot_field b h = let low : 32 < b = omega (arith, eqb-true b 46 h) in above_space b low

-- each byte of each part is one of a subject
abbrev AreSubjectParts : List (List ℕ) → Type 0
AreSubjectParts ps = list_all (λ p. list_all is_subject_byte p) ps ≡ true

first_part : (b : ℕ) (ps : List (List ℕ)) → AreSubjectParts (onto_first b ps) → (is_subject_byte b ≡ true) × AreSubjectParts ps
first_part b [] h = ((and_parts (is_subject_byte b) true (and_parts (list_all is_subject_byte (b ∷ [])) true h).0).0, refl)
first_part b (p ∷ ps) h =
    let q = and_parts (list_all is_subject_byte (b ∷ p)) (list_all (λ x. list_all is_subject_byte x) ps) h in
    let r = and_parts (is_subject_byte b) (list_all is_subject_byte p) q.0 in
    (r.0, and_from (list_all is_subject_byte p) (list_all (λ x. list_all is_subject_byte x) ps) r.1 q.1)

bytes_field : (s : List ℕ) → AreSubjectParts (pieces 46 s) → list_all is_field_byte s ≡ true
bytes_field [] h = refl
bytes_field (b ∷ bs) h =
    let P : Bool → Type 0 = λ t. (b == 46) ≡ t → AreSubjectParts (cond t ([] ∷ pieces 46 bs) (onto_first b (pieces 46 bs))) → list_all is_field_byte (b ∷ bs) ≡ true in
    let go : (t : Bool) → P t = λ t. elim t as P [
      | true ↦ (λ e parts. and_from (is_field_byte b) (list_all is_field_byte bs) (dot_field b e) (bytes_field bs parts))
      | false ↦ (λ e parts. let q = first_part b (pieces 46 bs) parts in and_from (is_field_byte b) (list_all is_field_byte bs) (byte_field b q.0) (bytes_field bs q.1))
    ] in
    go (b == 46) refl h

token_parts : (t : List ℕ) → is_token t ≡ true → list_all is_subject_byte t ≡ true
token_parts t h = (and_parts (nat_lt 0 (length t)) (list_all is_subject_byte t) h).1

literals_are : (ts : List (List ℕ)) → list_all is_literal_token ts ≡ true → AreSubjectParts ts
literals_are [] h = refl
literals_are (t ∷ ts) h =
    let p = and_parts (is_literal_token t) (list_all is_literal_token ts) h in
    let q = and_parts (is_token t && not (bytes_eq t star)) (not (bytes_eq t tail)) p.0 in
    let r = and_parts (is_token t) (not (bytes_eq t star)) q.0 in
    and_from (list_all is_subject_byte t) (list_all (λ x. list_all is_subject_byte x) ts) (token_parts t r.0) (literals_are ts p.1)

patterns_are : (ts : List (List ℕ)) → are_pattern_tokens ts ≡ true → AreSubjectParts ts
patterns_are [] h = refl
patterns_are (t ∷ []) h = and_from (list_all is_subject_byte t) true (token_parts t h) refl
patterns_are (t ∷ u ∷ ts) h =
    let p = and_parts (is_token t && not (bytes_eq t tail)) (are_pattern_tokens (u ∷ ts)) h in
    let q = and_parts (is_token t) (not (bytes_eq t tail)) p.0 in
    and_from (list_all is_subject_byte t) (list_all (λ x. list_all is_subject_byte x) (u ∷ ts)) (token_parts t q.0) (patterns_are (u ∷ ts) p.1)

-- a text that isn't empty, and whose bytes are those of fields
filled_field : (s : List ℕ) → (s ≡ [] → ⊥) → list_all is_field_byte s ≡ true → is_field s ≡ true
filled_field [] some h = absurd (some refl)
filled_field (b ∷ bs) some h = and_from (nat_lt 0 (length (b ∷ bs))) (list_all is_field_byte (b ∷ bs)) (lt-ltb 0 (length (b ∷ bs)) (omega arith)) h

no_literal : (s : List ℕ) → list_all is_literal_token (tokens s) ≡ true → s ≡ [] → ⊥
no_literal s h e = false≢true (ap (λ x. list_all is_literal_token (tokens x)) (sym e) ∙ h)

no_pattern : (s : List ℕ) → are_pattern_tokens (tokens s) ≡ true → s ≡ [] → ⊥
no_pattern s h e = false≢true (ap (λ x. are_pattern_tokens (tokens x)) (sym e) ∙ h)

pub subject_field : (s : List ℕ) → is_subject s ≡ true → is_field s ≡ true
subject_field s h =
    let p = and_parts (nat_le (length s) 1024 && is_utf8 s) (list_all is_literal_token (tokens s)) h in
    filled_field s (no_literal s p.1) (bytes_field s (literals_are (tokens s) p.1))

pub pattern_field : (s : List ℕ) → is_pattern s ≡ true → is_field s ≡ true
pattern_field s h =
    let p = and_parts (nat_le (length s) 1024 && is_utf8 s) (are_pattern_tokens (tokens s)) h in
    filled_field s (no_pattern s p.1) (bytes_field s (patterns_are (tokens s) p.1))

-- ---- frames

pub reply_field : (reply : Option (List ℕ)) → option_map_or is_subject reply true ≡ true → option_map_or is_field reply true ≡ true
reply_field None h = refl
reply_field (Some reply) h = subject_field reply h

address : (p : Parcel) → IsParcel p → GoodAddress p.subject p.reply
address p h = record {
  address = and_from (is_subject p.subject) (option_map_or is_subject p.reply true) h.subject h.reply;
  subject_field = subject_field p.subject h.subject;
  reply_field = reply_field p.reply h.reply;
}

label : (field : List ℕ) → is_label field ≡ true → GoodShort field
label field h =
    let p = and_parts (nat_lt 0 (length field) && list_all is_plain_byte field) (is_short field) h in
    record { short = p.1; field_is = p.0 }

queue_is : (queue : Option (List ℕ)) → is_queue queue ≡ true → GoodQueue queue
queue_is None h = tt
queue_is (Some queue) h = label queue h

count_is : (max : Option ℕ) → IsCount max → GoodCount max
count_is None h = tt
count_is (Some max) h = h

server : (info : ServerInfo) → IsServer info → HasTexts (Info info) → GoodServer info
server info h texts = record {
  id = h.server_id;
  name = h.server_name;
  version = is_utf8-from_IsUtf8 info.version texts.0;
  go = is_utf8-from_IsUtf8 info.go texts.1;
  host = is_utf8-from_IsUtf8 info.host texts.2;
  port = h.port;
  max_payload = h.max_payload;
  proto = h.proto;
}

kind_good : (side : Side) (frame : ClientFrame) → IsOf side frame → Good side frame
kind_good side (Connect v h n e) k = k
kind_good side (Info info) k = (k.0, server info k.1 k.2)
kind_good side (Pub p) k = (k.0, address p k.1, k.2)
kind_good side (HPub p) k = (k.0, address p k.1, k.1.headers)
kind_good side (Sub pattern queue sid) k = (k.0, k.1, pattern_field pattern k.1, queue_is queue k.2, label sid k.3)
kind_good side (Unsub sid max) k = (k.0, label sid k.1, count_is max k.2)
kind_good side (Msg sid p) k = (k.0, label sid k.1, address p k.2, k.3)
kind_good side (HMsg sid p) k = (k.0, label sid k.1, address p k.2, k.2.headers)
kind_good side Ping k = tt
kind_good side Pong k = tt
kind_good side Okay k = k
kind_good side (Fault t) k = k
kind_good side BadSubject k = k

pub reads_each_text : ReadsAgain → ReadsEachText
reads_each_text reads side frame k within = good_again side frame reads (kind_good side frame k) within
