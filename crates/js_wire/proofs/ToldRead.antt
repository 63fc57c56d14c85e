-- The messages of packets with JSON tell of these packets.
use Rattle.std.proofs.Common.{◌≡◌, ℕ, ◌^◌, ◌<◌, ◌≤◌, List, [], ◌∷◌, length, true, ◌&&◌, cond, nat_lt, None, Some, refl, ap, ◌∙◌, arith, IsUtf8}
use Rattle.std.specs.Prelude.{decimal, codes, option_and_then, option_map, nat_le}
use Rattle.std.specs.List.{list_all}
use Rattle.std.specs.Str.{is_utf8}
use Rattle.std.proofs.lemmas.Bool.{and_parts, lt-ltb}
use Rattle.std.proofs.lemmas.Str.{IsUtf8-from_is_utf8, is_utf8-from_IsUtf8}
use Rattle.json.proofs.Printed.Utf8.{IsUtf8-are_ascii}
use Rattle.serde_json.specs.Data.{Data, string, item, depth, items_depth}
use Rattle.serde_json.specs.Read.{read, of_json, of_items, max_depth}
use Rattle.serde_json.specs.Written.{outline, items_outline, compact_text}
use Rattle.serde_json.proofs.Numbers.{number_of-decimal}
use Rattle.nats_text.specs.Pieces.{pieces}
use Rattle.nats_text.specs.Text.{is_name, is_pattern, tokens, are_pattern_tokens}
use Rattle.nats_text.specs.declared.message.Stamp.{Stamp}
use Rattle.nats_text.specs.declared.message.Start.{Start}
use Rattle.nats_text.specs.declared.message.Start.TheVariants.{Seq, Time}
use Rattle.js_wire.specs.declared.packet.AskerId.{AskerId}
use Rattle.js_wire.specs.declared.packet.Packet.TheVariants.{Ask, Answer, Refuse}
use Rattle.js_wire.specs.declared.words.Attempt.{Attempt}
use Rattle.js_wire.specs.declared.words.Create.{Create}
use Rattle.js_wire.specs.Legal.{IsPacket, IsStamp, IsAsker, IsStart}
use Rattle.js_wire.specs.Messages.{message_of}
use Rattle.js_wire.specs.Payloads.{answer_data, refusal_data, ask_data, texts, policy, behind_filters, filter_member}
use Rattle.js_wire.specs.Reading.{attempt_of, create_of, name_of}
use Rattle.js_wire.specs.Told.{data_of, pattern_told, patterns_told, ask_told, reply_told, tell_reply, tell_ask}
use Rattle.js_wire.specs.Words.{dotted, consumer_name, answers, deliveries, attempt_subject, create_words}
use Rattle.js_wire.proofs.Bytes.{name_parts, name_utf8, consumer_is_name}
use Rattle.js_wire.proofs.Dotted.{dotted_pieces, dotted_utf8}
use Rattle.js_wire.proofs.Json.{Plain, PlainItems, PlainMembers, reads_again, text_utf8}
use Rattle.js_wire.proofs.Legality.{attempt_names, create_names}
use Rattle.js_wire.proofs.PlainRead.{attempt_pieces}
use Rattle.js_wire.proofs.Readings.{attempt_read, consumer_read, name_read}
use Rattle.js_wire.proofs.Clock.{moment_read, moment_utf8}

data_told : (d : Data) → Plain d → of_json (outline d) ≡ Some d → depth d ≤ max_depth → data_of (compact_text d) ≡ Some d
data_told d p o h =
    let u : is_utf8 (compact_text d) ≡ true = is_utf8-from_IsUtf8 (compact_text d) (text_utf8 d p) in
    ap (λ b. cond b (read (compact_text d)) None) u ∙ reads_again d p o h

answers_read : (asker : AskerId) (attempt : Stamp) → IsAsker asker → IsStamp attempt → attempt_of answers (pieces 46 (attempt_subject asker attempt answers)) ≡ Some (record { asker = asker; attempt = attempt })
answers_read asker attempt a s = ap (attempt_of answers) (attempt_pieces asker attempt answers a s refl) ∙ attempt_read asker attempt answers a s

name_text : (w : List ℕ) → is_name w ≡ true → IsUtf8 w
name_text w h = name_utf8 w (name_parts w h).all

-- ---- answers

answer_plain : (c : Stamp) (i s : ℕ) → IsStamp c → i < 2 ^ 64 → s < 2 ^ 64 → Plain (answer_data c i s)
answer_plain c i s k a b = (
  IsUtf8-are_ascii (codes "incarnation") refl,
  a,
  (
    IsUtf8-are_ascii (codes "name") refl,
    name_text (consumer_name c) (consumer_is_name c k.boot k.count),
    (
      IsUtf8-are_ascii (codes "start") refl,
      b,
      (
        IsUtf8-are_ascii (codes "type") refl,
        IsUtf8-are_ascii (codes "io.nats.jetstream.api.v1.consumer_create_response") refl,
        tt,
      ),
    ),
  ),
)

answer_ordered : (c : Stamp) (i s : ℕ) → i < 2 ^ 64 → s < 2 ^ 64 → of_json (outline (answer_data c i s)) ≡ Some (answer_data c i s)
answer_ordered c i s a b = rw (number_of-decimal i a, number_of-decimal s b) refl

answer_told_is : (a : Attempt) (c : Stamp) (i s : ℕ) → IsStamp c → reply_told a (answer_data c i s) ≡ Some (Answer a.asker a.attempt c i s)
answer_told_is a c i s k = ap (option_and_then (λ (x : Stamp). option_map (λ (n : ℕ). Answer a.asker a.attempt x i n) (Some s))) (consumer_read c k)

pub answer_read : (asker : AskerId) (attempt consumer : Stamp) (incarnation start : ℕ) → IsPacket (Answer asker attempt consumer incarnation start)
    → tell_reply (message_of (Answer asker attempt consumer incarnation start)) ≡ Some (Answer asker attempt consumer incarnation start)
answer_read asker attempt c i s h =
    let a : Attempt = record { asker = asker; attempt = attempt } in
    let d = answer_data c i s in
    ap (option_and_then (λ (x : Attempt). option_and_then (reply_told x) (data_of (compact_text d)))) (answers_read asker attempt h.0.0 h.0.1)
    ∙ (ap (option_and_then (reply_told a)) (data_told d (answer_plain c i s h.1 h.2 h.3) (answer_ordered c i s h.2 h.3) (omega arith))
    ∙ answer_told_is a c i s h.1)

-- ---- refusals

refusal_plain : (c e : ℕ) → c < 2 ^ 64 → e < 2 ^ 64 → Plain (refusal_data c e)
refusal_plain c e a b = (
  IsUtf8-are_ascii (codes "error") refl,
  (IsUtf8-are_ascii (codes "code") refl, a, (IsUtf8-are_ascii (codes "err_code") refl, b, tt)),
  (
    IsUtf8-are_ascii (codes "type") refl,
    IsUtf8-are_ascii (codes "io.nats.jetstream.api.v1.consumer_create_response") refl,
    tt,
  ),
)

refusal_ordered : (c e : ℕ) → c < 2 ^ 64 → e < 2 ^ 64 → of_json (outline (refusal_data c e)) ≡ Some (refusal_data c e)
refusal_ordered c e a b = rw (number_of-decimal c a, number_of-decimal e b) refl

refusal_told_is : (a : Attempt) (c e : ℕ) → c < 2 ^ 32 → e < 2 ^ 32 → reply_told a (refusal_data c e) ≡ Some (Refuse a.asker a.attempt c e)
refusal_told_is a c e x y =
    let p : nat_lt c (2 ^ 32) ≡ true = lt-ltb c (2 ^ 32) x in
    let q : nat_lt e (2 ^ 32) ≡ true = lt-ltb e (2 ^ 32) y in
    rw (p, q) refl

pub refusal_read : (asker : AskerId) (attempt : Stamp) (code err_code : ℕ) → IsPacket (Refuse asker attempt code err_code)
    → tell_reply (message_of (Refuse asker attempt code err_code)) ≡ Some (Refuse asker attempt code err_code)
refusal_read asker attempt c e h =
    let a : Attempt = record { asker = asker; attempt = attempt } in
    let d = refusal_data c e in
    let x : c < 2 ^ 64 = omega (arith, h.1) in
    let y : e < 2 ^ 64 = omega (arith, h.2) in
    ap (option_and_then (λ (x : Attempt). option_and_then (reply_told x) (data_of (compact_text d)))) (answers_read asker attempt h.0.0 h.0.1)
    ∙ (ap (option_and_then (reply_told a)) (data_told d (refusal_plain c e x y) (refusal_ordered c e x y) (omega arith))
    ∙ refusal_told_is a c e h.1 h.2)

-- ---- requests

pattern_utf8 : (t : List ℕ) → is_pattern t ≡ true → IsUtf8 t
pattern_utf8 t h =
    let p = and_parts (nat_le (length t) 1024 && is_utf8 t) (are_pattern_tokens (tokens t)) h in
    IsUtf8-from_is_utf8 t (and_parts (nat_le (length t) 1024) (is_utf8 t) p.0).1

texts_plain : (fs : List (List ℕ)) → list_all is_pattern fs ≡ true → PlainItems (texts fs)
texts_plain [] h = tt
texts_plain (f ∷ fs) h = let p = and_parts (is_pattern f) (list_all is_pattern fs) h in (pattern_utf8 f p.0, texts_plain fs p.1)

behind_plain : (start : Start) → IsStart start → PlainMembers (behind_filters start)
behind_plain (Seq n) h = (IsUtf8-are_ascii (codes "flow_control") refl, tt, (IsUtf8-are_ascii (codes "idle_heartbeat") refl, omega arith, (IsUtf8-are_ascii (codes "opt_start_seq") refl, h, tt)))
behind_plain (Time t) h = (IsUtf8-are_ascii (codes "flow_control") refl, tt, (IsUtf8-are_ascii (codes "idle_heartbeat") refl, omega arith, (IsUtf8-are_ascii (codes "opt_start_time") refl, moment_utf8 t h, tt)))

filters_plain : (start : Start) (fs : List (List ℕ)) → IsStart start → list_all is_pattern fs ≡ true → PlainMembers (filter_member fs (behind_filters start))
filters_plain start [] h k = behind_plain start h
filters_plain start (f ∷ fs) h k = (IsUtf8-are_ascii (codes "filter_subjects") refl, texts_plain (f ∷ fs) k, behind_plain start h)

policy_text : (start : Start) → IsUtf8 (policy start)
policy_text (Seq n) = IsUtf8-are_ascii (codes "by_start_sequence") refl
policy_text (Time t) = IsUtf8-are_ascii (codes "by_start_time") refl

ask_plain : (subject stream : List ℕ) (start : Start) (fs : List (List ℕ)) → IsUtf8 subject → IsUtf8 stream → IsStart start → list_all is_pattern fs ≡ true → Plain (ask_data subject stream start fs)
ask_plain subject stream start fs u v h k = (
  IsUtf8-are_ascii (codes "config") refl,
  (
    IsUtf8-are_ascii (codes "ack_policy") refl,
    IsUtf8-are_ascii (codes "none") refl,
    (
      IsUtf8-are_ascii (codes "deliver_policy") refl,
      policy_text start,
      (
        IsUtf8-are_ascii (codes "deliver_subject") refl,
        u,
        filters_plain start fs h k,
      ),
    ),
  ),
  (IsUtf8-are_ascii (codes "stream_name") refl, v, tt),
)

texts_ordered : (fs : List (List ℕ)) → of_items (items_outline (texts fs)) ≡ Some (texts fs)
texts_ordered [] = refl
texts_ordered (f ∷ fs) = ap (option_map (item (string f))) (texts_ordered fs)

ask_ordered : (subject stream : List ℕ) (start : Start) (fs : List (List ℕ)) → IsStart start → of_json (outline (ask_data subject stream start fs)) ≡ Some (ask_data subject stream start fs)
ask_ordered subject stream (Seq n) [] h = rw (number_of-decimal 5_000_000_000 (omega arith), number_of-decimal n h) refl
ask_ordered subject stream (Time t) [] h = rw (number_of-decimal 5_000_000_000 (omega arith)) refl
ask_ordered subject stream (Seq n) (f ∷ fs) h = rw (texts_ordered fs, number_of-decimal 5_000_000_000 (omega arith), number_of-decimal n h) refl
ask_ordered subject stream (Time t) (f ∷ fs) h = rw (texts_ordered fs, number_of-decimal 5_000_000_000 (omega arith)) refl

texts_shallow : (fs : List (List ℕ)) → items_depth (texts fs) ≤ 0
texts_shallow [] = omega arith
texts_shallow (f ∷ fs) = omega (arith, texts_shallow fs)

ask_shallow : (subject stream : List ℕ) (start : Start) (fs : List (List ℕ)) → depth (ask_data subject stream start fs) ≤ max_depth
ask_shallow subject stream (Seq n) [] = omega arith
ask_shallow subject stream (Time t) [] = omega arith
ask_shallow subject stream (Seq n) (f ∷ fs) = omega (arith, texts_shallow fs)
ask_shallow subject stream (Time t) (f ∷ fs) = omega (arith, texts_shallow fs)

pattern_read : (f : List ℕ) → is_pattern f ≡ true → pattern_told (string f) ≡ Some f
pattern_read f h = ap (λ b. cond b (Some f) None) h

patterns_read : (fs : List (List ℕ)) → list_all is_pattern fs ≡ true → patterns_told (texts fs) ≡ Some fs
patterns_read [] h = refl
patterns_read (f ∷ fs) h =
    let p = and_parts (is_pattern f) (list_all is_pattern fs) h in
    ap (option_and_then (λ (x : List ℕ). option_map (λ (xs : List (List ℕ)). x ∷ xs) (patterns_told (texts fs)))) (pattern_read f p.0)
    ∙ ap (option_map (λ (xs : List (List ℕ)). f ∷ xs)) (patterns_read fs p.1)

ask_told_is : (a : Attempt) (c : Create) (subject stream : List ℕ) (start : Start) (fs : List (List ℕ)) → IsStart start → list_all is_pattern fs ≡ true
    → ask_told a c (ask_data subject stream start fs) ≡ Some (Ask a.asker a.attempt c.origin c.stream start fs)
ask_told_is a c subject stream (Seq n) [] h k = refl
ask_told_is a c subject stream (Time t) [] h k = ap (λ o. option_and_then (λ (s : Start). option_map (λ (xs : List (List ℕ)). Ask a.asker a.attempt c.origin c.stream s xs) (Some [])) (option_map (λ (n : ℕ). Time n) o)) (moment_read t h)
ask_told_is a c subject stream (Seq n) (f ∷ fs) h k = ap (option_map (λ (xs : List (List ℕ)). Ask a.asker a.attempt c.origin c.stream (Seq n) xs)) (patterns_read (f ∷ fs) k)
ask_told_is a c subject stream (Time t) (f ∷ fs) h k =
    ap (λ o. option_and_then (λ (s : Start). option_map (λ (xs : List (List ℕ)). Ask a.asker a.attempt c.origin c.stream s xs) (patterns_told (texts (f ∷ fs)))) (option_map (λ (n : ℕ). Time n) o)) (moment_read t h)
    ∙ ap (option_map (λ (xs : List (List ℕ)). Ask a.asker a.attempt c.origin c.stream (Time t) xs)) (patterns_read (f ∷ fs) k)

create_read : (origin stream : List ℕ) → is_name origin ≡ true → is_name stream ≡ true → create_of (pieces 46 (dotted (create_words origin stream))) ≡ Some (record { origin = origin; stream = stream })
create_read origin stream o s =
    ap create_of (dotted_pieces (codes "$JS") (origin ∷ codes "API" ∷ codes "CONSUMER" ∷ codes "CREATE" ∷ stream ∷ []) (create_names origin stream o s))
    ∙ (ap (option_and_then (λ (x : List ℕ). option_map (λ (y : List ℕ). record { origin = x; stream = y }) (name_of stream))) (name_read origin o)
    ∙ ap (option_map (λ (y : List ℕ). record { origin = origin; stream = y })) (name_read stream s))

subject_text : (asker : AskerId) (attempt : Stamp) → IsAsker asker → IsStamp attempt → IsUtf8 (attempt_subject asker attempt deliveries)
subject_text asker attempt a s =
    let wide : asker.index < 2 ^ 64 = omega (arith, a.index) in
    dotted_utf8 (codes "$JS") (codes "M" ∷ asker.node ∷ asker.stream ∷ decimal asker.index ∷ decimal attempt.boot ∷ decimal attempt.count ∷ deliveries ∷ [])
    (attempt_names asker attempt deliveries a.node a.stream wide s.boot s.count refl)

pub ask_read : (asker : AskerId) (attempt : Stamp) (origin stream : List ℕ) (start : Start) (filters : List (List ℕ)) → IsPacket (Ask asker attempt origin stream start filters)
    → tell_ask (message_of (Ask asker attempt origin stream start filters)) (attempt_subject asker attempt answers) ≡ Some (Ask asker attempt origin stream start filters)
ask_read asker attempt origin stream start fs h =
    let a : Attempt = record { asker = asker; attempt = attempt } in
    let c : Create = record { origin = origin; stream = stream } in
    let subject = attempt_subject asker attempt deliveries in
    let d = ask_data subject stream start fs in
    let told = data_told d (ask_plain subject stream start fs (subject_text asker attempt h.0.0 h.0.1) (name_text stream h.2) h.3 h.4) (ask_ordered subject stream start fs h.3) (ask_shallow subject stream start fs) in
    ap (option_and_then (λ (x : Attempt). option_and_then (λ (y : Create). option_and_then (ask_told x y) (data_of (compact_text d))) (create_of (pieces 46 (dotted (create_words origin stream)))))) (answers_read asker attempt h.0.0 h.0.1)
    ∙ (ap (option_and_then (λ (y : Create). option_and_then (ask_told a y) (data_of (compact_text d)))) (create_read origin stream h.1 h.2)
    ∙ (ap (option_and_then (ask_told a c)) told
    ∙ ask_told_is a c subject stream start fs h.3 h.4))
