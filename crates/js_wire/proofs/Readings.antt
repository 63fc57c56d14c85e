-- What words say, and the words that say it.
use Rattle.std.proofs.Common.{◌≡◌, ℕ, ◌^◌, ◌<◌, List, [], ◌∷◌, ◌++◌, Bool, true, false, ◌&&◌, not, ◌==◌, cond, nat_lt, Option, None, Some, refl, sym, ap, ◌∙◌, arith}
use Rattle.std.specs.Prelude.{decimal, codes, option_and_then, option_map}
use Rattle.std.specs.List.{list_all, join_with_byte}
use Rattle.std.specs.Str.{bytes_eq}
use Rattle.std.specs.Str.Parse.{AllDigits}
use Rattle.std.proofs.lemmas.Bool.{and_parts, and_from, eqb-true, ne_eqb, lt-ltb}
use Rattle.std.proofs.lemmas.Fmt.{decimal_is_IsNumeral}
use Rattle.std.proofs.lemmas.Option.{none-some, same_Some}
use Rattle.std.proofs.lemmas.Str.Parse.{digit_from_value}
use Rattle.nats_text.specs.Pieces.{pieces}
use Rattle.nats_text.specs.Text.{is_name}
use Rattle.nats_text.specs.declared.message.Stamp.{Stamp}
use Rattle.js_wire.specs.declared.packet.AskerId.{AskerId}
use Rattle.js_wire.specs.declared.words.Attempt.{Attempt}
use Rattle.js_wire.specs.declared.words.Beater.{Beater}
use Rattle.js_wire.specs.declared.words.Flow.{Flow}
use Rattle.js_wire.specs.declared.words.Receipt.{Receipt}
use Rattle.js_wire.specs.Legal.{IsStamp, IsAsker}
use Rattle.js_wire.specs.Reading.{numeral, small_numeral, name_of, stamp_from, stamp_of, consumer_of, attempt_from, attempt_behind, attempt_of, flow_from, flow_of, receipt_from, receipt_behind, receipt_of, beater_of}
use Rattle.js_wire.specs.Words.{consumer_name, attempt_words, flow_words, delivery_words}
use Rattle.js_wire.proofs.Bytes.{not_false}
use Rattle.js_wire.proofs.Numerals.{same_bytes, equal_bytes, chosen, numeral_decimal, numeral_is}
use Rattle.js_wire.proofs.Pieces.{free_of, pieces_join, join_pieces}

-- ---- options

pub record Gave {A B : Type 0} (f : A → Option B) (o : Option A) (y : B) : Type 0 where
  pub inner : A
  pub was : o ≡ Some inner
  pub gives : f inner ≡ Some y

pub gave : {A B : Type 0} (f : A → Option B) (o : Option A) (y : B) → option_and_then f o ≡ Some y → Gave f o y
gave f None y h = absurd (none-some y h)
gave f (Some x) y h = record { inner = x; was = refl; gives = h }

pub record Mapped {A B : Type 0} (f : A → B) (o : Option A) (y : B) : Type 0 where
  pub inner : A
  pub was : o ≡ Some inner
  pub gives : f inner ≡ y

pub mapped : {A B : Type 0} (f : A → B) (o : Option A) (y : B) → option_map f o ≡ Some y → Mapped f o y
mapped f None y h = absurd (none-some y h)
mapped f (Some x) y h = record { inner = x; was = refl; gives = same_Some (f x) y h }

-- where a test leads to something, it holds
pub tested : {A : Type 0} (b : Bool) (o : Option A) (y : A) → cond b o None ≡ Some y → (b ≡ true) × (o ≡ Some y)
tested true o y h = (refl, h)
tested false o y h = absurd (none-some y h)

-- ---- what was read is what is written

small_is : (t : List ℕ) (n : ℕ) → small_numeral t ≡ Some n → t ≡ decimal n
small_is t n h =
    let g = gave (λ m. cond (nat_lt m (2 ^ 32)) (Some m) None) (numeral t) n h in
    let k = chosen (nat_lt g.inner (2 ^ 32)) g.inner n g.gives in
    (numeral_is t g.inner g.was).spelled ∙ ap decimal k.1

pub number_is : (t : List ℕ) (n : ℕ) → numeral t ≡ Some n → t ≡ decimal n
number_is t n h = (numeral_is t n h).spelled

name_is : (t n : List ℕ) → name_of t ≡ Some n → t ≡ n
name_is t n h = (chosen (is_name t) t n h).1

record IsStampOf (boot count : List ℕ) (s : Stamp) : Type 0 where
  boot_is : boot ≡ decimal s.boot
  count_is : count ≡ decimal s.count

stamp_is : (boot count : List ℕ) (s : Stamp) → stamp_from boot count ≡ Some s → IsStampOf boot count s
stamp_is boot count s h =
    let g = gave (λ b. option_map (λ c. record { boot = b; count = c }) (numeral count)) (numeral boot) s h in
    let m = mapped (λ c. record { boot = g.inner; count = c }) (numeral count) s g.gives in
    record {
      boot_is = number_is boot g.inner g.was ∙ ap (λ (t : Stamp). decimal t.boot) m.gives;
      count_is = number_is count m.inner m.was ∙ ap (λ (t : Stamp). decimal t.count) m.gives;
    }

stamp_words : (ts : List (List ℕ)) (s : Stamp) → stamp_of ts ≡ Some s → ts ≡ decimal s.boot ∷ decimal s.count ∷ []
stamp_words [] s h = absurd (none-some s h)
stamp_words (boot ∷ []) s h = absurd (none-some s h)
stamp_words (boot ∷ count ∷ []) s h = let k = stamp_is boot count s h in rw (← k.boot_is, ← k.count_is) refl
stamp_words (boot ∷ count ∷ more ∷ others) s h = absurd (none-some s h)

pub consumer_is : (t : List ℕ) (s : Stamp) → consumer_of t ≡ Some s → t ≡ consumer_name s
consumer_is [] s h = absurd (none-some s h)
consumer_is (b ∷ bs) s h =
    let k = tested (b == 66) (stamp_of (pieces 67 bs)) s h in
    let first : b ≡ 66 = eqb-true b 66 k.0 in
    let rest : bs ≡ decimal s.boot ++ 67 ∷ decimal s.count = sym (join_pieces 67 bs) ∙ ap (join_with_byte 67) (stamp_words (pieces 67 bs) s k.1) in
    ap (λ c. c ∷ bs) first ∙ ap (λ r. 66 ∷ r) rest

-- the words of an attempt
record IsAttemptOf (node stream index boot count : List ℕ) (a : Attempt) : Type 0 where
  node_is : node ≡ a.asker.node
  stream_is : stream ≡ a.asker.stream
  index_is : index ≡ decimal a.asker.index
  boot_is : boot ≡ decimal a.attempt.boot
  count_is : count ≡ decimal a.attempt.count

attempt_is : (node stream index boot count : List ℕ) (a : Attempt) → attempt_from node stream index boot count ≡ Some a → IsAttemptOf node stream index boot count a
attempt_is node stream index boot count a h =
    let g = gave (λ i. option_and_then (λ s. option_and_then (λ n. option_map (λ m. record { asker = record { node = n; stream = m; index = i }; attempt = s }) (name_of stream)) (name_of node)) (stamp_from boot count)) (small_numeral index) a h in
    let i = g.inner in
    let k = gave (λ s. option_and_then (λ n. option_map (λ m. record { asker = record { node = n; stream = m; index = i }; attempt = s }) (name_of stream)) (name_of node)) (stamp_from boot count) a g.gives in
    let s = k.inner in
    let l = gave (λ n. option_map (λ m. record { asker = record { node = n; stream = m; index = i }; attempt = s }) (name_of stream)) (name_of node) a k.gives in
    let n = l.inner in
    let m = mapped (λ m. record { asker = record { node = n; stream = m; index = i }; attempt = s }) (name_of stream) a l.gives in
    let stamp = stamp_is boot count s k.was in
    record {
      node_is = name_is node n l.was ∙ ap (λ (x : Attempt). x.asker.node) m.gives;
      stream_is = name_is stream m.inner m.was ∙ ap (λ (x : Attempt). x.asker.stream) m.gives;
      index_is = small_is index i g.was ∙ ap (λ (x : Attempt). decimal x.asker.index) m.gives;
      boot_is = stamp.boot_is ∙ ap (λ (x : Attempt). decimal x.attempt.boot) m.gives;
      count_is = stamp.count_is ∙ ap (λ (x : Attempt). decimal x.attempt.count) m.gives;
    }

behind_is : (end node stream : List ℕ) (ts : List (List ℕ)) (a : Attempt) → attempt_behind end node stream ts ≡ Some a
    → node ∷ stream ∷ ts ≡ a.asker.node ∷ a.asker.stream ∷ decimal a.asker.index ∷ decimal a.attempt.boot ∷ decimal a.attempt.count ∷ end ∷ []
behind_is end node stream [] a h = absurd (none-some a h)
behind_is end node stream (x ∷ []) a h = absurd (none-some a h)
behind_is end node stream (x ∷ y ∷ []) a h = absurd (none-some a h)
behind_is end node stream (x ∷ y ∷ z ∷ []) a h = absurd (none-some a h)
behind_is end node stream (index ∷ boot ∷ count ∷ last ∷ []) a h =
    let k = tested (bytes_eq last end) (attempt_from node stream index boot count) a h in
    let w = attempt_is node stream index boot count a k.1 in
    rw (← w.node_is, ← w.stream_is, ← w.index_is, ← w.boot_is, ← w.count_is, equal_bytes last end k.0) refl
behind_is end node stream (x ∷ y ∷ z ∷ w ∷ v ∷ others) a h = absurd (none-some a h)

pub attempt_words_are : (end : List ℕ) (ts : List (List ℕ)) (a : Attempt) → attempt_of end ts ≡ Some a → ts ≡ attempt_words a.asker a.attempt end
attempt_words_are end [] a h = absurd (none-some a h)
attempt_words_are end (x ∷ []) a h = absurd (none-some a h)
attempt_words_are end (x ∷ y ∷ []) a h = absurd (none-some a h)
attempt_words_are end (x ∷ y ∷ z ∷ []) a h = absurd (none-some a h)
attempt_words_are end (js ∷ m ∷ node ∷ stream ∷ numbers) a h =
    let k = tested (bytes_eq js (codes "$JS") && bytes_eq m (codes "M")) (attempt_behind end node stream numbers) a h in
    let p = and_parts (bytes_eq js (codes "$JS")) (bytes_eq m (codes "M")) k.0 in
    let first = equal_bytes js (codes "$JS") p.0 in
    let second = equal_bytes m (codes "M") p.1 in
    ap (λ w. w ∷ m ∷ node ∷ stream ∷ numbers) first ∙ (ap (λ w. codes "$JS" ∷ w ∷ node ∷ stream ∷ numbers) second ∙ ap (λ ws. codes "$JS" ∷ codes "M" ∷ ws) (behind_is end node stream numbers a k.1))

-- the words of a flow request
record IsFlowOf (origin stream consumer token : List ℕ) (f : Flow) : Type 0 where
  origin_is : origin ≡ f.origin
  stream_is : stream ≡ f.stream
  consumer_name_is : consumer ≡ consumer_name f.consumer
  token_is : token ≡ decimal f.token

flow_is : (origin stream consumer token : List ℕ) (f : Flow) → flow_from origin stream consumer token ≡ Some f → IsFlowOf origin stream consumer token f
flow_is origin stream consumer token f h =
    let g = gave (λ c. option_and_then (λ t. option_and_then (λ o. option_map (λ s. record { origin = o; stream = s; consumer = c; token = t }) (name_of stream)) (name_of origin)) (numeral token)) (consumer_of consumer) f h in
    let c = g.inner in
    let k = gave (λ t. option_and_then (λ o. option_map (λ s. record { origin = o; stream = s; consumer = c; token = t }) (name_of stream)) (name_of origin)) (numeral token) f g.gives in
    let t = k.inner in
    let l = gave (λ o. option_map (λ s. record { origin = o; stream = s; consumer = c; token = t }) (name_of stream)) (name_of origin) f k.gives in
    let o = l.inner in
    let m = mapped (λ s. record { origin = o; stream = s; consumer = c; token = t }) (name_of stream) f l.gives in
    record {
      origin_is = name_is origin o l.was ∙ ap (λ (x : Flow). x.origin) m.gives;
      stream_is = name_is stream m.inner m.was ∙ ap (λ (x : Flow). x.stream) m.gives;
      consumer_name_is = consumer_is consumer c g.was ∙ ap (λ (x : Flow). consumer_name x.consumer) m.gives;
      token_is = number_is token t k.was ∙ ap (λ (x : Flow). decimal x.token) m.gives;
    }

pub flow_words_are : (ts : List (List ℕ)) (f : Flow) → flow_of ts ≡ Some f → ts ≡ flow_words f.origin f.stream f.consumer f.token
flow_words_are [] f h = absurd (none-some f h)
flow_words_are (a ∷ []) f h = absurd (none-some f h)
flow_words_are (a ∷ b ∷ []) f h = absurd (none-some f h)
flow_words_are (a ∷ b ∷ c ∷ []) f h = absurd (none-some f h)
flow_words_are (a ∷ b ∷ c ∷ d ∷ []) f h = absurd (none-some f h)
flow_words_are (a ∷ b ∷ c ∷ d ∷ e ∷ []) f h = absurd (none-some f h)
flow_words_are (js ∷ fc ∷ origin ∷ stream ∷ consumer ∷ token ∷ []) f h =
    let k = tested (bytes_eq js (codes "$JS") && bytes_eq fc (codes "FC")) (flow_from origin stream consumer token) f h in
    let p = and_parts (bytes_eq js (codes "$JS")) (bytes_eq fc (codes "FC")) k.0 in
    let w = flow_is origin stream consumer token f k.1 in
    rw (← w.origin_is, ← w.stream_is, ← w.consumer_name_is, ← w.token_is, equal_bytes js (codes "$JS") p.0, equal_bytes fc (codes "FC") p.1) refl
flow_words_are (a ∷ b ∷ c ∷ d ∷ e ∷ g ∷ i ∷ others) f h = absurd (none-some f h)

-- the words of a receipt
record IsReceiptOf (stream consumer seq number time pending : List ℕ) (r : Receipt) : Type 0 where
  stream_is : stream ≡ r.stream
  consumer_name_is : consumer ≡ consumer_name r.consumer
  seq_is : seq ≡ decimal r.seq
  number_is' : number ≡ decimal r.number
  time_is : time ≡ decimal r.time
  pending_is : pending ≡ decimal r.pending

receipt_is : (stream consumer seq number time pending : List ℕ) (r : Receipt) → receipt_from stream consumer seq number time pending ≡ Some r → IsReceiptOf stream consumer seq number time pending r
receipt_is stream consumer seq number time pending r h =
    let g = gave (λ c. option_and_then (λ q. option_and_then (λ n. option_and_then (λ t. option_and_then (λ p. option_map (λ s. record { stream = s; consumer = c; seq = q; number = n; time = t; pending = p }) (name_of stream)) (numeral pending)) (numeral time)) (numeral number)) (numeral seq)) (consumer_of consumer) r h in
    let c = g.inner in
    let k = gave (λ q. option_and_then (λ n. option_and_then (λ t. option_and_then (λ p. option_map (λ s. record { stream = s; consumer = c; seq = q; number = n; time = t; pending = p }) (name_of stream)) (numeral pending)) (numeral time)) (numeral number)) (numeral seq) r g.gives in
    let q = k.inner in
    let l = gave (λ n. option_and_then (λ t. option_and_then (λ p. option_map (λ s. record { stream = s; consumer = c; seq = q; number = n; time = t; pending = p }) (name_of stream)) (numeral pending)) (numeral time)) (numeral number) r k.gives in
    let n = l.inner in
    let i = gave (λ t. option_and_then (λ p. option_map (λ s. record { stream = s; consumer = c; seq = q; number = n; time = t; pending = p }) (name_of stream)) (numeral pending)) (numeral time) r l.gives in
    let t = i.inner in
    let j = gave (λ p. option_map (λ s. record { stream = s; consumer = c; seq = q; number = n; time = t; pending = p }) (name_of stream)) (numeral pending) r i.gives in
    let p = j.inner in
    let m = mapped (λ s. record { stream = s; consumer = c; seq = q; number = n; time = t; pending = p }) (name_of stream) r j.gives in
    record {
      stream_is = name_is stream m.inner m.was ∙ ap (λ (x : Receipt). x.stream) m.gives;
      consumer_name_is = consumer_is consumer c g.was ∙ ap (λ (x : Receipt). consumer_name x.consumer) m.gives;
      seq_is = number_is seq q k.was ∙ ap (λ (x : Receipt). decimal x.seq) m.gives;
      number_is' = number_is number n l.was ∙ ap (λ (x : Receipt). decimal x.number) m.gives;
      time_is = number_is time t i.was ∙ ap (λ (x : Receipt). decimal x.time) m.gives;
      pending_is = number_is pending p j.was ∙ ap (λ (x : Receipt). decimal x.pending) m.gives;
    }

receipt_behind_is : (stream consumer : List ℕ) (ts : List (List ℕ)) (r : Receipt) → receipt_behind stream consumer ts ≡ Some r
    → stream ∷ consumer ∷ codes "1" ∷ ts ≡ r.stream ∷ consumer_name r.consumer ∷ codes "1" ∷ decimal r.seq ∷ decimal r.number ∷ decimal r.time ∷ decimal r.pending ∷ []
receipt_behind_is stream consumer [] r h = absurd (none-some r h)
receipt_behind_is stream consumer (a ∷ []) r h = absurd (none-some r h)
receipt_behind_is stream consumer (a ∷ b ∷ []) r h = absurd (none-some r h)
receipt_behind_is stream consumer (a ∷ b ∷ c ∷ []) r h = absurd (none-some r h)
receipt_behind_is stream consumer (seq ∷ number ∷ time ∷ pending ∷ []) r h =
    let w = receipt_is stream consumer seq number time pending r h in
    rw (← w.stream_is, ← w.consumer_name_is, ← w.seq_is, ← w.number_is', ← w.time_is, ← w.pending_is) refl
receipt_behind_is stream consumer (a ∷ b ∷ c ∷ d ∷ e ∷ others) r h = absurd (none-some r h)

pub receipt_words_are : (ts : List (List ℕ)) (r : Receipt) → receipt_of ts ≡ Some r → ts ≡ delivery_words r.stream r.consumer r.seq r.number r.time r.pending
receipt_words_are [] r h = absurd (none-some r h)
receipt_words_are (a ∷ []) r h = absurd (none-some r h)
receipt_words_are (a ∷ b ∷ []) r h = absurd (none-some r h)
receipt_words_are (a ∷ b ∷ c ∷ []) r h = absurd (none-some r h)
receipt_words_are (a ∷ b ∷ c ∷ d ∷ []) r h = absurd (none-some r h)
receipt_words_are (js ∷ ack ∷ stream ∷ consumer ∷ once ∷ numbers) r h =
    let k = tested (bytes_eq js (codes "$JS") && bytes_eq ack (codes "ACK") && bytes_eq once (codes "1")) (receipt_behind stream consumer numbers) r h in
    let p = and_parts (bytes_eq js (codes "$JS") && bytes_eq ack (codes "ACK")) (bytes_eq once (codes "1")) k.0 in
    let q = and_parts (bytes_eq js (codes "$JS")) (bytes_eq ack (codes "ACK")) p.0 in
    ap (λ w. w ∷ ack ∷ stream ∷ consumer ∷ once ∷ numbers) (equal_bytes js (codes "$JS") q.0)
    ∙ (ap (λ w. codes "$JS" ∷ w ∷ stream ∷ consumer ∷ once ∷ numbers) (equal_bytes ack (codes "ACK") q.1)
    ∙ (ap (λ w. codes "$JS" ∷ codes "ACK" ∷ stream ∷ consumer ∷ w ∷ numbers) (equal_bytes once (codes "1") p.1)
    ∙ ap (λ ws. codes "$JS" ∷ codes "ACK" ∷ ws) (receipt_behind_is stream consumer numbers r k.1)))

pub beater_words_are : (ts : List (List ℕ)) (b : Beater) → beater_of ts ≡ Some b → ts ≡ b.origin ∷ b.stream ∷ consumer_name b.consumer ∷ []
beater_words_are [] b h = absurd (none-some b h)
beater_words_are (x ∷ []) b h = absurd (none-some b h)
beater_words_are (x ∷ y ∷ []) b h = absurd (none-some b h)
beater_words_are (origin ∷ stream ∷ consumer ∷ []) b h =
    let g = gave (λ c. option_and_then (λ o. option_map (λ s. record { origin = o; stream = s; consumer = c }) (name_of stream)) (name_of origin)) (consumer_of consumer) b h in
    let c = g.inner in
    let k = gave (λ o. option_map (λ s. record { origin = o; stream = s; consumer = c }) (name_of stream)) (name_of origin) b g.gives in
    let o = k.inner in
    let m = mapped (λ s. record { origin = o; stream = s; consumer = c }) (name_of stream) b k.gives in
    let first : origin ≡ b.origin = name_is origin o k.was ∙ ap (λ (x : Beater). x.origin) m.gives in
    let second : stream ≡ b.stream = name_is stream m.inner m.was ∙ ap (λ (x : Beater). x.stream) m.gives in
    let third : consumer ≡ consumer_name b.consumer = consumer_is consumer c g.was ∙ ap (λ (x : Beater). consumer_name x.consumer) m.gives in
    rw (← first, ← second, ← third) refl
beater_words_are (x ∷ y ∷ z ∷ w ∷ others) b h = absurd (none-some b h)

-- ---- what is written is read

pub name_read : (w : List ℕ) → is_name w ≡ true → name_of w ≡ Some w
name_read w h = rw h refl

pub small_read : (n : ℕ) → n < 2 ^ 32 → small_numeral (decimal n) ≡ Some n
small_read n h =
    let wide : n < 2 ^ 64 = omega (arith, h) in
    ap (option_and_then (λ m. cond (nat_lt m (2 ^ 32)) (Some m) None)) (numeral_decimal n wide) ∙ ap (λ b. cond b (Some n) None) (lt-ltb n (2 ^ 32) h)

digits_free : (ds : List ℕ) → AllDigits 10 ds → free_of 67 ds ≡ true
digits_free [] h = refl
digits_free (d ∷ ds) h =
    let digit = digit_from_value d h.0 in
    and_from (not (d == 67)) (free_of 67 ds) (not_false (d == 67) (ne_eqb d 67 (λ e. omega (arith, digit.0, digit.1, e)))) (digits_free ds h.1)

decimal_free : (n : ℕ) → n < 2 ^ 64 → free_of 67 (decimal n) ≡ true
decimal_free n h = digits_free (decimal n) (decimal_is_IsNumeral n h).0.1

stamp_read : (s : Stamp) → IsStamp s → stamp_from (decimal s.boot) (decimal s.count) ≡ Some s
stamp_read s h = rw (numeral_decimal s.boot h.boot, numeral_decimal s.count h.count) refl

pub consumer_read : (s : Stamp) → IsStamp s → consumer_of (consumer_name s) ≡ Some s
consumer_read s h =
    let free : list_all (free_of 67) (decimal s.boot ∷ decimal s.count ∷ []) ≡ true =
    and_from (free_of 67 (decimal s.boot)) (list_all (free_of 67) (decimal s.count ∷ [])) (decimal_free s.boot h.boot) (and_from (free_of 67 (decimal s.count)) true (decimal_free s.count h.count) refl) in
    ap stamp_of (pieces_join 67 (decimal s.boot) (decimal s.count ∷ []) free) ∙ stamp_read s h

pub attempt_read : (asker : AskerId) (attempt : Stamp) (end : List ℕ) → IsAsker asker → IsStamp attempt → attempt_of end (attempt_words asker attempt end) ≡ Some (record { asker = asker; attempt = attempt })
attempt_read asker attempt end a s =
    ap (λ b. cond b (attempt_from asker.node asker.stream (decimal asker.index) (decimal attempt.boot) (decimal attempt.count)) None) (same_bytes end)
    ∙ (ap (λ x. option_and_then (λ (i : ℕ). option_and_then (λ (s : Stamp). option_and_then (λ (n : List ℕ). option_map (λ (m : List ℕ). record { asker = record { node = n; stream = m; index = i }; attempt = s }) (name_of asker.stream)) (name_of asker.node)) (stamp_from (decimal attempt.boot) (decimal attempt.count))) x) (small_read asker.index a.index)
    ∙ (ap (λ x. option_and_then (λ (s : Stamp). option_and_then (λ (n : List ℕ). option_map (λ (m : List ℕ). record { asker = record { node = n; stream = m; index = asker.index }; attempt = s }) (name_of asker.stream)) (name_of asker.node)) x) (stamp_read attempt s)
    ∙ (ap (λ x. option_and_then (λ (n : List ℕ). option_map (λ (m : List ℕ). record { asker = record { node = n; stream = m; index = asker.index }; attempt = attempt }) (name_of asker.stream)) x) (name_read asker.node a.node)
    ∙ ap (λ x. option_map (λ (m : List ℕ). record { asker = record { node = asker.node; stream = m; index = asker.index }; attempt = attempt }) x) (name_read asker.stream a.stream))))

pub flow_read : (origin stream : List ℕ) (consumer : Stamp) (token : ℕ) → is_name origin ≡ true → is_name stream ≡ true → IsStamp consumer → token < 2 ^ 64
    → flow_of (flow_words origin stream consumer token) ≡ Some (record { origin = origin; stream = stream; consumer = consumer; token = token })
flow_read origin stream consumer token o s c t =
    ap (λ x. option_and_then (λ (c : Stamp). option_and_then (λ (t : ℕ). option_and_then (λ (o : List ℕ). option_map (λ (s : List ℕ). record { origin = o; stream = s; consumer = c; token = t }) (name_of stream)) (name_of origin)) (numeral (decimal token))) x) (consumer_read consumer c)
    ∙ (ap (λ x. option_and_then (λ (t : ℕ). option_and_then (λ (o : List ℕ). option_map (λ (s : List ℕ). record { origin = o; stream = s; consumer = consumer; token = t }) (name_of stream)) (name_of origin)) x) (numeral_decimal token t)
    ∙ (ap (λ x. option_and_then (λ (o : List ℕ). option_map (λ (s : List ℕ). record { origin = o; stream = s; consumer = consumer; token = token }) (name_of stream)) x) (name_read origin o)
    ∙ ap (λ x. option_map (λ (s : List ℕ). record { origin = origin; stream = s; consumer = consumer; token = token }) x) (name_read stream s)))

pub receipt_read : (stream : List ℕ) (consumer : Stamp) (seq number time pending : ℕ) → is_name stream ≡ true → IsStamp consumer → seq < 2 ^ 64 → number < 2 ^ 64 → time < 2 ^ 64 → pending < 2 ^ 64
    → receipt_of (delivery_words stream consumer seq number time pending) ≡ Some (record { stream = stream; consumer = consumer; seq = seq; number = number; time = time; pending = pending })
receipt_read stream consumer seq number time pending s c q n t p =
    let e1 = consumer_read consumer c in
    ap (λ o. option_and_then (λ (c : Stamp). option_and_then (λ (q : ℕ). option_and_then (λ (n : ℕ). option_and_then (λ (t : ℕ). option_and_then (λ (p : ℕ). option_map (λ (s : List ℕ). record { stream = s; consumer = c; seq = q; number = n; time = t; pending = p }) (name_of stream)) (numeral (decimal pending))) (numeral (decimal time))) (numeral (decimal number))) (numeral (decimal seq))) o) e1
    ∙ (ap (λ o. option_and_then (λ (q : ℕ). option_and_then (λ (n : ℕ). option_and_then (λ (t : ℕ). option_and_then (λ (p : ℕ). option_map (λ (s : List ℕ). record { stream = s; consumer = consumer; seq = q; number = n; time = t; pending = p }) (name_of stream)) (numeral (decimal pending))) (numeral (decimal time))) (numeral (decimal number))) o) (numeral_decimal seq q)
    ∙ (ap (λ o. option_and_then (λ (n : ℕ). option_and_then (λ (t : ℕ). option_and_then (λ (p : ℕ). option_map (λ (s : List ℕ). record { stream = s; consumer = consumer; seq = seq; number = n; time = t; pending = p }) (name_of stream)) (numeral (decimal pending))) (numeral (decimal time))) o) (numeral_decimal number n)
    ∙ (ap (λ o. option_and_then (λ (t : ℕ). option_and_then (λ (p : ℕ). option_map (λ (s : List ℕ). record { stream = s; consumer = consumer; seq = seq; number = number; time = t; pending = p }) (name_of stream)) (numeral (decimal pending))) o) (numeral_decimal time t)
    ∙ (ap (λ o. option_and_then (λ (p : ℕ). option_map (λ (s : List ℕ). record { stream = s; consumer = consumer; seq = seq; number = number; time = time; pending = p }) (name_of stream)) o) (numeral_decimal pending p)
    ∙ ap (λ o. option_map (λ (s : List ℕ). record { stream = s; consumer = consumer; seq = seq; number = number; time = time; pending = pending }) o) (name_read stream s)))))

pub beater_read : (origin stream : List ℕ) (consumer : Stamp) → is_name origin ≡ true → is_name stream ≡ true → IsStamp consumer
    → beater_of (origin ∷ stream ∷ consumer_name consumer ∷ []) ≡ Some (record { origin = origin; stream = stream; consumer = consumer })
beater_read origin stream consumer o s c =
    ap (λ x. option_and_then (λ (c : Stamp). option_and_then (λ (o : List ℕ). option_map (λ (s : List ℕ). record { origin = o; stream = s; consumer = c }) (name_of stream)) (name_of origin)) x) (consumer_read consumer c)
    ∙ (ap (λ x. option_and_then (λ (o : List ℕ). option_map (λ (s : List ℕ). record { origin = o; stream = s; consumer = consumer }) (name_of stream)) x) (name_read origin o)
    ∙ ap (λ x. option_map (λ (s : List ℕ). record { origin = origin; stream = s; consumer = consumer }) x) (name_read stream s))
