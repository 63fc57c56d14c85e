-- One delivery more, and an answer: what was sent stays what the progress stands for.
use Rattle.std.proofs.Common.{◌≡◌, ℕ, zero, suc, ◌+◌, ◌-◌, ◌<◌, ◌≤◌, Bool, true, false, cond, leb, List, [], ◌∷◌, ◌++◌, length, map, drop, refl, sym, ap, ◌∙◌, arith, length-append, append-nil}
use Rattle.std.specs.Prelude.{sum}
use Rattle.std.proofs.lemmas.List.Sums.{sum_by-cons, sum_by_push}
use Rattle.nats_text.specs.Sizes.{size}
use Rattle.stream_fold.specs.declared.entry.Numbered.{Numbered}
use Rattle.push_consumer.specs.Chains.{Sent, Sendings, StandsFor, requests, after_token, bytes_of, parts, bytes_since, AsksWhereDue, last_of, chain, outstanding_of, with_row}
use Rattle.push_consumer.specs.Progress.{Progress, outstanding, asks, delivered, requested, after_row}

-- ---- the requests

pub requests-cons : (s : Sent) (ss : List Sent) → requests (s ∷ ss) ≡ cond s.asks 1 0 + requests ss
requests-cons s ss = sum_by-cons (λ (x : Sent). cond x.asks 1 0) s ss

requests-push : (ss : List Sent) (s : Sent) → requests (ss ++ s ∷ []) ≡ requests ss + cond s.asks 1 0
requests-push ss s = sum_by_push (λ (x : Sent). cond x.asks 1 0) ss s

-- the token behind a delivery
tokens-left : (b : Bool) (a n m : ℕ) → suc a ≤ m → m ≡ cond b 1 0 + n → cond b a (suc a) ≤ n
tokens-left true a n m le e = omega arith
tokens-left false a n m le e = omega arith

pub tokens_behind : (a : ℕ) (s : Sent) (ss : List Sent) → suc a ≤ requests (s ∷ ss) → cond s.asks a (suc a) ≤ requests ss
tokens_behind a s ss le = tokens-left s.asks a (requests ss) (requests (s ∷ ss)) le (requests-cons s ss)

no_token : (a : ℕ) → suc a ≤ 0 → ⊥
no_token a le = omega arith

pub after-push : (a : ℕ) (ss : List Sent) (s : Sent) → a ≤ requests ss → after_token a (ss ++ s ∷ []) ≡ after_token a ss ++ s ∷ []
after-push zero ss s le = refl
after-push (suc a) [] s le = absurd (no_token a le)
after-push (suc a) (t ∷ ss) s le = after-push (cond t.asks a (suc a)) ss s (tokens_behind a t ss le)

more-left : (b : Bool) (a k : ℕ) → cond b (a + k) (suc (a + k)) ≡ cond b a (suc a) + k
more-left true a k = refl
more-left false a k = omega arith

suc-plus : (a k : ℕ) → suc a + k ≡ suc (a + k)
suc-plus a k = omega arith

zero-plus : (k : ℕ) → 0 + k ≡ k
zero-plus k = omega arith

-- behind a later token stands what is behind it behind the earlier one
pub after-more : (a k : ℕ) (ss : List Sent) → a ≤ requests ss → after_token (a + k) ss ≡ after_token k (after_token a ss)
after-more zero k ss le = ap (λ n. after_token n ss) (zero-plus k)
after-more (suc a) k [] le = absurd (no_token a le)
after-more (suc a) k (s ∷ ss) le =
    ap (λ n. after_token n (s ∷ ss)) (suc-plus a k)
    ∙ (ap (λ n. after_token n ss) (more-left s.asks a k) ∙ after-more (cond s.asks a (suc a)) k ss (tokens_behind a s ss le))

requests-step : (b : Bool) (a x n m : ℕ) → x + cond b a (suc a) ≡ n → m ≡ cond b 1 0 + n → x + suc a ≡ m
requests-step true a x n m e f = omega arith
requests-step false a x n m e f = omega arith

-- behind a token stand the requests past it
pub requests-after : (a : ℕ) (ss : List Sent) → a ≤ requests ss → requests (after_token a ss) + a ≡ requests ss
requests-after zero ss le = omega arith
requests-after (suc a) [] le = absurd (no_token a le)
requests-after (suc a) (s ∷ ss) le =
    requests-step s.asks a (requests (after_token (cond s.asks a (suc a)) ss)) (requests ss) (requests (s ∷ ss)) (requests-after (cond s.asks a (suc a)) ss (tokens_behind a s ss le)) (requests-cons s ss)

-- ---- the bytes between requests

parts-step : (b : Bool) (x : ℕ) (here rest here' rest' more more' : List ℕ) → here' ≡ here ++ more → rest' ≡ rest ++ more' → cond b (x ∷ here') rest' ≡ cond b (x ∷ here) rest ++ cond b more more'
parts-step true x here rest here' rest' more more' e f = ap (λ xs. x ∷ xs) e
parts-step false x here rest here' rest' more more' e f = f

if-since : (b c : Bool) (x y : ℕ) (ss : List Sent) (bytes : ℕ) → cond b (cond c ((bytes_since x ss + bytes) ∷ []) []) (cond c ((bytes_since y ss + bytes) ∷ []) []) ≡ cond c ((bytes_since (cond b x y) ss + bytes) ∷ []) []
if-since true c x y ss bytes = refl
if-since false c x y ss bytes = refl

parts-push : (before : ℕ) (ss : List Sent) (s : Sent) → parts before (ss ++ s ∷ []) ≡ parts before ss ++ cond s.asks ((bytes_since before ss + s.bytes) ∷ []) []
parts-push before [] s = refl
parts-push before (t ∷ ss) s =
    parts-step t.asks (before + t.bytes) (parts 0 ss) (parts (before + t.bytes) ss) (parts 0 (ss ++ s ∷ [])) (parts (before + t.bytes) (ss ++ s ∷ [])) (cond s.asks ((bytes_since 0 ss + s.bytes) ∷ []) []) (cond s.asks ((bytes_since (before + t.bytes) ss + s.bytes) ∷ []) [])
    (parts-push 0 ss s) (parts-push (before + t.bytes) ss s)
    ∙ ap (λ xs. cond t.asks ((before + t.bytes) ∷ parts 0 ss) (parts (before + t.bytes) ss) ++ xs) (if-since t.asks s.asks 0 (before + t.bytes) ss s.bytes)

since-push : (before : ℕ) (ss : List Sent) (s : Sent) → bytes_since before (ss ++ s ∷ []) ≡ cond s.asks 0 (bytes_since before ss + s.bytes)
since-push before [] s = refl
since-push before (t ∷ ss) s = since-push (cond t.asks 0 (before + t.bytes)) ss s

due-push : (before : ℕ) (ss : List Sent) (s : Sent) → AsksWhereDue before ss → s.asks ≡ leb 262144 (bytes_since before ss + s.bytes) → AsksWhereDue before (ss ++ s ∷ [])
due-push before [] s h e = (e, tt)
due-push before (t ∷ ss) s h e = (h.0, due-push (cond t.asks 0 (before + t.bytes)) ss s h.1 e)

none-before : (b : Bool) (a x : ℕ) → cond b a (suc a) ≡ 0 → cond b 0 x ≡ 0
none-before true a x e = refl
none-before false a x e = absurd (omega arith)

-- the bytes since the last request are those behind an answered one
since-after : (a before : ℕ) (ss : List Sent) → a ≤ requests ss → (a ≡ 0 → before ≡ 0) → bytes_since 0 (after_token a ss) ≡ bytes_since before ss
since-after zero before ss le none = ap (λ n. bytes_since n ss) (sym (none refl))
since-after (suc a) before [] le none = absurd (no_token a le)
since-after (suc a) before (s ∷ ss) le none = since-after (cond s.asks a (suc a)) (cond s.asks 0 (before + s.bytes)) ss (tokens_behind a s ss le) (none-before s.asks a (before + s.bytes))

drop-step : (b : Bool) (k x : ℕ) (here rest : List ℕ) (ss : List Sent) → (b ≡ true → parts 0 (after_token k ss) ≡ drop k here) → (b ≡ false → parts 0 (after_token (suc k) ss) ≡ drop (suc k) rest) → parts 0 (after_token (cond b k (suc k)) ss) ≡ drop (suc k) (cond b (x ∷ here) rest)
drop-step true k x here rest ss f g = f refl
drop-step false k x here rest ss f g = g refl

asked : (b : Bool) (k n : ℕ) → b ≡ true → cond b k (suc k) ≤ n → k ≤ n
asked true k n e le = le
asked false k n e le = absurd (cc)

not_asked : (b : Bool) (k n : ℕ) → b ≡ false → cond b k (suc k) ≤ n → suc k ≤ n
not_asked false k n e le = le
not_asked true k n e le = absurd (cc)

-- behind a token stand the parts past it
parts-after : (k before : ℕ) (ss : List Sent) → k ≤ requests ss → (k ≡ 0 → before ≡ 0) → parts 0 (after_token k ss) ≡ drop k (parts before ss)
parts-after zero before ss le none = ap (λ n. parts n ss) (sym (none refl))
parts-after (suc k) before [] le none = absurd (no_token k le)
parts-after (suc k) before (s ∷ ss) le none =
    let left : cond s.asks k (suc k) ≤ requests ss = tokens_behind k s ss le in
    drop-step s.asks k (before + s.bytes) (parts 0 ss) (parts (before + s.bytes) ss) ss
    (λ e. parts-after k 0 ss (asked s.asks k (requests ss) e left) (λ q. refl))
    (λ e. parts-after (suc k) (before + s.bytes) ss (not_asked s.asks k (requests ss) e left) (λ q. absurd (omega arith)))

length-step : (b : Bool) (x n m : ℕ) (here rest : List ℕ) → length here ≡ n → length rest ≡ n → m ≡ cond b 1 0 + n → length (cond b (x ∷ here) rest) ≡ m
length-step true x n m here rest e f g = omega arith
length-step false x n m here rest e f g = omega arith

-- there are as many parts as requests
pub length-parts : (before : ℕ) (ss : List Sent) → length (parts before ss) ≡ requests ss
length-parts before [] = refl
length-parts before (s ∷ ss) = length-step s.asks (before + s.bytes) (requests ss) (requests (s ∷ ss)) (parts 0 ss) (parts (before + s.bytes) ss) (length-parts 0 ss) (length-parts (before + s.bytes) ss) (requests-cons s ss)

sum-cons : (x : ℕ) (xs : List ℕ) → sum (x ∷ xs) ≡ x + sum xs
sum-cons x xs = sum_by-cons (λ (n : ℕ). n) x xs

bytes-cons : (s : Sent) (ss : List Sent) → bytes_of (s ∷ ss) ≡ s.bytes + bytes_of ss
bytes-cons s ss = sum_by-cons (λ (x : Sent). x.bytes) s ss

sum-step : (b : Bool) (x all : ℕ) (here rest : List ℕ) (ss : List Sent) → sum here + bytes_since 0 ss ≡ 0 + all → sum rest + bytes_since x ss ≡ x + all → sum (cond b (x ∷ here) rest) + bytes_since (cond b 0 x) ss ≡ x + all
sum-step true x all here rest ss e f = omega (arith, sum-cons x here)
sum-step false x all here rest ss e f = f

-- the parts and the bytes since the last request are all bytes
bytes-parts : (before : ℕ) (ss : List Sent) → sum (parts before ss) + bytes_since before ss ≡ before + bytes_of ss
bytes-parts before [] = omega arith
bytes-parts before (s ∷ ss) =
    let q = sum-step s.asks (before + s.bytes) (bytes_of ss) (parts 0 ss) (parts (before + s.bytes) ss) ss (bytes-parts 0 ss) (bytes-parts (before + s.bytes) ss) in
    omega (arith, q, bytes-cons s ss)

-- what is outstanding by the progress is so by what was sent
pub outstanding_sent : (q : Progress) (c : Sendings) → StandsFor q c → outstanding q ≡ outstanding_of c
outstanding_sent q c h =
    let all = bytes-parts 0 (after_token c.answered c.sent) in
    omega (arith, ap sum h.unanswered, h.recent, all)

-- ---- one row more

map-push : (ss : List Sent) (s : Sent) → map (λ (x : Sent). x.seq) (ss ++ s ∷ []) ≡ map (λ (x : Sent). x.seq) ss ++ s.seq ∷ []
map-push [] s = refl
map-push (t ∷ ss) s = ap (λ ns. t.seq ∷ ns) (map-push ss s)

last-push : (xs : List ℕ) (x : ℕ) → last_of (xs ++ x ∷ []) ≡ x
last-push [] x = refl
last-push (y ∷ []) x = refl
last-push (y ∷ z ∷ zs) x = last-push (z ∷ zs) x

-- the chain with one row more
pub chain_row : (c : Sendings) (row : Numbered) → chain (with_row c row) ≡ chain c ++ row.seq ∷ []
chain_row c row = map-push c.sent _

-- the bytes since the last request are those of all that was sent
pub recent_sent : (q : Progress) (c : Sendings) → StandsFor q c → q.recent ≡ bytes_since 0 c.sent
recent_sent q c h = h.recent ∙ since-after c.answered 0 c.sent h.tokens (λ e. refl)

row-step : (b : Bool) (q : Progress) (c : Sendings) (row : Numbered) (s : Sent) → StandsFor q c → s.seq ≡ row.seq → s.bytes ≡ size row.message → s.asks ≡ b → s.asks ≡ leb 262144 (bytes_since 0 c.sent + s.bytes) → StandsFor (cond b (requested (delivered q row)) (delivered q row)) (record { sent = c.sent ++ s ∷ []; answered = c.answered })
row-step true q c row s h number bytes asked due =
    let old = after_token c.answered c.sent in
    let behind : after_token c.answered (c.sent ++ s ∷ []) ≡ old ++ s ∷ [] = after-push c.answered c.sent s h.tokens in
    record {
      count = omega (arith, length-append c.sent (s ∷ []), h.count);
      last = sym (ap last_of (map-push c.sent s) ∙ (last-push (map (λ (x : Sent). x.seq) c.sent) s.seq ∙ number));
      answer = h.answer;
      unanswered =
          ap (λ u. u ++ (q.recent + size row.message) ∷ []) h.unanswered
          ∙ (ap (λ n. parts 0 old ++ n ∷ []) (ap (λ r. r + size row.message) h.recent ∙ ap (λ n. bytes_since 0 old + n) (sym bytes))
          ∙ (sym (ap (λ b. parts 0 old ++ cond b ((bytes_since 0 old + s.bytes) ∷ []) []) asked)
          ∙ sym (ap (parts 0) behind ∙ parts-push 0 old s)));
      recent = sym (ap (bytes_since 0) behind ∙ (since-push 0 old s ∙ ap (λ b. cond b 0 (bytes_since 0 old + s.bytes)) asked));
      tokens = omega (arith, requests-push c.sent s, h.tokens);
      due = due-push 0 c.sent s h.due due;
    }
row-step false q c row s h number bytes asked due =
    let old = after_token c.answered c.sent in
    let behind : after_token c.answered (c.sent ++ s ∷ []) ≡ old ++ s ∷ [] = after-push c.answered c.sent s h.tokens in
    record {
      count = omega (arith, length-append c.sent (s ∷ []), h.count);
      last = sym (ap last_of (map-push c.sent s) ∙ (last-push (map (λ (x : Sent). x.seq) c.sent) s.seq ∙ number));
      answer = h.answer;
      unanswered =
          h.unanswered ∙ (sym (append-nil (parts 0 old))
          ∙ (sym (ap (λ b. parts 0 old ++ cond b ((bytes_since 0 old + s.bytes) ∷ []) []) asked)
          ∙ sym (ap (parts 0) behind ∙ parts-push 0 old s)));
      recent =
          ap (λ r. r + size row.message) h.recent
          ∙ (ap (λ n. bytes_since 0 old + n) (sym bytes)
          ∙ sym (ap (bytes_since 0) behind ∙ (since-push 0 old s ∙ ap (λ b. cond b 0 (bytes_since 0 old + s.bytes)) asked)));
      tokens = omega (arith, requests-push c.sent s, h.tokens);
      due = due-push 0 c.sent s h.due due;
    }

-- the progress after a row stands for what was sent with it
pub stands_row : (q : Progress) (c : Sendings) (row : Numbered) → StandsFor q c → StandsFor (after_row q row) (with_row c row)
stands_row q c row h =
    let due = leb 262144 (bytes_since 0 c.sent + size row.message) in
    row-step (asks (delivered q row)) q c row (record { seq = row.seq; bytes = size row.message; asks = due }) h refl refl (ap (λ n. leb 262144 (n + size row.message)) (sym (recent_sent q c h))) refl

-- ---- an answer

-- the progress after an answer stands for what was sent with that answer
pub stands_answer : (q : Progress) (c : Sendings) (token : ℕ) → StandsFor q c → q.answered < token → token ≤ q.answered + length q.unanswered → StandsFor (record q { answered = token; unanswered = drop (token - q.answered) q.unanswered }) (record { sent = c.sent; answered = token })
stands_answer q c token h lt le =
    let old = after_token c.answered c.sent in
    let count : length q.unanswered ≡ requests old = ap length h.unanswered ∙ length-parts 0 old in
    let all : requests old + c.answered ≡ requests c.sent = requests-after c.answered c.sent h.tokens in
    let given : q.answered ≡ c.answered = h.answer in
    let sum : c.answered + (token - q.answered) ≡ token = omega arith in
    let behind : after_token token c.sent ≡ after_token (token - q.answered) old = ap (λ t. after_token t c.sent) (sym sum) ∙ after-more c.answered (token - q.answered) c.sent h.tokens in
    let few : token - q.answered ≤ requests old = omega arith in
    record {
      count = h.count;
      last = h.last;
      answer = refl;
      unanswered = ap (drop (token - q.answered)) h.unanswered ∙ sym (ap (parts 0) behind ∙ parts-after (token - q.answered) 0 old few (λ e. refl));
      recent = h.recent ∙ sym (ap (bytes_since 0) behind ∙ since-after (token - q.answered) 0 old few (λ e. refl));
      tokens = omega arith;
      due = h.due;
    }
