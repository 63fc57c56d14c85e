-- The value of the header that a source sets: it is legal, and the message grows by little.
use Rattle.std.proofs.Common.{◌≡◌, ℕ, ◌+◌, ◌<◌, ◌≤◌, ◌^◌, List, [], ◌∷◌, ◌++◌, length, Bool, true, false, not, cond, eqb, ltb, Option, None, Some, refl, ap, subst, ◌∙◌, append_assoc, arith}
use Rattle.std.specs.Prelude.{IsTrue, decimal, nat_lt, filter, is_none}
use Rattle.std.specs.Int.Digits.{digits_of}
use Rattle.std.specs.List.{list_all, flat_map}
use Rattle.std.proofs.lemmas.Bool.{and_parts, and_from, eqb-true, leb-true, ltb-false, ltb-true, lt-ltb, false≢true}
use Rattle.std.proofs.lemmas.Fmt.{decimal-digits_of, decimal_digit, length-decimal-le}
use Rattle.std.proofs.lemmas.Grind.{flat_map-append}
use Rattle.std.proofs.lemmas.List.{length-append}
use Rattle.std.proofs.lemmas.List.Concat.{flat_map-cons}
use Rattle.std.proofs.lemmas.List.Folds.{list_all-append, list_all-map}
use Rattle.std.proofs.lemmas.Slice.Eq.{bytes_eq-Decides}
use Rattle.nats_text.specs.declared.headers.Pair.{Pair}
use Rattle.nats_text.specs.declared.message.Message.{Message}
use Rattle.nats_text.specs.declared.origin.Origin.{Origin}
use Rattle.nats_text.specs.Headers.{HeaderBlock, is_blank, is_line_byte, is_line_text, before_trimmed, trim_start, trim_end, trimmed, is_header_value, is_named, other_pairs, with_value, pair_line, first_text, crlf, block_lines, has_none, written}
use Rattle.nats_text.specs.Text.{is_name, is_subject}
use Rattle.stream_fold.specs.Sourcing.{Route, source_value}
use Rattle.source_core.specs.Origins.{IsTold, IsLittleMore}
use Rattle.source_core.proofs.Visible.{above, visible, name-visible, subject-visible, all-weaker}

-- ---- numbers

all-true : {X : Type 0} (p : X → Bool) → ((x : X) → p x ≡ true) → (xs : List X) → list_all p xs ≡ true
all-true p holds [] = refl
all-true p holds (x ∷ xs) = and_from _ _ (holds x) (all-true p holds xs)

decimal-visible : (n : ℕ) → n < 2 ^ 64 → visible (decimal n) ≡ true
decimal-visible n fits =
    let P : Bool → Type 0 = λ t. ltb 0 n ≡ t → visible (decimal n) ≡ true in
    let go : (t : Bool) → P t = λ t. elim t as P [
      | true ↦ (λ e. ap visible (decimal-digits_of n (ltb-true 0 n e) fits) ∙ (list_all-map above (λ d. 48 + d) (digits_of 10 n) ∙ all-true (λ d. above (48 + d)) (λ d. lt-ltb 32 (48 + d) (omega arith)) (digits_of 10 n)))
      | false ↦ (λ e. let none : n ≡ 0 = omega (arith, ltb-false 0 n e) in rw none (ap visible (decimal_digit 0 (omega arith))))
    ] in
    go (ltb 0 n) refl

-- ---- legal values

-- a space, or a byte above it
abbrev is_inline : ℕ → Bool
is_inline b = nat_lt 31 b

abbrev inline : List ℕ → Bool
inline bs = list_all is_inline bs

not-equal : (a b : ℕ) → b < a → eqb a b ≡ false
not-equal a b less =
    let P : Bool → Type 0 = λ t. eqb a b ≡ t → t ≡ false in
    let go : (t : Bool) → P t = λ t. elim t as P [ true ↦ (λ e. absurd (omega (arith, less, eqb-true a b e))) | false ↦ (λ e. refl) ] in
    go (eqb a b) refl

visible-inline : (bs : List ℕ) → visible bs ≡ true → inline bs ≡ true
visible-inline bs e = all-weaker above is_inline (λ b h. lt-ltb 31 b (omega (arith, ltb-true 32 b h))) bs e

inline-line : (bs : List ℕ) → inline bs ≡ true → is_line_text bs ≡ true
inline-line bs e =
    all-weaker is_inline is_line_byte (λ b h. let high = ltb-true 31 b h in and_from _ _ (ap not (not-equal b 13 (omega (arith, high)))) (ap not (not-equal b 10 (omega (arith, high))))) bs e

above-filled : (b : ℕ) → above b ≡ true → is_blank b ≡ false
above-filled b h =
    let high = ltb-true 32 b h in
    rw (not-equal b 32 high, not-equal b 9 (omega (arith, high))) refl

before-long : (b : ℕ) (bs : List ℕ) → 0 < length bs → before_trimmed b bs ≡ b ∷ bs
before-long b [] long = absurd (omega (arith, long))
before-long b (c ∷ cs) long = refl

trim_end-visible : (bs : List ℕ) → visible bs ≡ true → trim_end bs ≡ bs
trim_end-visible [] e = refl
trim_end-visible (b ∷ []) e = ap (λ t. cond t [] (b ∷ [])) (above-filled b (and_parts _ _ e).0)
trim_end-visible (b ∷ c ∷ cs) e = ap (before_trimmed b) (trim_end-visible (c ∷ cs) (and_parts _ _ e).1)

trim_end-append : (xs ys : List ℕ) → trim_end ys ≡ ys → 0 < length ys → trim_end (xs ++ ys) ≡ xs ++ ys
trim_end-append [] ys e long = e
trim_end-append (x ∷ xs) ys e long =
    ap (before_trimmed x) (trim_end-append xs ys e long) ∙ before-long x (xs ++ ys) (omega (arith, length-append xs ys, long))

trim_start-visible : (xs ys : List ℕ) → visible xs ≡ true → 0 < length xs → trim_start (xs ++ ys) ≡ xs ++ ys
trim_start-visible [] ys e long = absurd (omega (arith, long))
trim_start-visible (x ∷ xs) ys e long = ap (λ t. cond t (trim_start (xs ++ ys)) (x ∷ (xs ++ ys))) (above-filled x (and_parts _ _ e).0)

-- a text that begins and ends in a word, with bytes of a line between them
words-legal : (first between last : List ℕ) → visible first ≡ true → 0 < length first → inline between ≡ true → visible last ≡ true → 0 < length last → is_header_value (first ++ (between ++ last)) ≡ true
words-legal first between last f long b l end =
    let rest_inline = list_all-append is_inline between last ∙ and_from _ _ b (visible-inline last l) in
    let all_inline = list_all-append is_inline first (between ++ last) ∙ and_from _ _ (visible-inline first f) rest_inline in
    let tail_end = trim_end-append between last (trim_end-visible last l) end in
    let whole_end = trim_end-append first (between ++ last) tail_end (omega (arith, length-append between last, end)) in
    let same : trimmed (first ++ (between ++ last)) ≡ first ++ (between ++ last) = ap trim_end (trim_start-visible first (between ++ last) f long) ∙ whole_end in
    and_from _ _ (inline-line (first ++ (between ++ last)) all_inline) ((bytes_eq-Decides (trimmed (first ++ (between ++ last))) (first ++ (between ++ last))).1 same)

inline-word : (word behind : List ℕ) → visible word ≡ true → inline behind ≡ true → inline (word ++ 32 ∷ behind) ≡ true
inline-word word behind w b = list_all-append is_inline word (32 ∷ behind) ∙ and_from _ _ (visible-inline word w) b

token-long : (t : List ℕ) → is_subject t ≡ true → 0 < length t
token-long [] e = absurd (false≢true (and_parts _ _ e).1)
token-long (b ∷ bs) e = omega arith

name-long : (name : List ℕ) → is_name name ≡ true → 0 < length name
name-long name e = ltb-true 0 _ (and_parts _ _ (and_parts _ _ e).0).0

pub value-legal : (want : Origin) (r : Route) (subject : List ℕ) (seq : ℕ) → IsTrue (is_name want.stream) → IsTold r → IsTrue (is_subject subject) → seq < 2 ^ 64 → IsTrue (is_header_value (source_value want r subject seq))
value-legal want r subject seq name told legal fits =
    let behind = 32 ∷ (decimal seq ++ 32 ∷ (r.filter ++ 32 ∷ (r.dest ++ 32 ∷ []))) in
    let inlined : inline behind ≡ true = inline-word (decimal seq) (r.filter ++ 32 ∷ (r.dest ++ 32 ∷ [])) (decimal-visible seq fits) (inline-word r.filter (r.dest ++ 32 ∷ []) told.filter.visible (inline-word r.dest [] told.dest.visible refl)) in
    let grouped : behind ++ subject ≡ 32 ∷ (decimal seq ++ 32 ∷ (r.filter ++ 32 ∷ (r.dest ++ 32 ∷ subject))) = simp append_assoc in
    subst (λ text. is_header_value (want.stream ++ text) ≡ true) grouped (words-legal want.stream behind subject (name-visible want.stream name) (name-long want.stream name) inlined (subject-visible subject legal) (token-long subject legal))

length-word : (word behind : List ℕ) → length (word ++ 32 ∷ behind) ≡ length word + length behind + 1
length-word word behind = omega (arith, length-append word (32 ∷ behind))

pub value-short : (want : Origin) (r : Route) (subject : List ℕ) (seq : ℕ) → IsTrue (is_name want.stream) → IsTold r → IsTrue (is_subject subject) → seq < 2 ^ 64 → length (source_value want r subject seq) ≤ 3200
value-short want r subject seq name told legal fits =
    let a = r.dest ++ 32 ∷ subject in
    let b = r.filter ++ 32 ∷ a in
    let c = decimal seq ++ 32 ∷ b in
    omega (
      arith,
      length-word want.stream c,
      length-word (decimal seq) b,
      length-word r.filter a,
      length-word r.dest subject,
      length-decimal-le 20 seq (omega arith) (omega (arith, fits)) fits,
      leb-true (length want.stream) 64 (and_parts _ _ (and_parts _ _ name).0).1,
      leb-true (length subject) 1024 (and_parts _ _ (and_parts _ _ legal).0).0,
      told.filter.short,
      told.dest.short,
    )

-- ---- how much a message grows

length-line : (p : Pair) → length (pair_line p) ≡ length p.name + length p.value + 4
length-line p =
    omega (
      arith,
      length-append (p.name ++ (58 ∷ 32 ∷ p.value)) crlf,
      length-append p.name (58 ∷ 32 ∷ p.value),
      length-append p.name (58 ∷ 32 ∷ (p.value ++ crlf)),
      length-append p.value crlf,
    )

length-one : (p : Pair) → length (flat_map pair_line (p ∷ [])) ≡ length (pair_line p)
length-one p = ap length (flat_map-cons pair_line p []) ∙ (length-append (pair_line p) [] ∙ omega arith)

lines-fewer : (keep : Pair → Bool) (pairs : List Pair) → length (flat_map pair_line (filter keep pairs)) ≤ length (flat_map pair_line pairs)
lines-fewer keep [] = omega arith
lines-fewer keep (p ∷ ps) =
    let all = flat_map-cons pair_line p ps in
    let fewer = lines-fewer keep ps in
    let P : Bool → Type 0 = λ t. length (flat_map pair_line (cond t (p ∷ filter keep ps) (filter keep ps))) ≤ length (flat_map pair_line (p ∷ ps)) in
    elim (keep p) as P [
      | true ↦ rw (flat_map-cons pair_line p (filter keep ps), all) (omega (arith, fewer, length-append (pair_line p) (flat_map pair_line (filter keep ps)), length-append (pair_line p) (flat_map pair_line ps)))
      | false ↦ rw all (omega (arith, fewer, length-append (pair_line p) (flat_map pair_line ps)))
    ]

length-kept : (b : Bool) (bytes : List ℕ) → length (cond b [] bytes) ≤ length bytes
length-kept true bytes = omega arith
length-kept false bytes = omega arith

length-lines : (first behind : List ℕ) → length (first ++ crlf ++ behind ++ crlf) ≡ length first + length behind + 4
length-lines first behind = omega (arith, length-append (first ++ crlf ++ behind) crlf, length-append (first ++ crlf) behind, length-append first crlf)

length-block : (block : HeaderBlock) → length (block_lines block) ≡ length (first_text block.status) + length (flat_map pair_line block.pairs) + 4
length-block block = length-lines (first_text block.status) (flat_map pair_line block.pairs)

length-version : (status : Option (List ℕ)) → is_none status ≡ true → length (first_text status) ≡ 8
length-version None e = refl
length-version (Some status) e = absurd (false≢true e)

length-no_lines : (pairs : List Pair) → eqb (length pairs) 0 ≡ true → length (flat_map pair_line pairs) ≡ 0
length-no_lines [] e = refl
length-no_lines (p ∷ ps) e = absurd (omega (arith, eqb-true (length (p ∷ ps)) 0 e))

-- the lines of headers are at most 8 bytes longer than what is written of them
written-least : (block : HeaderBlock) → length (first_text block.status) + length (flat_map pair_line block.pairs) ≤ length (written block) + 8
written-least block =
    let P : Bool → Type 0 = λ t. has_none block ≡ t → length (first_text block.status) + length (flat_map pair_line block.pairs) ≤ length (cond t [] (block_lines block)) + 8 in
    let go : (t : Bool) → P t = λ t. elim t as P [
      | true ↦ (λ e. let h : (is_none block.status ≡ true) × (eqb (length block.pairs) 0 ≡ true) = and_parts _ _ e in omega (arith, length-version block.status h.0, length-no_lines block.pairs h.1))
      | false ↦ (λ e. omega (arith, length-block block))
    ] in
    go (has_none block) refl

written-more : (name value : List ℕ) (block : HeaderBlock) → length (written (with_value name value block)) ≤ length (written block) + length name + length value + 16
written-more name value block =
    let pair : Pair = record { name = name; value = value } in
    let others = other_pairs name block.pairs in
    let lines : length (flat_map pair_line (others ++ pair ∷ [])) ≡ length (flat_map pair_line others) + length (pair_line pair) =
    ap length (flat_map-append pair_line others (pair ∷ [])) ∙ (length-append (flat_map pair_line others) (flat_map pair_line (pair ∷ [])) ∙ ap (λ n. length (flat_map pair_line others) + n) (length-one pair)) in
    omega (
      arith,
      length-kept (has_none (with_value name value block)) (block_lines (with_value name value block)),
      length-block (with_value name value block),
      lines,
      lines-fewer (λ p. not (is_named name p)) block.pairs,
      length-line pair,
      written-least block,
    )

-- a message with such a header in its place
pub little-more : (name value subject : List ℕ) (m : Message) → length name ≤ 100 → length value ≤ 3200 → IsLittleMore m (record m { subject = subject; headers = with_value name value m.headers })
little-more name value subject m small short = omega (arith, small, short, written-more name value m.headers)
