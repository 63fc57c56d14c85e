-- The parts of a line between blanks, and its fields.
use Rattle.std.proofs.Common.{◌≡◌, ℕ, zero, suc, ◌+◌, ◌<◌, List, [], ◌∷◌, ◌++◌, length, take, drop, Bool, true, false, ◌&&◌, not, cond, nat_lt, Option, None, Some, refl, sym, ap, ◌∙◌, subst, arith, add-one, append-nil, append_assoc}
use Rattle.std.specs.Prelude.{MatchOption}
use Rattle.std.specs.List.{list_all, position_from}
use Rattle.std.proofs.lemmas.Bool.{false≢true, cond-true, cond-false, and_parts, and_from, not-true, lt-ltb}
use Rattle.nats_text.specs.Headers.{is_blank}
use Rattle.nats_text.specs.Pieces.{onto_first}
use Rattle.nats_frames.specs.Lines.{is_feed, has_no_feed}
use Rattle.nats_frames.specs.Fields.{parts, onto_filled, filled, fields, from_blank}
use Rattle.nats_frames.specs.Texts.{behind_spaces, worded}

-- ---- the first blank

-- a line is cut at place k
record IsCutAt (xs : List ℕ) (k : ℕ) : Type 0 where
  within : k < length xs
  cut : parts xs ≡ take k xs ∷ parts (drop (suc k) xs)

abbrev CutFrom : ℕ → List ℕ → Option ℕ → Type 0
CutFrom n xs place = MatchOption place (parts xs ≡ xs ∷ []) (λ at. (k : ℕ) × (at ≡ n + k) × IsCutAt xs k)

cut_later : (n x : ℕ) (xs : List ℕ) (place : Option ℕ) → is_blank x ≡ false → CutFrom (n + 1) xs place → CutFrom n (x ∷ xs) place
cut_later n x xs None e h = cond-false (is_blank x) ([] ∷ parts xs) (onto_first x (parts xs)) e ∙ ap (onto_first x) h
cut_later n x xs (Some at) e h = (
  suc h.0,
  omega (arith, h.1),
  record { within = omega (arith, h.2.within); cut = cond-false (is_blank x) ([] ∷ parts xs) (onto_first x (parts xs)) e ∙ ap (onto_first x) h.2.cut },
)

cut_here : (n x : ℕ) (xs : List ℕ) → is_blank x ≡ true → CutFrom n (x ∷ xs) (Some n)
cut_here n x xs e = (zero, omega arith, record { within = omega arith; cut = cond-true (is_blank x) ([] ∷ parts xs) (onto_first x (parts xs)) e })

cut_from : (n : ℕ) (xs : List ℕ) → CutFrom n xs (position_from is_blank n xs)
cut_from n [] = refl
cut_from n (x ∷ xs) =
    let P : Bool → Type 0 = λ b. is_blank x ≡ b → CutFrom n (x ∷ xs) (cond b (Some n) (position_from is_blank (n + 1) xs)) in
    let go : (b : Bool) → P b = λ b. elim b as P [ true ↦ (λ e. cut_here n x xs e) | false ↦ (λ e. cut_later n x xs (position_from is_blank (n + 1) xs) e (cut_from (n + 1) xs)) ] in
    go (is_blank x) refl

place_from : (xs : List ℕ) (place : Option ℕ) → CutFrom 0 xs place → MatchOption place (parts xs ≡ xs ∷ []) (λ at. (at < length xs) × (parts xs ≡ take at xs ∷ parts (drop (at + 1) xs)))
place_from xs None h = h
place_from xs (Some at) h =
    let e : h.0 ≡ at = omega (arith, h.1) in
    let cut = let P : ℕ → Type 0 = λ k. IsCutAt xs k in subst P e h.2 in
    (cut.within, rw add-one cut.cut)

pub at_blank : (xs : List ℕ) (place : Option ℕ) → place ≡ position_from is_blank 0 xs → MatchOption place (parts xs ≡ xs ∷ []) (λ at. (at < length xs) × (parts xs ≡ take at xs ∷ parts (drop (at + 1) xs)))
at_blank xs place e = let P : Option ℕ → Type 0 = λ p. CutFrom 0 xs p in place_from xs place (subst P (sym e) (cut_from 0 xs))

-- ---- parts that may be empty

pub onto_none : (part : List ℕ) (others : List (List ℕ)) → length part ≡ 0 → onto_filled part others ≡ others
onto_none [] others h = refl
onto_none (b ∷ bs) others h = absurd (omega (arith, h))

pub onto_one : (part : List ℕ) (others : List (List ℕ)) → 0 < length part → onto_filled part others ≡ part ∷ others
onto_one [] others h = absurd (omega arith)
onto_one (b ∷ bs) others h = refl

pub onto_is_append : (part : List ℕ) (others : List (List ℕ)) → onto_filled part others ≡ onto_filled part [] ++ others
onto_is_append [] others = refl
onto_is_append (b ∷ bs) others = refl

-- ---- the fields of a line that is written

-- a byte that is neither a blank nor an LF
abbrev pub is_field_byte : ℕ → Bool
is_field_byte b = not (is_blank b) && not (is_feed b)

-- what may be a field
abbrev pub is_field : List ℕ → Bool
is_field field = nat_lt 0 (length field) && list_all is_field_byte field

parts_at : (w rest : List ℕ) → list_all is_field_byte w ≡ true → parts (w ++ 32 ∷ rest) ≡ w ∷ parts rest
parts_at [] rest h = refl
parts_at (b ∷ bs) rest h =
    let p = and_parts (is_field_byte b) (list_all is_field_byte bs) h in
    let blank : is_blank b ≡ false = not-true (is_blank b) (and_parts (not (is_blank b)) (not (is_feed b)) p.0).0 in
    cond-false (is_blank b) ([] ∷ parts (bs ++ 32 ∷ rest)) (onto_first b (parts (bs ++ 32 ∷ rest))) blank ∙ ap (onto_first b) (parts_at bs rest p.1)

parts_alone : (w : List ℕ) → list_all is_field_byte w ≡ true → parts w ≡ w ∷ []
parts_alone [] h = refl
parts_alone (b ∷ bs) h =
    let p = and_parts (is_field_byte b) (list_all is_field_byte bs) h in
    let blank : is_blank b ≡ false = not-true (is_blank b) (and_parts (not (is_blank b)) (not (is_feed b)) p.0).0 in
    cond-false (is_blank b) ([] ∷ parts bs) (onto_first b (parts bs)) blank ∙ ap (onto_first b) (parts_alone bs p.1)

filled_one : (w : List ℕ) (others : List (List ℕ)) → is_field w ≡ true → onto_filled w others ≡ w ∷ others
filled_one [] others h = absurd (false≢true h)
filled_one (b ∷ bs) others h = refl

-- an operation before a space is the first field
pub first_field : (w rest : List ℕ) → is_field w ≡ true → fields (w ++ 32 ∷ rest) ≡ w ∷ fields rest
first_field w rest h =
    let p = and_parts (nat_lt 0 (length w)) (list_all is_field_byte w) h in
    ap filled (parts_at w rest p.1) ∙ filled_one w (fields rest) h

pub fields_worded : (w : List ℕ) (fs : List (List ℕ)) → is_field w ≡ true → list_all is_field fs ≡ true → fields (worded w fs) ≡ w ∷ fs
fields_worded w [] h all =
    let p = and_parts (nat_lt 0 (length w)) (list_all is_field_byte w) h in
    ap fields (append-nil w) ∙ (ap filled (parts_alone w p.1) ∙ filled_one w [] h)
fields_worded w (f ∷ fs) h all =
    let p = and_parts (is_field f) (list_all is_field fs) all in
    first_field w (worded f fs) h ∙ ap (λ xs. w ∷ xs) (fields_worded f fs p.0 p.1)

-- ---- what stands behind the first field

pub behind_field : (w rest : List ℕ) → list_all is_field_byte w ≡ true → from_blank (w ++ 32 ∷ rest) ≡ 32 ∷ rest
behind_field [] rest h = refl
behind_field (b ∷ bs) rest h =
    let p = and_parts (is_field_byte b) (list_all is_field_byte bs) h in
    let blank : is_blank b ≡ false = not-true (is_blank b) (and_parts (not (is_blank b)) (not (is_feed b)) p.0).0 in
    cond-false (is_blank b) (b ∷ (bs ++ 32 ∷ rest)) (from_blank (bs ++ 32 ∷ rest)) blank ∙ behind_field bs rest p.1

-- ---- a written line has no LF

pub no_feed_field : (w : List ℕ) → list_all is_field_byte w ≡ true → has_no_feed w ≡ true
no_feed_field [] h = refl
no_feed_field (b ∷ bs) h =
    let p = and_parts (is_field_byte b) (list_all is_field_byte bs) h in
    and_from (not (is_feed b)) (has_no_feed bs) (and_parts (not (is_blank b)) (not (is_feed b)) p.0).1 (no_feed_field bs p.1)

pub no_feed_append : (a b : List ℕ) → has_no_feed a ≡ true → has_no_feed b ≡ true → has_no_feed (a ++ b) ≡ true
no_feed_append [] b g h = h
no_feed_append (x ∷ a) b g h =
    let p = and_parts (not (is_feed x)) (has_no_feed a) g in
    and_from (not (is_feed x)) (has_no_feed (a ++ b)) p.0 (no_feed_append a b p.1 h)

no_feed_spaces : (fs : List (List ℕ)) → list_all is_field fs ≡ true → has_no_feed (behind_spaces fs) ≡ true
no_feed_spaces [] h = refl
no_feed_spaces (f ∷ fs) h =
    let p = and_parts (is_field f) (list_all is_field fs) h in
    no_feed_append (32 ∷ f) (behind_spaces fs) (no_feed_field f (and_parts (nat_lt 0 (length f)) (list_all is_field_byte f) p.0).1) (no_feed_spaces fs p.1)

pub no_feed_worded : (w : List ℕ) (fs : List (List ℕ)) → is_field w ≡ true → list_all is_field fs ≡ true → has_no_feed (worded w fs) ≡ true
no_feed_worded w fs h all = no_feed_append w (behind_spaces fs) (no_feed_field w (and_parts (nat_lt 0 (length w)) (list_all is_field_byte w) h).1) (no_feed_spaces fs all)

-- ---- the fields of a line are fields

all_first : (b : ℕ) (ps : List (List ℕ)) → is_field_byte b ≡ true → list_all (λ p. list_all is_field_byte p) ps ≡ true → list_all (λ p. list_all is_field_byte p) (onto_first b ps) ≡ true
all_first b [] h all = and_from (list_all is_field_byte (b ∷ [])) true (and_from (is_field_byte b) true h refl) refl
all_first b (p ∷ ps) h all =
    let q = and_parts (list_all is_field_byte p) (list_all (λ x. list_all is_field_byte x) ps) all in
    and_from (list_all is_field_byte (b ∷ p)) (list_all (λ x. list_all is_field_byte x) ps) (and_from (is_field_byte b) (list_all is_field_byte p) h q.0) q.1

parts_are : (line : List ℕ) → has_no_feed line ≡ true → list_all (λ p. list_all is_field_byte p) (parts line) ≡ true
parts_are [] h = refl
parts_are (b ∷ bs) h =
    let p = and_parts (not (is_feed b)) (has_no_feed bs) h in
    let more = parts_are bs p.1 in
    let P : Bool → Type 0 = λ t. is_blank b ≡ t → list_all (λ p. list_all is_field_byte p) (cond t ([] ∷ parts bs) (onto_first b (parts bs))) ≡ true in
    let go : (t : Bool) → P t = λ t. elim t as P [
      | true ↦ (λ e. more)
      | false ↦ (λ e. all_first b (parts bs) (and_from (not (is_blank b)) (not (is_feed b)) (ap not e) p.0) more)
    ] in
    go (is_blank b) refl

filled_are : (ps : List (List ℕ)) → list_all (λ p. list_all is_field_byte p) ps ≡ true → list_all is_field (filled ps) ≡ true
filled_are [] h = refl
filled_are ([] ∷ ps) h = filled_are ps h
filled_are ((b ∷ bs) ∷ ps) h =
    let p = and_parts (list_all is_field_byte (b ∷ bs)) (list_all (λ x. list_all is_field_byte x) ps) h in
    and_from (is_field (b ∷ bs)) (list_all is_field (filled ps)) (and_from (nat_lt 0 (length (b ∷ bs))) (list_all is_field_byte (b ∷ bs)) (lt-ltb 0 (length (b ∷ bs)) (omega arith)) p.0) (filled_are ps p.1)

pub fields_are : (line : List ℕ) → has_no_feed line ≡ true → list_all is_field (fields line) ≡ true
fields_are line h = filled_are (parts line) (parts_are line h)

-- ---- fields that are read one after another

pub fields_more : (found new : List (List ℕ)) (part rest behind line : List ℕ) → parts rest ≡ part ∷ parts behind → new ≡ found ++ onto_filled part [] → found ++ fields rest ≡ fields line → new ++ fields behind ≡ fields line
fields_more found new part rest behind line h e kept =
    ap (λ n. n ++ fields behind) e ∙ (append_assoc found (onto_filled part []) (fields behind)
    ∙ (ap (λ x. found ++ x) (sym (onto_is_append part (fields behind)) ∙ sym (ap filled h)) ∙ kept))

pub fields_last : (found new : List (List ℕ)) (rest line : List ℕ) → parts rest ≡ rest ∷ [] → new ≡ found ++ onto_filled rest [] → found ++ fields rest ≡ fields line → new ≡ fields line
fields_last found new rest line h e kept = e ∙ (ap (λ x. found ++ x) (sym (ap filled h)) ∙ kept)
