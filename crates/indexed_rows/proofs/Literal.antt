-- Patterns without wildcards, and the first rows of a subject.
use Rattle.std.proofs.Common.{◌≡◌, ℕ, suc, ◌<◌, ◌≤◌, Bool, true, false, cond, not, ◌&&◌, eqb, ltb, List, [], ◌∷◌, Option, Some, None, inl, inr, refl, sym, ap, subst, ◌∙◌, arith, length}
use Rattle.std.specs.Prelude.{filter, slice_get}
use Rattle.std.specs.List.{list_all, slice_split, join_with_byte}
use Rattle.std.specs.Str.{bytes_eq}
use Rattle.std.proofs.lemmas.Bool.{cases_Bool, and_parts, and_from, and_right, and_left, false_from_ne_true, both_ways, not_from_false, not_from_true, le-ltb, lt-ltb, ltb-true, ltb-false, eq-eqb}
use Rattle.std.proofs.lemmas.List.Splits.{join_with_byte-slice_split}
use Rattle.std.proofs.lemmas.Option.{same_Some}
use Rattle.std.proofs.lemmas.Slice.Eq.{bytes_eq-Decides}
use Rattle.nats_text.specs.Laws.{MatchesItselfAlone}
use Rattle.nats_text.specs.Matching.{matches}
use Rattle.nats_text.specs.Pieces.{pieces, onto_first}
use Rattle.nats_text.specs.Text.{tokens, star, tail, is_token, is_literal_token, is_subject, are_pattern_tokens, is_pattern}
use Rattle.stream_fold.specs.declared.entry.Numbered.{Numbered}
use Rattle.stream_fold.specs.Histories.{is_purged}
use Rattle.stream_fold.specs.RowLists.{EachRow, Rises, seqs}
use Rattle.stream_fold.proofs.KeptRows.{EachRow-weaker}
use Rattle.indexed_rows.specs.Indexes.{is_of, seq_in, below_in, is_plain}
use Rattle.indexed_rows.proofs.RowLemmas.{none_below, first_least}
use Rattle.indexed_rows.proofs.Walks.{without, same_kept, filter_all, length_cond, length_most}

-- ---- tokens

pieces_are : (c : ℕ) (bs : List ℕ) → pieces c bs ≡ slice_split (λ b. eqb b c) bs
pieces_are c [] = refl
pieces_are c (b ∷ bs) = elim (cases_Bool (eqb b c)) [
  | inl here ↦ rw here (ap (λ (ps : List (List ℕ)). [] ∷ ps) (pieces_are c bs))
  | inr other ↦ rw other (rw (pieces_are c bs) refl)
]

tokens_tell : (a b : List ℕ) → tokens a ≡ tokens b → a ≡ b
tokens_tell a b h =
    sym (join_with_byte-slice_split 46 a) ∙ (ap (λ ps. join_with_byte 46 ps) (sym (pieces_are 46 a) ∙ (h ∙ pieces_are 46 b)) ∙ join_with_byte-slice_split 46 b)

plain_first : (c b : ℕ) (bs : List ℕ) → is_plain b ≡ true → list_all (λ t. list_all is_plain t) (pieces c bs) ≡ true → list_all (λ t. list_all is_plain t) (pieces c (b ∷ bs)) ≡ true
plain_first c b bs h k = elim (cases_Bool (eqb b c)) [
  | inl here ↦ rw here k
  | inr other ↦ rw other (onto b (pieces c bs) h k)
]
  where
    onto : (b : ℕ) (ps : List (List ℕ)) → is_plain b ≡ true → list_all (λ t. list_all is_plain t) ps ≡ true → list_all (λ t. list_all is_plain t) (onto_first b ps) ≡ true
    onto b [] h k = rw h refl
    onto b (p ∷ ps) h k = rw h k

plain_pieces : (c : ℕ) (bs : List ℕ) → list_all is_plain bs ≡ true → list_all (λ t. list_all is_plain t) (pieces c bs) ≡ true
plain_pieces c [] h = refl
plain_pieces c (b ∷ bs) h = let q = and_parts (is_plain b) (list_all is_plain bs) h in plain_first c b bs q.0 (plain_pieces c bs q.1)

unlike : (t u : List ℕ) → list_all is_plain t ≡ true → list_all is_plain u ≡ false → not (bytes_eq t u) ≡ true
unlike t u h k = not_from_false (bytes_eq t u) (false_from_ne_true (bytes_eq t u) (λ e. both_ways (list_all is_plain u) k (subst (λ (x : List ℕ). list_all is_plain x ≡ true) ((bytes_eq-Decides t u).0 e) h)))

token_literal : (t : List ℕ) → is_token t ≡ true → list_all is_plain t ≡ true → is_literal_token t ≡ true
token_literal t h k = and_from (is_token t && not (bytes_eq t star)) (not (bytes_eq t tail)) (and_from (is_token t) (not (bytes_eq t star)) h (unlike t star k refl)) (unlike t tail k refl)

tokens_literal : (ts : List (List ℕ)) → are_pattern_tokens ts ≡ true → list_all (λ t. list_all is_plain t) ts ≡ true → list_all is_literal_token ts ≡ true
tokens_literal [] h k = refl
tokens_literal (t ∷ []) h k = let q = and_parts (list_all is_plain t) true k in and_from (is_literal_token t) true (token_literal t h q.0) refl
tokens_literal (t ∷ u ∷ ts) h k =
    let q = and_parts (list_all is_plain t) (list_all (λ x. list_all is_plain x) (u ∷ ts)) k in
    let p = and_parts (is_token t && not (bytes_eq t tail)) (are_pattern_tokens (u ∷ ts)) h in
    and_from (is_literal_token t) (list_all is_literal_token (u ∷ ts)) (token_literal t (and_parts (is_token t) (not (bytes_eq t tail)) p.0).0 q.0) (tokens_literal (u ∷ ts) p.1 q.1)

-- a pattern without wildcards matches the subject of its own text alone
pub literal : (p : List ℕ) → is_pattern p ≡ true → list_all is_plain p ≡ true → MatchesItselfAlone → (s : List ℕ) → matches p s ≡ bytes_eq s p
literal p legal plain law s =
    let parts = and_parts _ (are_pattern_tokens (tokens p)) legal in
    let is : is_subject p ≡ true = and_from _ (list_all is_literal_token (tokens p)) parts.0 (tokens_literal (tokens p) parts.1 (plain_pieces 46 p plain)) in
    let alone = law p (tokens s) is in
    elim (cases_Bool (bytes_eq s p)) [
      | inl same ↦ alone.1 (ap (λ (x : List ℕ). tokens x) ((bytes_eq-Decides s p).0 same)) ∙ sym same
      | inr other ↦ false_from_ne_true (matches p s) (λ m. both_ways (bytes_eq s p) other ((bytes_eq-Decides s p).1 (tokens_tell s p (alone.0 m)))) ∙ sym other
    ]

-- ---- the first rows of a subject

first_is : (low n : ℕ) (s : List ℕ) (rows : List Numbered) → Rises low (seqs rows) → seq_in (slice_get (filter (is_of s) rows) 0) ≡ Some n → EachRow (λ r. r.seq ≡ n → is_of s r ≡ true) rows
first_is low n s [] h first = tt
first_is low n s (row ∷ rows) h first = elim (cases_Bool (is_of s row)) [
  | inl here ↦ (let e = same_Some row.seq n (rw here at first) in ((λ _. here), none_below (λ r. is_of s r ≡ true) n (suc row.seq) rows (omega (arith, e)) h.1))
  | inr other ↦ (let q = first_least (suc row.seq) n s rows h.1 (rw other at first) in ((λ e. absurd (omega (arith, e, q))), first_is (suc row.seq) n s rows h.1 (rw other at first)))
]

first_shorter : (low n : ℕ) (s : List ℕ) (rows : List Numbered) → Rises low (seqs rows) → seq_in (slice_get (filter (is_of s) rows) 0) ≡ Some n → length (without n rows) < length rows
first_shorter low n s [] h first = absurd (cc)
first_shorter low n s (row ∷ rows) h first = elim (cases_Bool (is_of s row)) [
  | inl here ↦ (let e = same_Some row.seq n (rw here at first) in rw (eq-eqb row.seq n e) (let most = length_most (λ r. not (eqb r.seq n)) rows in omega (arith, most)))
  | inr other ↦ (let ih = first_shorter (suc row.seq) n s rows h.1 (rw other at first) in let q = length_cond (not (eqb row.seq n)) row (without n rows) in omega (arith, ih, q))
]

each_behind : (below low : ℕ) (s : List ℕ) (rows : List Numbered) → Rises low (seqs rows) → below ≤ low → EachRow (λ r. is_of s r ≡ true → below ≤ r.seq) rows
each_behind below low s [] h le = tt
each_behind below low s (row ∷ rows) h le = (let q = h.0 in ((λ _. omega (arith, q, le)), each_behind below (suc row.seq) s rows h.1 (omega (arith, q, le))))

none_under : (below low : ℕ) (s : List ℕ) (rows : List Numbered) → Rises low (seqs rows) → below_in below (seq_in (slice_get (filter (is_of s) rows) 0)) ≡ None → EachRow (λ r. is_of s r ≡ true → below ≤ r.seq) rows
none_under below low s [] h first = tt
none_under below low s (row ∷ rows) h first = elim (cases_Bool (is_of s row)) [
  | inl here ↦ under (ltb row.seq below) refl (rw here at first)
  | inr other ↦ ((λ e. absurd (both_ways (is_of s row) other e)), none_under below (suc row.seq) s rows h.1 (rw other at first))
]
  where
    under : (b : Bool) → ltb row.seq below ≡ b → cond (ltb row.seq below) (Some row.seq) None ≡ None → EachRow (λ r. is_of s r ≡ true → below ≤ r.seq) (row ∷ rows)
    under true e q = absurd (let z = rw e at q in cc)
    under false e q = (let le = ltb-false row.seq below e in ((λ _. le), each_behind below (suc row.seq) s rows h.1 (omega (arith, le))))

below_cases : (below n : ℕ) (o : Option ℕ) → below_in below o ≡ Some n → (o ≡ Some n) × (n < below)
below_cases below n None h = absurd (cc)
below_cases below n (Some k) h = elim (cases_Bool (ltb k below)) [
  | inl here ↦ (let e = same_Some k n (rw here at h) in (ap (λ (x : ℕ). Some x) e, (let lt = ltb-true k below here in omega (arith, e, lt))))
  | inr other ↦ absurd (let z = rw other at h in cc)
]

pub subject_step : (p : List ℕ) (below n : ℕ) (rows : List Numbered) → Rises 0 (seqs rows) → ((s : List ℕ) → matches p s ≡ bytes_eq s p) → below_in below (seq_in (slice_get (filter (is_of p) rows) 0)) ≡ Some n → (filter (λ row. not (is_purged p below row)) (without n rows) ≡ filter (λ row. not (is_purged p below row)) rows) × (length (without n rows) < length rows)
subject_step p below n rows h alone first =
    let q = below_cases below n (seq_in (slice_get (filter (is_of p) rows) 0)) first in (
      same_kept (λ row. not (is_purged p below row)) n rows (EachRow-weaker (λ r. r.seq ≡ n → is_of p r ≡ true) (λ r. r.seq ≡ n → not (is_purged p below r) ≡ false) (λ r mine e.
          let lt = q.1 in
          not_from_true (is_purged p below r) (and_from (ltb r.seq below) (matches p r.message.subject) (lt-ltb r.seq below (omega (arith, e, lt))) (alone r.message.subject ∙ mine e))) rows (first_is 0 n p rows h q.0)),
      first_shorter 0 n p rows h q.0,
    )

pub subject_end : (p : List ℕ) (below : ℕ) (rows : List Numbered) → Rises 0 (seqs rows) → ((s : List ℕ) → matches p s ≡ bytes_eq s p) → below_in below (seq_in (slice_get (filter (is_of p) rows) 0)) ≡ None → rows ≡ filter (λ row. not (is_purged p below row)) rows
subject_end p below rows h alone first = filter_all (λ row. not (is_purged p below row)) rows (EachRow-weaker (λ r. is_of p r ≡ true → below ≤ r.seq) (λ r. not (is_purged p below r) ≡ true) (λ r behind. elim (cases_Bool (is_of p r)) [
  | inl here ↦ not_from_false (is_purged p below r) (and_left (ltb r.seq below) (matches p r.message.subject) (le-ltb r.seq below (behind here)))
  | inr other ↦ not_from_false (is_purged p below r) (and_right (ltb r.seq below) (matches p r.message.subject) (alone r.message.subject ∙ other))
]) rows (none_under below 0 p rows h first))
