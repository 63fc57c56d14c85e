-- The newest rows of each subject, found in one walk.
use Rattle.std.proofs.Common.{◌≡◌, ◌≢◌, ℕ, suc, ◌<◌, ◌≤◌, ◌+◌, Bool, true, false, cond, not, eqb, leb, List, [], ◌∷◌, Option, Some, None, inl, inr, ◌⊎◌, refl, sym, ap, subst, ◌∙◌, arith, length}
use Rattle.std.specs.Prelude.{filter, count_by}
use Rattle.std.specs.Map.{keys_of}
use Rattle.std.specs.Cmp.Lexicographic.{nat_list_eq_equiv}
use Rattle.std.specs.Str.{bytes_eq}
use Rattle.std.proofs.lemmas.Bool.{cases_eq, eq-eqb, ne_eqb, le-leb, lt-leb, leb-true, ltb-true, ltb-false, false_from_ne_true}
use Rattle.std.proofs.lemmas.List.Sums.{sum_by-cons, length-filter}
use Rattle.std.proofs.lemmas.Option.{same_Some}
use Rattle.std.proofs.lemmas.Slice.Eq.{bytes_eq-Decides}
use Rattle.nats_text.specs.declared.message.Message.{Message}
use Rattle.stream_fold.specs.declared.entry.Numbered.{Numbered}
use Rattle.stream_fold.specs.Histories.{newest_of_each, has_subject_of, message_at}
use Rattle.stream_fold.specs.RowLists.{EachRow, Rises, seqs}
use Rattle.stream_fold.proofs.KeptRows.{EachRow-weaker, each_from_none}
use Rattle.indexed_rows.specs.Entries.{number_from, value_at}
use Rattle.indexed_rows.specs.Indexes.{rows_of, is_of, has_at_most, too_many}
use Rattle.indexed_rows.proofs.RowLemmas.{only_at, message_at-items}
use Rattle.indexed_rows.proofs.Walks.{PassBelow, without, without_front, same_kept, each_left, pass_to, pass_on, pass_each, none_past}

count_cons : (q : Numbered → Bool) (row : Numbered) (rows : List Numbered) → count_by q (row ∷ rows) ≡ cond (q row) 1 0 + count_by q rows
count_cons q row rows = sum_by-cons (λ (x : Numbered). cond (q x) 1 0) row rows

count_cond : (b : Bool) (q : Numbered → Bool) (row : Numbered) (rows : List Numbered) (n : ℕ) → count_by q rows ≤ n → count_by q (cond b (row ∷ rows) rows) ≤ cond (q row) 1 0 + n
count_cond true q row rows n h = omega (arith, h, count_cons q row rows)
count_cond false q row rows n h = omega (arith, h)

count_less : (q p : Numbered → Bool) (rows : List Numbered) → count_by q (filter p rows) ≤ count_by q rows
count_less q p [] = omega arith
count_less q p (row ∷ rows) =
    let h : count_by q (cond (p row) (row ∷ filter p rows) (filter p rows)) ≤ cond (q row) 1 0 + count_by q rows = count_cond (p row) q row (filter p rows) (count_by q rows) (count_less q p rows) in
    subst (λ (n : ℕ). count_by q (cond (p row) (row ∷ filter p rows) (filter p rows)) ≤ n) (sym (count_cons q row rows)) h

-- with fewer rows there are no more of a subject
fall_left : (most n : ℕ) (old new : List Numbered) → (new ≡ old) ⊎ (new ≡ without n old) → (r : Numbered) → has_at_most most old r ≡ true → has_at_most most new r ≡ true
fall_left most n old new left r h = elim left [
  | inl all ↦ subst (λ (rs : List Numbered). has_at_most most rs r ≡ true) (sym all) h
  | inr fewer ↦ subst (λ (rs : List Numbered). has_at_most most rs r ≡ true) (sym fewer)
      (let less = count_less (has_subject_of r) (λ row. not (eqb row.seq n)) old in
      let le = leb-true (count_by (has_subject_of r) old) most h in
      le-leb (count_by (has_subject_of r) (without n old)) most (omega (arith, less, le)))
]

pub keep_walked : (most k n : ℕ) (items items' : List (ℕ × Message)) → Rises 0 (keys_of items) → number_from k items ≡ Some n → PassBelow (has_at_most most (rows_of items)) k (rows_of items) → (rows_of items' ≡ rows_of items) ⊎ (rows_of items' ≡ without n (rows_of items)) → EachRow (λ r. r.seq ≡ n → has_at_most most (rows_of items') r ≡ true) (rows_of items') → PassBelow (has_at_most most (rows_of items')) (n + 1) (rows_of items')
keep_walked most k n items items' r h pass left here =
    let p : Numbered → Bool = has_at_most most (rows_of items) in
    let p' : Numbered → Bool = has_at_most most (rows_of items') in
    pass_on p' n (rows_of items')
    (EachRow-weaker (λ x. x.seq < n → p x ≡ true) (λ x. x.seq < n → p' x ≡ true) (λ x f lt. fall_left most n (rows_of items) (rows_of items') left x (f lt)) (rows_of items')
    (each_left (λ x. x.seq < n → p x ≡ true) n (rows_of items) (rows_of items') left (pass_to p k n items r h pass)))
    here

-- ---- the row that is looked at stays

within_at : (most n : ℕ) (whole rows : List Numbered) (o : Option Message) → Rises 0 (seqs rows) → message_at n rows ≡ o → too_many most whole o ≡ false → EachRow (λ r. r.seq ≡ n → has_at_most most whole r ≡ true) rows
within_at most n whole rows None r at h = EachRow-weaker (λ x. x.seq ≢ n) (λ x. x.seq ≡ n → has_at_most most whole x ≡ true) (λ x ne e. absurd (ne e)) rows (each_from_none rows n at)
within_at most n whole rows (Some m) r at h =
    EachRow-weaker (λ x. x.seq ≡ n → x.message ≡ m) (λ x. x.seq ≡ n → has_at_most most whole x ≡ true)
    (λ x is e. ap (λ (y : Message). leb (count_by (is_of y.subject) whole) most) (is e) ∙ le-leb (count_by (is_of m.subject) whole) most (ltb-false most (count_by (is_of m.subject) whole) h))
    rows (only_at n 0 rows m r at)

pub keeps : (most n : ℕ) (rows : List Numbered) (b : Bool) → Rises 0 (seqs rows) → b ≡ too_many most rows (message_at n rows) → b ≡ false → EachRow (λ r. r.seq ≡ n → has_at_most most rows r ≡ true) rows
keeps most n rows b r told h = within_at most n rows rows (message_at n rows) r refl (sym told ∙ h)

-- ---- the row that is looked at goes

message_low : (low n : ℕ) (rows : List Numbered) (m : Message) → Rises low (seqs rows) → message_at n rows ≡ Some m → low ≤ n
message_low low n [] m r h = absurd (cc)
message_low low n (row ∷ rows) m r h = elim (cases_eq row.seq n) [
  | inl same ↦ (let le = r.0 in omega (arith, same, le))
  | inr other ↦ (let q = message_low (suc row.seq) n rows m r.1 (rw (ne_eqb row.seq n other) at h) in let le = r.0 in omega (arith, q, le))
]

same_count : (q : Numbered → Bool) (n : ℕ) (rows : List Numbered) → EachRow (λ r. r.seq ≡ n → q r ≡ false) rows → count_by q (without n rows) ≡ count_by q rows
same_count q n rows h = sym (length-filter q (without n rows)) ∙ (ap (λ (rs : List Numbered). length rs) (same_kept q n rows h) ∙ length-filter q rows)

first_goes : (most n low : ℕ) (rows : List Numbered) (m : Message) → Rises low (seqs rows) → message_at n rows ≡ Some m → EachRow (λ r. r.seq < n → is_of m.subject r ≡ false) rows → most < count_by (is_of m.subject) rows → newest_of_each most (without n rows) ≡ newest_of_each most rows
first_goes most n low [] m r at before more = absurd (cc)
first_goes most n low (row ∷ rows) m r at before more = elim (cases_eq row.seq n) [
  | inl same ↦
      (let is : row.message ≡ m = same_Some row.message m (rw (eq-eqb row.seq n same) at at) in
      let left : without n (row ∷ rows) ≡ rows = subst (λ (k : ℕ). without k (row ∷ rows) ≡ rows) same (without_front low row rows r) in
      let mine : count_by (is_of m.subject) (row ∷ rows) ≡ 1 + count_by (is_of m.subject) rows = count_cons (is_of m.subject) row rows ∙ ap (λ (b : Bool). cond b 1 0 + count_by (is_of m.subject) rows) (ap (λ (x : Message). bytes_eq x.subject m.subject) is ∙ (bytes_eq-Decides m.subject m.subject).1 refl) in
      let many : leb most (count_by (has_subject_of row) rows) ≡ true = ap (λ (x : Message). leb most (count_by (is_of x.subject) rows)) is ∙ le-leb most (count_by (is_of m.subject) rows) (omega (arith, mine, more)) in
      ap (λ (rs : List Numbered). newest_of_each most rs) left ∙ rw many refl)
  | inr other ↦
      (let at' : message_at n rows ≡ Some m = rw (ne_eqb row.seq n other) at at in
      let low' = message_low (suc row.seq) n rows m r.1 at' in
      let apart : is_of m.subject row ≡ false = before.0 (omega (arith, low')) in
      let less : count_by (is_of m.subject) (row ∷ rows) ≡ 0 + count_by (is_of m.subject) rows = count_cons (is_of m.subject) row rows ∙ ap (λ (b : Bool). cond b 1 0 + count_by (is_of m.subject) rows) apart in
      let ih = first_goes most n (suc row.seq) rows m r.1 at' before.1 (omega (arith, less, more)) in
      let counts : count_by (has_subject_of row) (without n rows) ≡ count_by (has_subject_of row) rows = same_count (has_subject_of row) n rows (EachRow-weaker (λ x. x.seq ≡ n → x.message ≡ m) (λ x. x.seq ≡ n → has_subject_of row x ≡ false) (λ x is e. ap (λ (y : Message). bytes_eq y.subject row.message.subject) (is e) ∙ (nat_list_eq_equiv.symm m.subject row.message.subject ∙ apart)) rows (only_at n (suc row.seq) rows m r.1 at')) in
      rw (ne_eqb row.seq n other)
      (ap (λ (k : ℕ). cond (leb most k) (newest_of_each most (without n rows)) (row ∷ newest_of_each most (without n rows))) counts
      ∙ ap (λ (rs : List Numbered). cond (leb most (count_by (has_subject_of row) rows)) rs (row ∷ rs)) ih))
]

goes_at : (most n : ℕ) (rows : List Numbered) (o : Option Message) → Rises 0 (seqs rows) → PassBelow (has_at_most most rows) n rows → message_at n rows ≡ o → too_many most rows o ≡ true → newest_of_each most (without n rows) ≡ newest_of_each most rows
goes_at most n rows None r pass at h = absurd (cc)
goes_at most n rows (Some m) r pass at h =
    let more = ltb-true most (count_by (is_of m.subject) rows) h in
    first_goes most n 0 rows m r at
    (EachRow-weaker (λ x. x.seq < n → has_at_most most rows x ≡ true) (λ x. x.seq < n → is_of m.subject x ≡ false) (λ x within lt. false_from_ne_true (is_of m.subject x) (λ mine.
    let is : x.message.subject ≡ m.subject = (bytes_eq-Decides x.message.subject m.subject).0 mine in
    let le = leb-true (count_by (is_of x.message.subject) rows) most (within lt) in
    let same : count_by (is_of x.message.subject) rows ≡ count_by (is_of m.subject) rows = ap (λ (s : List ℕ). count_by (is_of s) rows) is in
    absurd (omega (arith, le, same, more)))) rows pass)
    more

pub goes : (most n : ℕ) (rows : List Numbered) (b : Bool) → Rises 0 (seqs rows) → PassBelow (has_at_most most rows) n rows → b ≡ too_many most rows (message_at n rows) → b ≡ true → newest_of_each most (without n rows) ≡ newest_of_each most rows
goes most n rows b r pass told h = goes_at most n rows (message_at n rows) r pass refl (sym told ∙ h)

pub told_by : (most n : ℕ) (items : List (ℕ × Message)) (o : Option Message) (b : Bool) → b ≡ too_many most (rows_of items) o → o ≡ value_at n items → b ≡ too_many most (rows_of items) (message_at n (rows_of items))
told_by most n items o b told at = told ∙ ap (λ (m : Option Message). too_many most (rows_of items) m) (at ∙ message_at-items n items)

-- ---- the end of the walk

newest_all : (most : ℕ) (whole rows : List Numbered) → ((q : Numbered → Bool) → count_by q rows ≤ count_by q whole) → EachRow (λ r. has_at_most most whole r ≡ true) rows → rows ≡ newest_of_each most rows
newest_all most whole [] part h = refl
newest_all most whole (row ∷ rows) part h =
    let q : Numbered → Bool = has_subject_of row in
    let mine : count_by q (row ∷ rows) ≡ 1 + count_by q rows = count_cons q row rows ∙ ap (λ (b : Bool). cond b 1 0 + count_by q rows) ((bytes_eq-Decides row.message.subject row.message.subject).1 refl) in
    let le = leb-true (count_by q whole) most h.0 in
    let within = part q in
    rw (lt-leb most (count_by q rows) (omega (arith, mine, le, within)))
    (ap (λ (rs : List Numbered). row ∷ rs) (newest_all most whole rows (λ t. let all = part t in let c = count_cons t row rows in omega (arith, all, c)) h.1))

pub newest_ends : (most k : ℕ) (items : List (ℕ × Message)) → number_from k items ≡ None → PassBelow (has_at_most most (rows_of items)) k (rows_of items) → rows_of items ≡ newest_of_each most (rows_of items)
newest_ends most k items h pass = newest_all most (rows_of items) (rows_of items) (λ q. omega arith) (pass_each (has_at_most most (rows_of items)) k (rows_of items) pass (none_past (λ r. has_at_most most (rows_of items) r ≡ true) k items h))

pub newest_done : (most n l : ℕ) (rows : List Numbered) → PassBelow (has_at_most most rows) (n + 1) rows → EachRow (λ r. r.seq ≤ l) rows → l ≤ n → rows ≡ newest_of_each most rows
newest_done most n l rows pass bound le = newest_all most rows rows (λ q. omega arith) (pass_each (has_at_most most rows) (n + 1) rows pass (EachRow-weaker (λ r. r.seq ≤ l) (λ r. n + 1 ≤ r.seq → has_at_most most rows r ≡ true) (λ r b q. absurd (omega (arith, b, q, le))) rows bound))
