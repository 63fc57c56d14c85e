-- Rows that rise: look-ups by number and by subject, and what is left where one goes or comes.
use Rattle.std.proofs.Common.{◌≡◌, ℕ, suc, ◌<◌, ◌≤◌, ◌+◌, ◌^◌, Bool, true, false, cond, if◌then◌else◌, not, ◌&&◌, eqb, leb, List, [], ◌∷◌, ◌++◌, Option, Some, None, inl, inr, refl, sym, ap, subst, ◌∙◌, arith, length}
use Rattle.std.specs.Prelude.{filter, find, count_by, slice_get}
use Rattle.std.specs.Map.{keys_of}
use Rattle.std.specs.Str.{bytes_eq}
use Rattle.std.proofs.lemmas.Bool.{cases_Bool, cases_eq, eq-eqb, ne_eqb, eqb-true}
use Rattle.std.proofs.lemmas.List.Sums.{sum_by-cons, sum_by_push, length-filter}
use Rattle.std.proofs.lemmas.Option.{same_Some}
use Rattle.nats_text.specs.Sizes.{size}
use Rattle.nats_text.specs.declared.message.Message.{Message}
use Rattle.stream_fold.specs.declared.entry.Numbered.{Numbered}
use Rattle.stream_fold.specs.Histories.{either, message_at, size_of}
use Rattle.stream_fold.specs.Publishing.{last_of}
use Rattle.stream_fold.specs.RowLists.{EachRow, IsTotal, Rises, seqs, without_first}
use Rattle.stream_fold.proofs.KeptRows.{EachRow-filter, EachRow-weaker}
use Rattle.indexed_rows.specs.Entries.{value_at}
use Rattle.std.specs.Option.{option_map}
use Rattle.stream_fold.specs.RowLists.{with_place}
use Rattle.indexed_rows.specs.Indexes.{rows_of, is_of, numbers_of, seq_in, first_of_list, last_of_list, TimesRise, IsInOrder}
use Rattle.indexed_rows.proofs.Listed.{rises_weaker}

-- ---- messages under numbers, as rows

pub message_at-items : (n : ℕ) (items : List (ℕ × Message)) → value_at n items ≡ message_at n (rows_of items)
message_at-items n [] = refl
message_at-items n (e ∷ es) = ap (λ o. cond (eqb e.0 n) (Some e.1) o) (message_at-items n es)

pub seqs-items : (items : List (ℕ × Message)) → seqs (rows_of items) ≡ keys_of items
seqs-items [] = refl
seqs-items (e ∷ es) = ap (λ ns. e.0 ∷ ns) (seqs-items es)

pub rows_of-without : (n : ℕ) (items : List (ℕ × Message)) → rows_of (filter (λ e. not (eqb e.0 n)) items) ≡ filter (λ row. not (eqb row.seq n)) (rows_of items)
rows_of-without n [] = refl
rows_of-without n (e ∷ es) = elim (cases_Bool (eqb e.0 n)) [
  | inl same ↦ rw same (rows_of-without n es)
  | inr other ↦ rw other (ap (λ (rows : List Numbered). record { seq = e.0; message = e.1 } ∷ rows) (rows_of-without n es))
]

pub rows_of-push : (items : List (ℕ × Message)) (n : ℕ) (m : Message) → rows_of (items ++ (n, m) ∷ []) ≡ rows_of items ++ record { seq = n; message = m } ∷ []
rows_of-push [] n m = refl
rows_of-push (e ∷ es) n m = ap (λ (rows : List Numbered). record { seq = e.0; message = e.1 } ∷ rows) (rows_of-push es n m)

-- ---- the numbers of a subject

either_none : {A : Type 0} (o : Option A) → either o None ≡ o
either_none None = refl
either_none (Some x) = refl

pub last-numbers : (s : List ℕ) (rows : List Numbered) → last_of_list (numbers_of s rows) ≡ last_of s rows
last-numbers s [] = refl
last-numbers s (row ∷ rows) = elim (cases_Bool (bytes_eq row.message.subject s)) [
  | inl here ↦ rw here (ap (λ o. either o (Some row.seq)) (last-numbers s rows))
  | inr other ↦ rw other (last-numbers s rows ∙ sym (either_none (last_of s rows)))
]

length-seqs : (rows : List Numbered) → length (seqs rows) ≡ length rows
length-seqs [] = refl
length-seqs (row ∷ rows) = ap suc (length-seqs rows)

pub count-numbers : (s : List ℕ) (rows : List Numbered) → length (numbers_of s rows) ≡ count_by (is_of s) rows
count-numbers s rows = length-seqs (filter (is_of s) rows) ∙ length-filter (is_of s) rows

pub first-seqs : (rows : List Numbered) → first_of_list (seqs rows) ≡ seq_in (slice_get rows 0)
first-seqs [] = refl
first-seqs (row ∷ rows) = refl

-- ---- a row goes

pub numbers-without : (n : ℕ) (q : List ℕ) (rows : List Numbered) → numbers_of q (filter (λ row. not (eqb row.seq n)) rows) ≡ filter (λ k. not (eqb k n)) (numbers_of q rows)
numbers-without n q [] = refl
numbers-without n q (row ∷ rows) = elim (cases_Bool (eqb row.seq n)) [
  | inl same ↦ elim (cases_Bool (bytes_eq row.message.subject q)) [
    | inl here ↦ rw (here, same) (numbers-without n q rows)
    | inr other ↦ rw (other, same) (numbers-without n q rows)
  ]
  | inr differs ↦ elim (cases_Bool (bytes_eq row.message.subject q)) [
    | inl here ↦ rw (here, differs, here) (ap (λ ns. row.seq ∷ ns) (numbers-without n q rows))
    | inr other ↦ rw (other, differs, other) (numbers-without n q rows)
  ]
]

pub numbers-other : (n : ℕ) (q : List ℕ) (rows : List Numbered) → EachRow (λ r. r.seq ≡ n → bytes_eq r.message.subject q ≡ false) rows → filter (λ k. not (eqb k n)) (numbers_of q rows) ≡ numbers_of q rows
numbers-other n q [] h = refl
numbers-other n q (row ∷ rows) h = elim (cases_Bool (bytes_eq row.message.subject q)) [
  | inl here ↦ rw here (rw (ne_eqb row.seq n (λ e. absurd (let o = h.0 e in cc))) (ap (λ ns. row.seq ∷ ns) (numbers-other n q rows h.1)))
  | inr other ↦ rw other (numbers-other n q rows h.1)
]

pub none_below : (P : Numbered → Type 0) (n low : ℕ) (rows : List Numbered) → n < low → Rises low (seqs rows) → EachRow (λ r. r.seq ≡ n → P r) rows
none_below P n low [] lt h = tt
none_below P n low (row ∷ rows) lt h = ((λ e. absurd (omega (arith, e, lt, h.0))), none_below P n (suc row.seq) rows (omega (arith, lt, h.0)) h.1)

-- the row of a number is the only one
pub only_at : (n low : ℕ) (rows : List Numbered) (m : Message) → Rises low (seqs rows) → message_at n rows ≡ Some m → EachRow (λ r. r.seq ≡ n → r.message ≡ m) rows
only_at n low [] m h at = tt
only_at n low (row ∷ rows) m h at = elim (cases_eq row.seq n) [
  | inl same ↦ ((λ e. same_Some row.message m (rw (eq-eqb row.seq n same) at at)), none_below (λ r. r.message ≡ m) n (suc row.seq) rows (omega (arith, same)) h.1)
  | inr other ↦ ((λ e. absurd (other e)), only_at n (suc row.seq) rows m h.1 (rw (ne_eqb row.seq n other) at at))
]

-- the numbers of each subject, where the row of this number goes
pub numbers-gone : (n low : ℕ) (rows : List Numbered) (m : Message) → Rises low (seqs rows) → message_at n rows ≡ Some m → (q : List ℕ) → numbers_of q (filter (λ row. not (eqb row.seq n)) rows) ≡ (if bytes_eq m.subject q then filter (λ k. not (eqb k n)) (numbers_of q rows) else numbers_of q rows)
numbers-gone n low rows m h at q = elim (cases_Bool (bytes_eq m.subject q)) [
  | inl here ↦ rw here (numbers-without n q rows)
  | inr other ↦ rw other (numbers-without n q rows ∙ numbers-other n q rows (EachRow-weaker (λ r. r.seq ≡ n → r.message ≡ m) (λ r. r.seq ≡ n → bytes_eq r.message.subject q ≡ false) (λ r is e. ap (λ (x : Message). bytes_eq x.subject q) (is e) ∙ other) rows (only_at n low rows m h at)))
]

without_low : (n low : ℕ) (rows : List Numbered) → n < low → Rises low (seqs rows) → filter (λ row. not (eqb row.seq n)) rows ≡ rows
without_low n low [] lt h = refl
without_low n low (row ∷ rows) lt h = rw (ne_eqb row.seq n (λ e. absurd (omega (arith, e, lt, h.0)))) (ap (λ rs. row ∷ rs) (without_low n (suc row.seq) rows (omega (arith, lt, h.0)) h.1))

pub absent : (n : ℕ) (rows : List Numbered) → message_at n rows ≡ None → filter (λ row. not (eqb row.seq n)) rows ≡ rows
absent n [] h = refl
absent n (row ∷ rows) h = elim (cases_Bool (eqb row.seq n)) [
  | inl same ↦ absurd (let q = rw same at h in cc)
  | inr other ↦ rw other (ap (λ rs. row ∷ rs) (absent n rows (rw other at h)))
]

size_of-cons : (row : Numbered) (rows : List Numbered) → size_of (row ∷ rows) ≡ size row.message + size_of rows
size_of-cons row rows = sum_by-cons (λ (r : Numbered). size r.message) row rows

size-without : (b : Bool) (n low : ℕ) (row : Numbered) (rows : List Numbered) (m : Message) → eqb row.seq n ≡ b → Rises low (seqs (row ∷ rows)) → message_at n (row ∷ rows) ≡ Some m → (message_at n rows ≡ Some m → size_of (filter (λ r. not (eqb r.seq n)) rows) + size m ≡ size_of rows) → size_of (filter (λ r. not (eqb r.seq n)) (row ∷ rows)) + size m ≡ size_of (row ∷ rows)
size-without true n low row rows m same h at ih =
    let is : row.message ≡ m = same_Some row.message m (rw same at at) in
    let rest = without_low n (suc row.seq) rows (let e = eqb-true row.seq n same in omega (arith, e)) h.1 in
    let all : size_of (filter (λ r. not (eqb r.seq n)) rows) + size m ≡ size_of (row ∷ rows) = omega (arith, ap size_of rest, ap (λ x. size x) is, size_of-cons row rows) in
    rw same all
size-without false n low row rows m other h at ih =
    let kept : List Numbered = filter (λ r. not (eqb r.seq n)) rows in
    let all : size_of (row ∷ kept) + size m ≡ size_of (row ∷ rows) = omega (arith, ih (rw other at at), size_of-cons row rows, size_of-cons row kept) in
    rw other all

-- the size of the row that goes, and of those that stay
pub size-gone : (n low : ℕ) (rows : List Numbered) (m : Message) → Rises low (seqs rows) → message_at n rows ≡ Some m → size_of (filter (λ r. not (eqb r.seq n)) rows) + size m ≡ size_of rows
size-gone n low [] m h at = absurd (cc)
size-gone n low (row ∷ rows) m h at = size-without (eqb row.seq n) n low row rows m refl h at (λ q. size-gone n (suc row.seq) rows m h.1 q)

pub total-gone : (n total bytes : ℕ) (rows : List Numbered) (m : Message) → Rises 0 (seqs rows) → message_at n rows ≡ Some m → IsTotal total rows → bytes + size m ≡ total → IsTotal bytes (filter (λ r. not (eqb r.seq n)) rows)
total-gone n total bytes rows m h at t is =
    let q = size-gone n 0 rows m h at in
    record { sum = omega (arith, q, t.sum, is); fits = omega (arith, q, t.fits) }

times_cond : (b : Bool) (row : Numbered) (rows : List Numbered) → EachRow (λ later. row.message.time ≤ later.message.time) rows → TimesRise rows → TimesRise (cond b (row ∷ rows) rows)
times_cond true row rows h t = (h, t)
times_cond false row rows h t = t

pub times-filter : (p : Numbered → Bool) (rows : List Numbered) → TimesRise rows → TimesRise (filter p rows)
times-filter p [] h = tt
times-filter p (row ∷ rows) h = times_cond (p row) row (filter p rows) (EachRow-filter (λ later. row.message.time ≤ later.message.time) p rows h.0) (times-filter p rows h.1)

pub order-filter : (p : Numbered → Bool) (moment : ℕ) (rows : List Numbered) → IsInOrder moment rows → IsInOrder moment (filter p rows)
order-filter p moment rows h = record { rise = times-filter p rows h.rise; latest = EachRow-filter (λ row. row.message.time ≤ moment) p rows h.latest }

-- ---- a row comes

pub each-push : (P : Numbered → Type 0) (rows : List Numbered) (row : Numbered) → EachRow P rows → P row → EachRow P (rows ++ row ∷ [])
each-push P [] row h p = (p, tt)
each-push P (r ∷ rows) row h p = (h.0, each-push P rows row h.1 p)

times-push : (rows : List Numbered) (row : Numbered) → TimesRise rows → EachRow (λ r. r.message.time ≤ row.message.time) rows → TimesRise (rows ++ row ∷ [])
times-push [] row h l = (tt, tt)
times-push (r ∷ rows) row h l = (each-push (λ later. r.message.time ≤ later.message.time) rows row h.0 l.0, times-push rows row h.1 l.1)

pub order-push : (rows : List Numbered) (row : Numbered) → IsInOrder row.message.time rows → IsInOrder row.message.time (rows ++ row ∷ [])
order-push rows row h = record { rise = times-push rows row h.rise h.latest; latest = each-push (λ r. r.message.time ≤ row.message.time) rows row h.latest (omega arith) }

pub numbers-push : (q : List ℕ) (rows : List Numbered) (row : Numbered) → numbers_of q (rows ++ row ∷ []) ≡ (if bytes_eq row.message.subject q then numbers_of q rows ++ row.seq ∷ [] else numbers_of q rows)
numbers-push q [] row = elim (cases_Bool (bytes_eq row.message.subject q)) [
  | inl here ↦ rw here refl
  | inr other ↦ rw other refl
]
numbers-push q (r ∷ rows) row = elim (cases_Bool (bytes_eq r.message.subject q)) [
  | inl mine ↦ elim (cases_Bool (bytes_eq row.message.subject q)) [
    | inl here ↦ rw (mine, here) (ap (λ ns. r.seq ∷ ns) (rw here at (numbers-push q rows row)))
    | inr other ↦ rw (mine, other) (ap (λ ns. r.seq ∷ ns) (rw other at (numbers-push q rows row)))
  ]
  | inr another ↦ rw another (numbers-push q rows row)
]

pub total-push : (total bytes : ℕ) (rows : List Numbered) (row : Numbered) → IsTotal total rows → size_of rows + size row.message < 2 ^ 64 → bytes ≡ total + size row.message → IsTotal bytes (rows ++ row ∷ [])
total-push total bytes rows row t fits is =
    let q = sum_by_push (λ (r : Numbered). size r.message) rows row in
    record { sum = omega (arith, q, t.sum, is); fits = omega (arith, q, fits) }

rises_cond : (b : Bool) (low n s : ℕ) (ns : List ℕ) → low ≤ s → Rises (suc s) (ns ++ n ∷ []) → Rises low (cond b (s ∷ ns) ns ++ n ∷ [])
rises_cond true low n s ns le h = (le, h)
rises_cond false low n s ns le h = rises_weaker (suc s) low (ns ++ n ∷ []) (omega (arith, le)) h

seqs_cond : (b : Bool) (row : Numbered) (rows : List Numbered) → seqs (cond b (row ∷ rows) rows) ≡ cond b (row.seq ∷ seqs rows) (seqs rows)
seqs_cond true row rows = refl
seqs_cond false row rows = refl

pub rises-numbers : (low n : ℕ) (s : List ℕ) (rows : List Numbered) → EachRow (λ r. r.seq < n) rows → Rises low (seqs rows) → low ≤ n → Rises low (numbers_of s rows ++ n ∷ [])
rises-numbers low n s [] each h le = (le, tt)
rises-numbers low n s (row ∷ rows) each h le =
    subst (λ ns. Rises low (ns ++ n ∷ [])) (sym (seqs_cond (is_of s row) row (filter (is_of s) rows)))
    (rises_cond (is_of s row) low n row.seq (numbers_of s rows) h.0 (rises-numbers (suc row.seq) n s rows each.1 h.1 each.0))

pub rises-items : (low n : ℕ) (m : Message) (items : List (ℕ × Message)) → EachRow (λ r. r.seq < n) (rows_of items) → Rises low (keys_of items) → low ≤ n → Rises low (keys_of (items ++ (n, m) ∷ []))
rises-items low n m [] each h le = (le, tt)
rises-items low n m (e ∷ es) each h le = (h.0, rises-items (suc e.0) n m es each.1 h.1 each.0)

-- ---- the first row of a subject

pub first_least : (low n : ℕ) (s : List ℕ) (rows : List Numbered) → Rises low (seqs rows) → seq_in (slice_get (filter (is_of s) rows) 0) ≡ Some n → low ≤ n
first_least low n s [] h first = absurd (cc)
first_least low n s (row ∷ rows) h first = elim (cases_Bool (is_of s row)) [
  | inl here ↦ (let e = same_Some row.seq n (rw here at first) in omega (arith, e, h.0))
  | inr other ↦ (let q = first_least (suc row.seq) n s rows h.1 (rw other at first) in omega (arith, q, h.0))
]

pub without_first-at : (low n : ℕ) (s : List ℕ) (rows : List Numbered) → Rises low (seqs rows) → seq_in (slice_get (filter (is_of s) rows) 0) ≡ Some n → filter (λ row. not (eqb row.seq n)) rows ≡ without_first s rows
without_first-at low n s [] h first = absurd (cc)
without_first-at low n s (row ∷ rows) h first = elim (cases_Bool (is_of s row)) [
  | inl here ↦ (let e = same_Some row.seq n (rw here at first) in rw (here, eq-eqb row.seq n e) (without_low n (suc row.seq) rows (omega (arith, e)) h.1))
  | inr other ↦ (let q = first_least (suc row.seq) n s rows h.1 (rw other at first) in rw (other, ne_eqb row.seq n (λ e. absurd (omega (arith, e, q)))) (ap (λ rs. row ∷ rs) (without_first-at (suc row.seq) n s rows h.1 (rw other at first))))
]

pub without_first-none : (s : List ℕ) (rows : List Numbered) → seq_in (slice_get (filter (is_of s) rows) 0) ≡ None → without_first s rows ≡ rows
without_first-none s [] first = refl
without_first-none s (row ∷ rows) first = elim (cases_Bool (is_of s row)) [
  | inl here ↦ absurd (let q = rw here at first in cc)
  | inr other ↦ rw other (ap (λ rs. row ∷ rs) (without_first-none s rows (rw other at first)))
]

first_message-low : (low n : ℕ) (s : List ℕ) (items : List (ℕ × Message)) → Rises low (keys_of items) → seq_in (slice_get (filter (is_of s) (rows_of items)) 0) ≡ Some n → value_at n items ≡ option_map (λ (r : Numbered). r.message) (slice_get (filter (is_of s) (rows_of items)) 0)
first_message-low low n s [] h first = absurd (cc)
first_message-low low n s (e ∷ es) h first = elim (cases_Bool (bytes_eq e.1.subject s)) [
  | inl here ↦ (let q = same_Some e.0 n (rw here at first) in rw (here, eq-eqb e.0 n q) refl)
  | inr other ↦ (let q = first_least (suc e.0) n s (rows_of es) (subst (λ ns. Rises (suc e.0) ns) (sym (seqs-items es)) h.1) (rw other at first) in rw (other, ne_eqb e.0 n (λ x. absurd (omega (arith, x, q)))) (first_message-low (suc e.0) n s es h.1 (rw other at first)))
]

-- the message of the first row of a subject
pub first_message : (n : ℕ) (s : List ℕ) (items : List (ℕ × Message)) → Rises 0 (keys_of items) → seq_in (slice_get (filter (is_of s) (rows_of items)) 0) ≡ Some n → value_at n items ≡ option_map (λ (r : Numbered). r.message) (slice_get (filter (is_of s) (rows_of items)) 0)
first_message n s items h first = first_message-low 0 n s items h first

pub find-filter : (p : Numbered → Bool) (rows : List Numbered) → find p rows ≡ slice_get (filter p rows) 0
find-filter p [] = refl
find-filter p (row ∷ rows) = elim (cases_Bool (p row)) [
  | inl here ↦ rw here refl
  | inr other ↦ rw other (find-filter p rows)
]

-- nothing is there where its number isn't
pub none_there : (o : Option Numbered) → seq_in o ≡ None → option_map (λ (r : Numbered). r.message) o ≡ None
none_there None h = refl
none_there (Some r) h = absurd (cc)

-- ---- a place for one more

each-without_first : (P : Numbered → Type 0) (s : List ℕ) (rows : List Numbered) → EachRow P rows → EachRow P (without_first s rows)
each-without_first P s [] h = tt
each-without_first P s (row ∷ rows) h = elim (cases_Bool (bytes_eq row.message.subject s)) [
  | inl here ↦ rw here h.1
  | inr other ↦ rw other (h.0, each-without_first P s rows h.1)
]

size-without_first : (s : List ℕ) (rows : List Numbered) → size_of (without_first s rows) ≤ size_of rows
size-without_first s [] = omega arith
size-without_first s (row ∷ rows) = elim (cases_Bool (bytes_eq row.message.subject s)) [
  | inl here ↦ (let q : size_of rows ≤ size_of (row ∷ rows) = omega (arith, size_of-cons row rows) in rw here q)
  | inr other ↦ (let q : size_of (row ∷ without_first s rows) ≤ size_of (row ∷ rows) = omega (arith, size_of-cons row rows, size_of-cons row (without_first s rows), size-without_first s rows) in rw other q)
]

each_cond : (P : Numbered → Type 0) (b : Bool) (xs ys : List Numbered) → EachRow P xs → EachRow P ys → EachRow P (cond b xs ys)
each_cond P true xs ys h k = h
each_cond P false xs ys h k = k

size_cond : (b : Bool) (xs ys zs : List Numbered) → size_of xs ≤ size_of zs → size_of ys ≤ size_of zs → size_of (cond b xs ys) ≤ size_of zs
size_cond true xs ys zs h k = h
size_cond false xs ys zs h k = k

pub each-place : (P : Numbered → Type 0) (most : ℕ) (s : List ℕ) (rows : List Numbered) → EachRow P rows → EachRow P (with_place most s rows)
each-place P most s rows h = each_cond P (not (eqb most 0) && leb most (count_by (λ (r : Numbered). bytes_eq r.message.subject s) rows)) (without_first s rows) rows (each-without_first P s rows h) h

pub size-place : (most : ℕ) (s : List ℕ) (rows : List Numbered) → size_of (with_place most s rows) ≤ size_of rows
size-place most s rows = size_cond (not (eqb most 0) && leb most (count_by (λ (r : Numbered). bytes_eq r.message.subject s) rows)) (without_first s rows) rows rows (size-without_first s rows) (omega arith)
