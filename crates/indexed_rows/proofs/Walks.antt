-- Walks over rows by their numbers.
use Rattle.std.proofs.Common.{◌≡◌, ℕ, suc, ◌<◌, ◌≤◌, ◌+◌, Bool, true, false, cond, not, ◌&&◌, eqb, leb, List, [], ◌∷◌, Option, Some, None, inl, inr, ◌⊎◌, ◌≢◌, refl, sym, ap, subst, ◌∙◌, arith, length}
use Rattle.std.specs.Prelude.{filter}
use Rattle.std.specs.Map.{keys_of}
use Rattle.std.proofs.lemmas.Bool.{cases_Bool, le-leb, lt-leb, leb-true, leb-false, eq-eqb, ne_eqb, eqb-true, cases_eq, cases_lt, lt-ltb, le-ltb, not-true, not-false}
use Rattle.std.proofs.lemmas.List.Sums.{length-filter, count_by-le-length}
use Rattle.std.proofs.lemmas.Option.{same_Some}
use Rattle.nats_text.specs.Matching.{matches}
use Rattle.nats_text.specs.declared.message.Message.{Message}
use Rattle.stream_fold.specs.declared.config.Config.{Config}
use Rattle.stream_fold.specs.declared.entry.Numbered.{Numbered}
use Rattle.stream_fold.specs.Histories.{either, are_within, newest_within, is_expired, is_purged, message_at}
use Rattle.stream_fold.specs.Publishing.{next_match}
use Rattle.stream_fold.specs.RowLists.{EachRow, Rises, seqs}
use Rattle.stream_fold.proofs.KeptRows.{EachRow-filter, EachRow-weaker, each_from_none}
use Rattle.indexed_rows.specs.Entries.{entry_from, last_number, number_from, value_at}
use Rattle.indexed_rows.specs.Indexes.{rows_of, takes, excess, expired_front, expired_in, matches_in, TimesRise}
use Rattle.indexed_rows.proofs.RowLemmas.{only_at, seqs-items, message_at-items}

-- ---- the first entry from a number on

pub entry_ge : {V : Type 0} (n : ℕ) (items : List (ℕ × V)) (e : ℕ × V) → entry_from n items ≡ Some e → n ≤ e.0
entry_ge n [] e h = absurd (cc)
entry_ge n (x ∷ xs) e h = elim (cases_Bool (leb n x.0)) [
  | inl here ↦ (let q = ap (λ (p : ℕ × _). p.0) (same_Some x e (rw here at h)) in omega (arith, q, leb-true n x.0 here))
  | inr other ↦ entry_ge n xs e (rw other at h)
]

entry_low : {V : Type 0} (low n : ℕ) (items : List (ℕ × V)) (e : ℕ × V) → Rises low (keys_of items) → entry_from n items ≡ Some e → low ≤ e.0
entry_low low n [] e r h = absurd (cc)
entry_low low n (x ∷ xs) e r h = elim (cases_Bool (leb n x.0)) [
  | inl here ↦ (let q = ap (λ (p : ℕ × _). p.0) (same_Some x e (rw here at h)) in omega (arith, q, r.0))
  | inr other ↦ (let q = entry_low (suc x.0) n xs e r.1 (rw other at h) in omega (arith, q, r.0))
]

pub entry_number : {V : Type 0} (n : ℕ) (items : List (ℕ × V)) (e : ℕ × V) → entry_from n items ≡ Some e → number_from n items ≡ Some e.0
entry_number n [] e h = absurd (cc)
entry_number n (x ∷ xs) e h = elim (cases_Bool (leb n x.0)) [
  | inl here ↦ rw here (ap (λ (p : ℕ × _). Some p.0) (same_Some x e (rw here at h)))
  | inr other ↦ rw other (entry_number n xs e (rw other at h))
]

pub entry_no_number : {V : Type 0} (n : ℕ) (items : List (ℕ × V)) → entry_from n items ≡ None → number_from n items ≡ None
entry_no_number n [] h = refl
entry_no_number n (x ∷ xs) h = elim (cases_Bool (leb n x.0)) [
  | inl here ↦ absurd (let q = rw here at h in cc)
  | inr other ↦ rw other (entry_no_number n xs (rw other at h))
]

either_cases : (o p : Option ℕ) (l : ℕ) → either o p ≡ Some l → (o ≡ Some l) ⊎ ((o ≡ None) × (p ≡ Some l))
either_cases None p l h = inr (refl, h)
either_cases (Some x) p l h = inl h

either_never : (o : Option ℕ) (x : ℕ) → ¬ (either o (Some x) ≡ None)
either_never None x h = absurd (cc)
either_never (Some y) x h = absurd (cc)

last_least : {V : Type 0} (low l : ℕ) (items : List (ℕ × V)) → Rises low (keys_of items) → last_number items ≡ Some l → low ≤ l
last_least low l [] r h = absurd (cc)
last_least low l (x ∷ xs) r h = elim (either_cases (last_number xs) (Some x.0) l h) [
  | inl o ↦ (let q = last_least (suc x.0) l xs r.1 o in omega (arith, q, r.0))
  | inr p ↦ (let q = same_Some x.0 l p.1 in omega (arith, q, r.0))
]

pub nothing_last : {V : Type 0} (k : ℕ) (items : List (ℕ × V)) → last_number items ≡ None → entry_from k items ≡ None
nothing_last k [] h = refl
nothing_last k (x ∷ xs) h = absurd (either_never (last_number xs) x.0 h)

-- nothing stands behind the last number
pub nothing_past : {V : Type 0} (low l k : ℕ) (items : List (ℕ × V)) → Rises low (keys_of items) → last_number items ≡ Some l → l ≤ k → entry_from (k + 1) items ≡ None
nothing_past low l k [] r h le = refl
nothing_past low l k (x ∷ xs) r h le = elim (either_cases (last_number xs) (Some x.0) l h) [
  | inl o ↦ (let q = last_least (suc x.0) l xs r.1 o in rw (lt-leb (k + 1) x.0 (omega (arith, q, le))) (nothing_past (suc x.0) l k xs r.1 o le))
  | inr p ↦ (let q = same_Some x.0 l p.1 in rw (lt-leb (k + 1) x.0 (omega (arith, q, le))) (nothing_last (k + 1) xs p.0))
]

-- ---- the next match

match_low : (a b low : ℕ) (f : List (List ℕ)) (items : List (ℕ × Message)) → Rises low (keys_of items) → a ≤ low → b ≤ low → next_match a f (rows_of items) ≡ next_match b f (rows_of items)
match_low a b low f [] r p q = refl
match_low a b low f (x ∷ xs) r p q =
    let h = r.0 in
    rw (le-leb a x.0 (omega (arith, h, p)), le-leb b x.0 (omega (arith, h, q)))
    (ap (λ o. cond (takes f x.1.subject) (Some x.0) o) (match_low a b (suc x.0) f xs r.1 (omega (arith, h, p)) (omega (arith, h, q))))

pub match_found : (n : ℕ) (f : List (List ℕ)) (items : List (ℕ × Message)) (e : ℕ × Message) → entry_from n items ≡ Some e → takes f e.1.subject ≡ true → next_match n f (rows_of items) ≡ Some e.0
match_found n f [] e h taken = absurd (cc)
match_found n f (x ∷ xs) e h taken = elim (cases_Bool (leb n x.0)) [
  | inl here ↦ (let q : x ≡ e = same_Some x e (rw here at h) in let t : takes f x.1.subject ≡ true = ap (λ (p : ℕ × Message). takes f p.1.subject) q ∙ taken in rw (here, t) (ap (λ (p : ℕ × Message). Some p.0) q))
  | inr other ↦ rw other (match_found n f xs e (rw other at h) taken)
]

pub match_skip : (low n : ℕ) (f : List (List ℕ)) (items : List (ℕ × Message)) (e : ℕ × Message) → Rises low (keys_of items) → entry_from n items ≡ Some e → takes f e.1.subject ≡ false → next_match (e.0 + 1) f (rows_of items) ≡ next_match n f (rows_of items)
match_skip low n f [] e r h taken = absurd (cc)
match_skip low n f (x ∷ xs) e r h taken = elim (cases_Bool (leb n x.0)) [
  | inl here ↦
      (let q : x ≡ e = same_Some x e (rw here at h) in
      let t : takes f x.1.subject ≡ false = ap (λ (p : ℕ × Message). takes f p.1.subject) q ∙ taken in
      let s : x.0 ≡ e.0 = ap (λ (p : ℕ × Message). p.0) q in
      rw (lt-leb (e.0 + 1) x.0 (omega (arith, s)), here, t) (match_low (e.0 + 1) n (suc x.0) f xs r.1 (omega (arith, s)) (let le = leb-true n x.0 here in omega (arith, le))))
  | inr other ↦
      (let q = entry_low (suc x.0) n xs e r.1 (rw other at h) in
      rw (lt-leb (e.0 + 1) x.0 (omega (arith, q)), other) (match_skip (suc x.0) n f xs e r.1 (rw other at h) taken))
]

pub match_none : (n : ℕ) (f : List (List ℕ)) (items : List (ℕ × Message)) → entry_from n items ≡ None → next_match n f (rows_of items) ≡ None
match_none n f [] h = refl
match_none n f (x ∷ xs) h = elim (cases_Bool (leb n x.0)) [
  | inl here ↦ absurd (let q = rw here at h in cc)
  | inr other ↦ rw other (match_none n f xs (rw other at h))
]

-- ---- rows at the front go

-- without a number
abbrev pub without : ℕ → List Numbered → List Numbered
without n rows = filter (λ row. not (eqb row.seq n)) rows

pub length_cond : (b : Bool) (row : Numbered) (rows : List Numbered) → length (cond b (row ∷ rows) rows) ≤ suc (length rows)
length_cond true row rows = omega arith
length_cond false row rows = omega arith

pub length_most : (p : Numbered → Bool) (rows : List Numbered) → length (filter p rows) ≤ length rows
length_most p rows = omega (arith, length-filter p rows, count_by-le-length p rows)

pub without_front : (low : ℕ) (row : Numbered) (rows : List Numbered) → Rises low (seqs (row ∷ rows)) → without row.seq (row ∷ rows) ≡ rows
without_front low row rows r = rw (eq-eqb row.seq row.seq refl) (without_above row.seq (suc row.seq) rows r.1 (omega arith))
  where
    without_above : (n low : ℕ) (rows : List Numbered) → Rises low (seqs rows) → n < low → without n rows ≡ rows
    without_above n low [] r lt = refl
    without_above n low (row ∷ rows) r lt = (let h = r.0 in rw (ne_eqb row.seq n (λ e. absurd (omega (arith, e, lt, h)))) (ap (λ rs. row ∷ rs) (without_above n (suc row.seq) rows r.1 (omega (arith, lt, h)))))

pub excess_step : (c : Config) (rows : List Numbered) (n : ℕ) → Rises 0 (seqs rows) → excess c rows ≡ Some n → (newest_within c (without n rows) ≡ newest_within c rows) × (length (without n rows) < length rows)
excess_step c [] n r h = elim (cases_Bool (are_within c [])) [
  | inl here ↦ absurd (let q = rw here at h in cc)
  | inr other ↦ absurd (let q = rw other at h in cc)
]
excess_step c (row ∷ rows) n r h = elim (cases_Bool (are_within c (row ∷ rows))) [
  | inl here ↦ absurd (let q = rw here at h in cc)
  | inr other ↦
      (let is : row.seq ≡ n = same_Some row.seq n (rw other at h) in
      let left : without n (row ∷ rows) ≡ rows = subst (λ k. without k (row ∷ rows) ≡ rows) is (without_front 0 row rows r) in
      (ap (λ rs. newest_within c rs) left ∙ rw other refl, (let q = ap (λ (rs : List Numbered). length rs) left in omega (arith, q))))
]

pub excess_end : (c : Config) (rows : List Numbered) → excess c rows ≡ None → rows ≡ newest_within c rows
excess_end c [] h = refl
excess_end c (row ∷ rows) h = elim (cases_Bool (are_within c (row ∷ rows))) [
  | inl here ↦ rw here refl
  | inr other ↦ absurd (let q = rw other at h in cc)
]

-- the rows that an expiry leaves
abbrev pub fresh : ℕ → ℕ → List Numbered → List Numbered
fresh max_age now rows = filter (λ row. not (is_expired max_age now row)) rows

pub expired_step : (max_age now : ℕ) (rows : List Numbered) (n : ℕ) → Rises 0 (seqs rows) → expired_front max_age now rows ≡ Some n → (fresh max_age now (without n rows) ≡ fresh max_age now rows) × (length (without n rows) < length rows)
expired_step max_age now [] n r h = absurd (cc)
expired_step max_age now (row ∷ rows) n r h = elim (cases_Bool (is_expired max_age now row)) [
  | inl here ↦
      (let is : row.seq ≡ n = same_Some row.seq n (rw here at h) in
      let left : without n (row ∷ rows) ≡ rows = subst (λ k. without k (row ∷ rows) ≡ rows) is (without_front 0 row rows r) in
      (ap (λ rs. fresh max_age now rs) left ∙ rw here refl, (let q = ap (λ (rs : List Numbered). length rs) left in omega (arith, q))))
  | inr other ↦ absurd (let q = rw other at h in cc)
]

younger : (max_age now t u : ℕ) → t ≤ u → (not (eqb max_age 0) && leb (t + max_age) now) ≡ false → (not (eqb max_age 0) && leb (u + max_age) now) ≡ false
younger max_age now t u le h = elim (cases_Bool (eqb max_age 0)) [
  | inl none ↦ rw none refl
  | inr some ↦ (let q = rw some at h in let lt = leb-false (t + max_age) now q in rw some (lt-leb (u + max_age) now (omega (arith, lt, le))))
]

all_fresh : (max_age now t : ℕ) (rows : List Numbered) → EachRow (λ r. t ≤ r.message.time) rows → (not (eqb max_age 0) && leb (t + max_age) now) ≡ false → fresh max_age now rows ≡ rows
all_fresh max_age now t [] each h = refl
all_fresh max_age now t (row ∷ rows) each h = (let q : is_expired max_age now row ≡ false = younger max_age now t row.message.time each.0 h in rw q (ap (λ rs. row ∷ rs) (all_fresh max_age now t rows each.1 h)))

pub expired_end : (max_age now : ℕ) (rows : List Numbered) → TimesRise rows → expired_front max_age now rows ≡ None → rows ≡ fresh max_age now rows
expired_end max_age now [] t h = refl
expired_end max_age now (row ∷ rows) t h = elim (cases_Bool (is_expired max_age now row)) [
  | inl here ↦ absurd (let q = rw here at h in cc)
  | inr other ↦ rw other (ap (λ rs. row ∷ rs) (sym (all_fresh max_age now row.message.time rows t.0 other)))
]

-- ---- a walk that takes away what a test refuses

pub same_kept : (p : Numbered → Bool) (n : ℕ) (rows : List Numbered) → EachRow (λ r. r.seq ≡ n → p r ≡ false) rows → filter p (without n rows) ≡ filter p rows
same_kept p n [] each = refl
same_kept p n (row ∷ rows) each = elim (cases_Bool (eqb row.seq n)) [
  | inl same ↦ rw (same, each.0 (eqb-true row.seq n same)) (same_kept p n rows each.1)
  | inr differs ↦ elim (cases_Bool (p row)) [
    | inl here ↦ rw (differs, here) (ap (λ rs. row ∷ rs) (same_kept p n rows each.1))
    | inr other ↦ rw (differs, other) (same_kept p n rows each.1)
  ]
]

-- the row of a number, which the test refuses, may go
pub taken_away : (p : Numbered → Bool) (n : ℕ) (rows : List Numbered) (m : Message) → Rises 0 (seqs rows) → message_at n rows ≡ Some m → p (record { seq = n; message = m }) ≡ false → filter p (without n rows) ≡ filter p rows
taken_away p n rows m r at refused = same_kept p n rows (EachRow-weaker (λ x. x.seq ≡ n → x.message ≡ m) (λ x. x.seq ≡ n → p x ≡ false) (λ x is e. refused_at x e (is e)) rows (only_at n 0 rows m r at))
  where
    refused_at : (x : Numbered) → x.seq ≡ n → x.message ≡ m → p x ≡ false
    refused_at x e is = ap (λ (k : ℕ). p (record { seq = k; message = x.message })) e ∙ (ap (λ (y : Message). p (record { seq = n; message = y })) is ∙ refused)

-- each row below a number passes the test
abbrev pub PassBelow : (Numbered → Bool) → ℕ → List Numbered → Type 0
PassBelow p n rows = EachRow (λ r. r.seq < n → p r ≡ true) rows

pass_above : (p : Numbered → Bool) (n low : ℕ) (rows : List Numbered) → Rises low (seqs rows) → n ≤ low → PassBelow p n rows
pass_above p n low [] r le = tt
pass_above p n low (row ∷ rows) r le = (let h = r.0 in ((λ lt. absurd (omega (arith, lt, h, le))), pass_above p n (suc row.seq) rows r.1 (omega (arith, h, le))))

pass_until : (p : Numbered → Bool) (k n low : ℕ) (items : List (ℕ × Message)) → Rises low (keys_of items) → number_from k items ≡ Some n → PassBelow p k (rows_of items) → PassBelow p n (rows_of items)
pass_until p k n low [] r h pass = tt
pass_until p k n low (x ∷ xs) r h pass = elim (cases_Bool (leb k x.0)) [
  | inl here ↦
      (let e = same_Some x.0 n (rw here at h) in
      ((λ lt. absurd (omega (arith, lt, e))), pass_above p n (suc x.0) (rows_of xs) (subst (λ ns. Rises (suc x.0) ns) (sym (seqs-items xs)) r.1) (omega (arith, e))))
  | inr other ↦
      (let lt = leb-false k x.0 other in
      ((λ _. pass.0 lt), pass_until p k n (suc x.0) xs r.1 (rw other at h) pass.1))
]

pub rows_rise : (items : List (ℕ × Message)) → Rises 0 (keys_of items) → Rises 0 (seqs (rows_of items))
rows_rise items r = subst (λ ns. Rises 0 ns) (sym (seqs-items items)) r

-- what is below the first number from k on passes where what is below k does
pub pass_to : (p : Numbered → Bool) (k n : ℕ) (items : List (ℕ × Message)) → Rises 0 (keys_of items) → number_from k items ≡ Some n → PassBelow p k (rows_of items) → PassBelow p n (rows_of items)
pass_to p k n items r h pass = pass_until p k n 0 items r h pass

-- and with the row of that number
pub pass_on : (p : Numbered → Bool) (n : ℕ) (rows : List Numbered) → PassBelow p n rows → EachRow (λ r. r.seq ≡ n → p r ≡ true) rows → PassBelow p (n + 1) rows
pass_on p n [] pass here = tt
pass_on p n (row ∷ rows) pass here = ((λ lt. elim (cases_eq row.seq n) [ inl e ↦ here.0 e | inr other ↦ pass.0 (omega (arith, lt, other)) ]), pass_on p n rows pass.1 here.1)

pub filter_all : (p : Numbered → Bool) (rows : List Numbered) → EachRow (λ r. p r ≡ true) rows → rows ≡ filter p rows
filter_all p [] h = refl
filter_all p (row ∷ rows) h = rw h.0 (ap (λ rs. row ∷ rs) (filter_all p rows h.1))

pub pass_each : (p : Numbered → Bool) (n : ℕ) (rows : List Numbered) → PassBelow p n rows → EachRow (λ r. n ≤ r.seq → p r ≡ true) rows → EachRow (λ r. p r ≡ true) rows
pass_each p n [] pass rest = tt
pass_each p n (row ∷ rows) pass rest = (elim (cases_lt row.seq n) [ inl lt ↦ pass.0 lt | inr le ↦ rest.0 le ], pass_each p n rows pass.1 rest.1)

pub none_past : (P : Numbered → Type 0) (k : ℕ) (items : List (ℕ × Message)) → number_from k items ≡ None → EachRow (λ r. k ≤ r.seq → P r) (rows_of items)
none_past P k [] h = tt
none_past P k (x ∷ xs) h = elim (cases_Bool (leb k x.0)) [
  | inl here ↦ absurd (let q = rw here at h in cc)
  | inr other ↦ (let lt = leb-false k x.0 other in ((λ le. absurd (omega (arith, lt, le))), none_past P k xs (rw other at h)))
]

-- no row is left to be looked at
pub walk_ends : (p : Numbered → Bool) (k : ℕ) (items : List (ℕ × Message)) → number_from k items ≡ None → PassBelow p k (rows_of items) → rows_of items ≡ filter p (rows_of items)
walk_ends p k items h pass = filter_all p (rows_of items) (pass_each p k (rows_of items) pass (none_past (λ r. p r ≡ true) k items h))

-- those that are left pass anyway
pub walk_stops : (p : Numbered → Bool) (n : ℕ) (rows : List Numbered) → PassBelow p n rows → ((r : Numbered) → n ≤ r.seq → p r ≡ true) → rows ≡ filter p rows
walk_stops p n rows pass rest = filter_all p rows (pass_each p n rows pass (each_of (λ r. n ≤ r.seq → p r ≡ true) rows rest))
  where
    each_of : (P : Numbered → Type 0) (rows : List Numbered) → ((r : Numbered) → P r) → EachRow P rows
    each_of P [] f = tt
    each_of P (row ∷ rows) f = (f row, each_of P rows f)

-- none is left behind the last
pub walk_done : (p : Numbered → Bool) (n l : ℕ) (rows : List Numbered) → PassBelow p (n + 1) rows → EachRow (λ r. r.seq ≤ l) rows → l ≤ n → rows ≡ filter p rows
walk_done p n l rows pass bound le = filter_all p rows (pass_each p (n + 1) rows pass (EachRow-weaker (λ r. r.seq ≤ l) (λ r. n + 1 ≤ r.seq → p r ≡ true) (λ r b q. absurd (omega (arith, b, q, le))) rows bound))

bound_low : (l low : ℕ) (items : List (ℕ × Message)) → Rises low (keys_of items) → last_number items ≡ Some l → EachRow (λ r. r.seq ≤ l) (rows_of items)
bound_low l low [] r h = tt
bound_low l low (x ∷ xs) r h = elim (either_cases (last_number xs) (Some x.0) l h) [
  | inl o ↦ (let q = last_least (suc x.0) l xs r.1 o in (omega (arith, q), bound_low l (suc x.0) xs r.1 o))
  | inr p ↦ (let q = same_Some x.0 l p.1 in (omega (arith, q), nothing_each (λ r. r.seq ≤ l) xs p.0))
]
  where
    nothing_each : (P : Numbered → Type 0) (xs : List (ℕ × Message)) → last_number xs ≡ None → EachRow P (rows_of xs)
    nothing_each P [] h = tt
    nothing_each P (x ∷ xs) h = absurd (either_never (last_number xs) x.0 h)

-- no row has a number above the last one
pub bounded : (l : ℕ) (items : List (ℕ × Message)) → Rises 0 (keys_of items) → last_number items ≡ Some l → EachRow (λ r. r.seq ≤ l) (rows_of items)
bounded l items r h = bound_low l 0 items r h

pub none_at_all : {V : Type 0} (items : List (ℕ × V)) → last_number items ≡ None → items ≡ []
none_at_all [] h = refl
none_at_all (x ∷ xs) h = absurd (either_never (last_number xs) x.0 h)

pub pass_none : (p : Numbered → Bool) (rows : List Numbered) → PassBelow p 0 rows
pass_none p [] = tt
pass_none p (row ∷ rows) = ((λ lt. absurd (omega (arith, lt))), pass_none p rows)

pub none_left : (P : Numbered → Type 0) (n : ℕ) (rows : List Numbered) → EachRow (λ r. r.seq ≡ n → P r) (without n rows)
none_left P n [] = tt
none_left P n (row ∷ rows) = elim (cases_eq row.seq n) [
  | inl same ↦ rw (eq-eqb row.seq n same) (none_left P n rows)
  | inr other ↦ rw (ne_eqb row.seq n other) ((λ e. absurd (other e)), none_left P n rows)
]

-- one row was looked at, and taken away where the test refuses it
pub record Looked (p : Numbered → Bool) (n : ℕ) (old new : List Numbered) : Type 0 where
  pub stay : filter p new ≡ filter p old
  pub passes : EachRow (λ r. r.seq ≡ n → p r ≡ true) new

-- what holds of each row holds of those that are left
pub each_left : (P : Numbered → Type 0) (n : ℕ) (old new : List Numbered) → (new ≡ old) ⊎ (new ≡ without n old) → EachRow P old → EachRow P new
each_left P n old new left h = elim left [
  | inl all ↦ subst (λ (rs : List Numbered). EachRow P rs) (sym all) h
  | inr fewer ↦ subst (λ (rs : List Numbered). EachRow P rs) (sym fewer) (EachRow-filter P (λ row. not (eqb row.seq n)) old h)
]

-- whether the test refuses the row that is there
abbrev pub refuses : (Numbered → Bool) → ℕ → Option Message → Bool
refuses p n None = false
refuses p n (Some m) = not (p (record { seq = n; message = m }))

refused_at : (p : Numbered → Bool) (n : ℕ) (o : Option Message) → refuses p n o ≡ true → (m : Message) × (o ≡ Some m) × (p (record { seq = n; message = m }) ≡ false)
refused_at p n None h = absurd (cc)
refused_at p n (Some m) h = (m, refl, not-true (p (record { seq = n; message = m })) h)

pub looked_away : (p : Numbered → Bool) (n : ℕ) (old new : List Numbered) → Rises 0 (seqs old) → refuses p n (message_at n old) ≡ true → new ≡ without n old → Looked p n old new
looked_away p n old new r h is =
    let m = refused_at p n (message_at n old) h in
    record {
      stay = ap (λ (rs : List Numbered). filter p rs) is ∙ taken_away p n old m.0 r m.1 m.2;
      passes = subst (λ (rs : List Numbered). EachRow (λ x. x.seq ≡ n → p x ≡ true) rs) (sym is) (none_left (λ x. p x ≡ true) n old);
    }

passes_at : (p : Numbered → Bool) (n : ℕ) (o : Option Message) (rows : List Numbered) → Rises 0 (seqs rows) → message_at n rows ≡ o → refuses p n o ≡ false → EachRow (λ r. r.seq ≡ n → p r ≡ true) rows
passes_at p n None rows r at h = EachRow-weaker (λ x. x.seq ≢ n) (λ x. x.seq ≡ n → p x ≡ true) (λ x ne e. absurd (ne e)) rows (each_from_none rows n at)
passes_at p n (Some m) rows r at h = EachRow-weaker (λ x. x.seq ≡ n → x.message ≡ m) (λ x. x.seq ≡ n → p x ≡ true) (λ x is e. passed x e (is e)) rows (only_at n 0 rows m r at)
  where
    passed : (x : Numbered) → x.seq ≡ n → x.message ≡ m → p x ≡ true
    passed x e is = ap (λ (k : ℕ). p (record { seq = k; message = x.message })) e ∙ (ap (λ (y : Message). p (record { seq = n; message = y })) is ∙ not-false (p (record { seq = n; message = m })) h)

pub looked_over : (p : Numbered → Bool) (n : ℕ) (rows : List Numbered) → Rises 0 (seqs rows) → refuses p n (message_at n rows) ≡ false → Looked p n rows rows
looked_over p n rows r h = record { stay = refl; passes = passes_at p n (message_at n rows) rows r refl h }

-- ---- the first row of an expiry

pub front_none : (max_age now : ℕ) (items : List (ℕ × Message)) → entry_from 0 items ≡ None → expired_front max_age now (rows_of items) ≡ None
front_none max_age now [] h = refl
front_none max_age now (x ∷ xs) h = absurd (let q = rw (le-leb 0 x.0 (omega arith)) at h in cc)

pub front_at : (max_age now : ℕ) (items : List (ℕ × Message)) (e : ℕ × Message) → entry_from 0 items ≡ Some e → expired_front max_age now (rows_of items) ≡ cond (not (eqb max_age 0) && leb (e.1.time + max_age) now) (Some e.0) None
front_at max_age now [] e h = absurd (cc)
front_at max_age now (x ∷ xs) e h = ap (λ (p : ℕ × Message). cond (not (eqb max_age 0) && leb (p.1.time + max_age) now) (Some p.0) None) (same_Some x e (rw (le-leb 0 x.0 (omega arith)) at h))

pub number_ge : {V : Type 0} (k n : ℕ) (items : List (ℕ × V)) → number_from k items ≡ Some n → k ≤ n
number_ge k n [] h = absurd (cc)
number_ge k n (x ∷ xs) h = elim (cases_Bool (leb k x.0)) [
  | inl here ↦ (let e = same_Some x.0 n (rw here at h) in omega (arith, e, leb-true k x.0 here))
  | inr other ↦ number_ge k n xs (rw other at h)
]

not_not : (b : Bool) → not (not b) ≡ b
not_not true = refl
not_not false = refl

pub purge_refuses : (pattern : List ℕ) (below n : ℕ) (o : Option Message) → n < below → refuses (λ row. not (is_purged pattern below row)) n o ≡ matches_in pattern o
purge_refuses pattern below n None lt = refl
purge_refuses pattern below n (Some m) lt = rw (lt-ltb n below lt) (not_not (matches pattern m.subject))

pub expiry_refuses : (max_age now n : ℕ) (o : Option Message) → refuses (λ row. not (is_expired max_age now row)) n o ≡ expired_in max_age now o
expiry_refuses max_age now n None = refl
expiry_refuses max_age now n (Some m) = not_not (not (eqb max_age 0) && leb (m.time + max_age) now)

pub not_below : (pattern : List ℕ) (below n : ℕ) (r : Numbered) → below ≤ n → n ≤ r.seq → not (is_purged pattern below r) ≡ true
not_below pattern below n r le at = rw (le-ltb r.seq below (omega (arith, le, at))) refl

pub purge_told : (pattern : List ℕ) (below n : ℕ) (items : List (ℕ × Message)) (o : Option Message) (r : Bool) → n < below → r ≡ matches_in pattern o → o ≡ value_at n items → refuses (λ row. not (is_purged pattern below row)) n (message_at n (rows_of items)) ≡ r
purge_told pattern below n items o r lt told at = purge_refuses pattern below n (message_at n (rows_of items)) lt ∙ sym (told ∙ ap (λ (m : Option Message). matches_in pattern m) (at ∙ message_at-items n items))

pub expiry_told : (max_age now n : ℕ) (items : List (ℕ × Message)) (o : Option Message) (r : Bool) → r ≡ expired_in max_age now o → o ≡ value_at n items → refuses (λ row. not (is_expired max_age now row)) n (message_at n (rows_of items)) ≡ r
expiry_told max_age now n items o r told at = expiry_refuses max_age now n (message_at n (rows_of items)) ∙ sym (told ∙ ap (λ (m : Option Message). expired_in max_age now m) (at ∙ message_at-items n items))

-- one step of a walk
pub walked : (p : Numbered → Bool) (k n : ℕ) (items items' : List (ℕ × Message)) → Rises 0 (keys_of items) → number_from k items ≡ Some n → PassBelow p k (rows_of items) → (rows_of items' ≡ rows_of items) ⊎ (rows_of items' ≡ without n (rows_of items)) → EachRow (λ r. r.seq ≡ n → p r ≡ true) (rows_of items') → PassBelow p (n + 1) (rows_of items')
walked p k n items items' r h pass left here = pass_on p n (rows_of items') (each_left (λ x. x.seq < n → p x ≡ true) n (rows_of items) (rows_of items') left (pass_to p k n items r h pass)) here
