-- A chain skips holes alone: as it goes on, and as the history grows.
use Rattle.std.proofs.Common.{◌≡◌, ℕ, zero, suc, ◌<◌, ◌≤◌, max, Bool, true, false, cond, eqb, leb, List, [], ◌∷◌, ◌++◌, take, Option, Some, None, refl, sym, ap, ◌∙◌, subst, arith, ◌⊎◌, inl, inr}
use Rattle.std.specs.Prelude.{filter, Contains}
use Rattle.std.proofs.lemmas.Bool.{eqb-true, leb-true, le-leb, and_parts, and_from, cases_lt}
use Rattle.std.proofs.lemmas.Bool.Decides.{nat_tests}
use Rattle.std.proofs.lemmas.List.Elements.{Contains-append_left, Contains-append_right, Contains-append_cases}
use Rattle.nats_text.specs.declared.message.Message.{Message}
use Rattle.stream_fold.specs.declared.config.Config.{Config}
use Rattle.stream_fold.specs.declared.entry.Entry.{Entry}
use Rattle.stream_fold.specs.declared.entry.Entry.TheVariants.{Put, Del, Purge, Expire, Bind, Limits}
use Rattle.stream_fold.specs.declared.entry.Numbered.{Numbered}
use Rattle.stream_fold.specs.Histories.{History, either, put, put_by, number_put, last, kept, message_at, IsHole, IsAbove, RiseFrom, NumbersRise}
use Rattle.stream_fold.specs.Laws.{HolesStay, PutsStay, KeptRise, KeptWerePut}
use Rattle.stream_fold.specs.Publishing.{is_next}
use Rattle.stream_fold.specs.RowLists.{EachRow, Rises, seqs}
use Rattle.push_consumer.specs.Chains.{IsWantedPut, SkipsHoles, next_of}
use Rattle.push_consumer.specs.Sends.{is_wanted}
use Rattle.push_consumer.proofs.Finding.{Rises-filter}

-- ---- numbers that were put

-- the only number that an entry puts is its own
put_by-number : (e : Entry) (s : ℕ) (m : Message) → put_by s e ≡ Some m → number_put e ≡ s
put_by-number (Put number message mark) s m = grind (arith, nat_tests)
put_by-number (Del number) s m = λ e. absurd (cc)
put_by-number (Purge pattern below) s m = λ e. absurd (cc)
put_by-number (Expire now) s m = λ e. absurd (cc)
put_by-number (Bind index incarnation start) s m = λ e. absurd (cc)
put_by-number (Limits config) s m = λ e. absurd (cc)

-- and it is above all that was reached
put_by-above : (e : Entry) (low s : ℕ) (m : Message) → IsAbove low e → put_by s e ≡ Some m → low < s
put_by-above (Put number message mark) low s m h e = let q = put_by-number (Put number message mark) s m e in omega (arith, h)
put_by-above (Del number) low s m h e = absurd (cc)
put_by-above (Purge pattern below) low s m h e = absurd (cc)
put_by-above (Expire now) low s m h e = absurd (cc)
put_by-above (Bind index incarnation start) low s m h e = absurd (cc)
put_by-above (Limits config) low s m h e = absurd (cc)

either_cases : {A : Type 0} (a b : Option A) (x : A) → either a b ≡ Some x → (a ≡ Some x) ⊎ (b ≡ Some x)
either_cases (Some y) b x e = inl e
either_cases None b x e = inr e

-- a number that was put is at most the last
pub put-below : (es : List Entry) (s : ℕ) (m : Message) → put s es ≡ Some m → s ≤ last es
put-below [] s m e = absurd (cc)
put-below (e ∷ es) s m h = elim (either_cases (put_by s e) (put s es) m h) [
  | inl here ↦ (let k = put_by-number e s m here in omega arith)
  | inr there ↦ (let ih = put-below es s m there in omega arith)
]

put-above : (es : List Entry) (low s : ℕ) (m : Message) → RiseFrom low es → put s es ≡ Some m → low < s
put-above [] low s m h e = absurd (cc)
put-above (x ∷ es) low s m h e = elim (either_cases (put_by s x) (put s es) m e) [
  | inl here ↦ put_by-above x low s m h.0 here
  | inr there ↦ (let ih = put-above es (max low (number_put x)) s m h.1 there in omega arith)
]

-- ---- the rows that are kept

Contains-behind : {X : Type 0} (x : X) (xs : List X) (y : X) → Contains xs y → Contains (x ∷ xs) y
Contains-behind x xs y (k, lt, e) = (suc k, omega arith, e)

Contains-none : {X : Type 0} (x : X) → Contains [] x → ⊥
Contains-none x (k, lt, e) = omega arith

Contains-cases : (x : ℕ) (xs : List ℕ) (y : ℕ) → Contains (x ∷ xs) y → (x ≡ y) ⊎ Contains xs y
Contains-cases x xs y (zero, lt, e) = inl e
Contains-cases x xs y (suc k, lt, e) = inr (k, omega arith, e)

-- the row of a number among these
row_at : (P : Numbered → Type 0) (rows : List Numbered) (s : ℕ) → EachRow P rows → Contains (seqs rows) s → (row : Numbered) × (row.seq ≡ s) × P row
row_at P [] s each h = absurd (Contains-none s h)
row_at P (row ∷ rows) s each h = elim (Contains-cases row.seq (seqs rows) s h) [
  | inl here ↦ (row, here, each.0)
  | inr there ↦ row_at P rows s each.1 there
]

found-step : (b c : Bool) (p : Numbered → Bool) (row : Numbered) (rest : List Numbered) (s : ℕ) (m : Message) (at : Option Message) → p row ≡ c → eqb row.seq s ≡ b → cond b (Some row.message) at ≡ Some m → p (record { seq = s; message = m }) ≡ true → (at ≡ Some m → Contains (seqs rest) s) → Contains (seqs (cond c (row ∷ rest) rest)) s
found-step true true p row rest s m at t is e q ih = (0, omega arith, eqb-true row.seq s is)
found-step true false p row rest s m at t is e q ih =
    let number : row.seq ≡ s = eqb-true row.seq s is in
    let message : row.message ≡ m = cc in
    let same : p (record { seq = row.seq; message = row.message }) ≡ p (record { seq = s; message = m }) = ap (λ n. p (record { seq = n; message = row.message })) number ∙ ap (λ x. p (record { seq = s; message = x })) message in
    absurd (let f : false ≡ true = sym t ∙ (same ∙ q) in cc)
found-step false true p row rest s m at t is e q ih = Contains-behind row.seq (seqs rest) s (ih e)
found-step false false p row rest s m at t is e q ih = ih e

-- a kept message that passes a test is among those that do
found_in : (p : Numbered → Bool) (rows : List Numbered) (s : ℕ) (m : Message) → message_at s rows ≡ Some m → p (record { seq = s; message = m }) ≡ true → Contains (seqs (filter p rows)) s
found_in p [] s m e t = absurd (cc)
found_in p (row ∷ rows) s m e t = found-step (eqb row.seq s) (p row) p row (filter p rows) s m (message_at s rows) refl refl e t (λ f. found_in p rows s m f t)

at-step : (b : Bool) (P : Numbered → Type 0) (row : Numbered) (s : ℕ) (m : Message) (at : Option Message) → eqb row.seq s ≡ b → cond b (Some row.message) at ≡ Some m → P row → (at ≡ Some m → P (record { seq = s; message = m })) → P (record { seq = s; message = m })
at-step true P row s m at is e h ih =
    let number : row.seq ≡ s = eqb-true row.seq s is in
    let message : row.message ≡ m = cc in
    subst (λ x. P (record { seq = s; message = x })) message (subst (λ n. P (record { seq = n; message = row.message })) number h)
at-step false P row s m at is e h ih = ih e

-- what holds of each row holds of the one that is found under a number
each_found : (P : Numbered → Type 0) (rows : List Numbered) (s : ℕ) (m : Message) → EachRow P rows → message_at s rows ≡ Some m → P (record { seq = s; message = m })
each_found P [] s m h e = absurd (cc)
each_found P (row ∷ rows) s m h e = at-step (eqb row.seq s) P row s m (message_at s rows) refl e h.0 (each_found P rows s m h.1)

hole-step : (h : History) (s : ℕ) (m : Message) (o : Option Message) → KeptWerePut → NumbersRise h.entries → put s h.entries ≡ Some m → message_at s (kept h) ≡ o → IsHole h s ⊎ (message_at s (kept h) ≡ Some m)
hole-step h s m None were rise p e = inl (record { positive = (let q = put-above h.entries 0 s m rise p in omega arith); reached = put-below h.entries s m p; gone = e })
hole-step h s m (Some other) were rise p e =
    let same : put s h.entries ≡ Some other = each_found (λ row. put row.seq h.entries ≡ Some row.message) (kept h) s other (were h rise) e in
    inr (e ∙ (sym same ∙ p))

-- a number that was put is a hole, or its message is kept
pub hole_or_kept : (h : History) (s : ℕ) (m : Message) → KeptWerePut → NumbersRise h.entries → put s h.entries ≡ Some m → IsHole h s ⊎ (message_at s (kept h) ≡ Some m)
hole_or_kept h s m were rise p = hole-step h s m (message_at s (kept h)) were rise p refl

-- ---- chains of numbers

Rises-append : (low : ℕ) (xs ys : List ℕ) → Rises low xs → Rises (next_of low xs) ys → Rises low (xs ++ ys)
Rises-append low [] ys h k = k
Rises-append low (x ∷ xs) ys h k = (h.0, Rises-append (suc x) xs ys h.1 k)

next_of-append : (low : ℕ) (xs ys : List ℕ) → next_of low (xs ++ ys) ≡ next_of (next_of low xs) ys
next_of-append low [] ys = refl
next_of-append low (x ∷ xs) ys = next_of-append (suc x) xs ys

next_of-below : (low top : ℕ) (xs : List ℕ) → ((s : ℕ) → Contains xs s → s ≤ top) → next_of low xs ≤ max low (suc top)
next_of-below low top [] h = omega arith
next_of-below low top (x ∷ xs) h =
    let le : x ≤ top = h x (0, omega arith, refl) in
    let ih = next_of-below (suc x) top xs (λ s q. h s (Contains-behind x xs s q)) in
    omega arith

Rises-take : (low k : ℕ) (rows : List Numbered) → Rises low (seqs rows) → Rises low (seqs (take k rows))
Rises-take low zero rows h = tt
Rises-take low (suc k) [] h = tt
Rises-take low (suc k) (row ∷ rows) h = (h.0, Rises-take (suc row.seq) k rows h.1)

Rises-from : (low lower : ℕ) (rows : List Numbered) → EachRow (λ row. low ≤ row.seq) rows → Rises lower (seqs rows) → Rises low (seqs rows)
Rises-from low lower [] each h = tt
Rises-from low lower (row ∷ rows) each h = (each.0, h.1)

member_above : (low : ℕ) (ns : List ℕ) (s : ℕ) → Rises low ns → Contains ns s → low ≤ s
member_above low [] s h q = absurd (Contains-none s q)
member_above low (n ∷ ns) s h q = elim (Contains-cases n ns s q) [
  | inl here ↦ (let le = h.0 in omega arith)
  | inr there ↦ (let ih = member_above (suc n) ns s h.1 there in let le = h.0 in omega arith)
]

-- of rows that rise, those below the last one taken are taken
taken : (low k : ℕ) (rows : List Numbered) (s : ℕ) → Rises low (seqs rows) → Contains (seqs rows) s → s < next_of low (seqs (take k rows)) → low ≤ s → Contains (seqs (take k rows)) s
taken low zero rows s h q lt le = absurd (omega arith)
taken low (suc k) [] s h q lt le = q
taken low (suc k) (row ∷ rows) s h q lt le = elim (Contains-cases row.seq (seqs rows) s q) [
  | inl here ↦ (0, omega arith, here)
  | inr there ↦ (let up : suc row.seq ≤ s = member_above (suc row.seq) (seqs rows) s h.1 there in
      Contains-behind row.seq (seqs (take k rows)) s (taken (suc row.seq) k rows s h.1 there lt up))
]

-- ---- rows

each_both : (P Q : Numbered → Type 0) (rows : List Numbered) → EachRow P rows → EachRow Q rows → EachRow (λ row. P row × Q row) rows
each_both P Q [] h k = tt
each_both P Q (row ∷ rows) h k = ((h.0, k.0), each_both P Q rows h.1 k.1)

each_weaker : (P Q : Numbered → Type 0) → ((row : Numbered) → P row → Q row) → (rows : List Numbered) → EachRow P rows → EachRow Q rows
each_weaker P Q f [] h = tt
each_weaker P Q f (row ∷ rows) h = (f row h.0, each_weaker P Q f rows h.1)

each_taken : (P : Numbered → Type 0) (k : ℕ) (rows : List Numbered) → EachRow P rows → EachRow P (take k rows)
each_taken P zero rows h = tt
each_taken P (suc k) [] h = tt
each_taken P (suc k) (row ∷ rows) h = (h.0, each_taken P k rows h.1)

passes-step : (b : Bool) (P : Numbered → Type 0) (row : Numbered) (rest : List Numbered) → (b ≡ true → P row) → EachRow P rest → EachRow P (cond b (row ∷ rest) rest)
passes-step true P row rest f h = (f refl, h)
passes-step false P row rest f h = h

each_passes : (p : Numbered → Bool) (P : Numbered → Type 0) → ((row : Numbered) → p row ≡ true → P row) → (rows : List Numbered) → EachRow P (filter p rows)
each_passes p P f [] = tt
each_passes p P f (row ∷ rows) = passes-step (p row) P row (filter p rows) (f row) (each_passes p P f rows)

each_filtered : (p : Numbered → Bool) (P : Numbered → Type 0) (rows : List Numbered) → EachRow P rows → EachRow P (filter p rows)
each_filtered p P [] h = tt
each_filtered p P (row ∷ rows) h = passes-step (p row) P row (filter p rows) (λ e. h.0) (each_filtered p P rows h.1)

-- ---- a chain goes on

-- a row that was put and that a filter wants
abbrev IsWantedRow : History → List (List ℕ) → Numbered → Type 0
IsWantedRow h filters row = (put row.seq h.entries ≡ Some row.message) × (is_wanted filters row.message.subject ≡ true)

wanted_rows : (h : History) (from : ℕ) (filters : List (List ℕ)) → KeptWerePut → NumbersRise h.entries → EachRow (IsWantedRow h filters) (filter (is_next from filters) (kept h))
wanted_rows h from filters were rise =
    each_both (λ row. put row.seq h.entries ≡ Some row.message) (λ row. is_wanted filters row.message.subject ≡ true) (filter (is_next from filters) (kept h))
    (each_filtered (is_next from filters) (λ row. put row.seq h.entries ≡ Some row.message) (kept h) (were h rise))
    (each_passes (is_next from filters) (λ row. is_wanted filters row.message.subject ≡ true) (λ row t. (and_parts (leb from row.seq) (is_wanted filters row.message.subject) t).1) (kept h))

rising_rows : (h : History) (from : ℕ) (filters : List (List ℕ)) → KeptRise → NumbersRise h.entries → Rises from (seqs (filter (is_next from filters) (kept h)))
rising_rows h from filters rises rise =
    Rises-from from 0 (filter (is_next from filters) (kept h))
    (each_passes (is_next from filters) (λ row. from ≤ row.seq) (λ row t. leb-true from row.seq (and_parts (leb from row.seq) (is_wanted filters row.message.subject) t).0) (kept h))
    (Rises-filter (is_next from filters) 0 (kept h) (rises h rise))

-- with more of the kept messages that it has still to send a chain skips holes alone
pub skips_more : (h : History) (start : ℕ) (filters : List (List ℕ)) (ns : List ℕ) (k : ℕ) → KeptRise → KeptWerePut → NumbersRise h.entries → SkipsHoles h start filters ns → SkipsHoles h start filters (ns ++ seqs (take k (filter (is_next (next_of start ns) filters) (kept h))))
skips_more h start filters ns k rises were rise ok =
    let from = next_of start ns in
    let rows = filter (is_next from filters) (kept h) in
    let more = seqs (take k rows) in
    let up : Rises from (seqs rows) = rising_rows h from filters rises rise in
    record {
      rises = Rises-append start ns more ok.rises (Rises-take from k rows up);
      members = λ s q. elim (Contains-append_cases ns more s q) [
        | inl old ↦ ok.members s old
        | inr new ↦ (let w = row_at (IsWantedRow h filters) (take k rows) s (each_taken (IsWantedRow h filters) k rows (wanted_rows h from filters were rise)) new in
            record { message = w.0.message; here = subst (λ n. put n h.entries ≡ Some w.0.message) w.1 w.2.0; taken = w.2.1 })
      ];
      no_other = λ s le lt w. elim (cases_lt s from) [
        | inl before ↦ (elim (ok.no_other s le before w) [ inl here ↦ inl (Contains-append_left ns more s here) | inr hole ↦ inr hole ])
        | inr past ↦ (elim (hole_or_kept h s w.message were rise w.here) [
          | inl hole ↦ inr hole
          | inr found ↦ inl (Contains-append_right ns more s
              (taken from k rows s up
              (found_in (is_next from filters) (kept h) s w.message found (and_from (leb from s) (is_wanted filters w.message.subject) (le-leb from s past) w.taken))
              (subst (λ n. s < n) (next_of-append start ns more) lt)
              past))
        ])
      ];
    }

-- nothing was sent yet
pub skips_none : (h : History) (start : ℕ) (filters : List (List ℕ)) → SkipsHoles h start filters []
skips_none h start filters = record {
  rises = tt;
  members = λ s q. absurd (Contains-none s q);
  no_other = λ s le lt w. absurd (omega arith);
}

-- ---- the history goes on

wanted_later : (c : Config) (es more : List Entry) (filters : List (List ℕ)) (s : ℕ) → PutsStay → NumbersRise (es ++ more) → IsWantedPut (record { config = c; entries = es }) filters s → IsWantedPut (record { config = c; entries = es ++ more }) filters s
wanted_later c es more filters s stay rise w = record {
  message = w.message;
  here = stay es more s rise (put-below es s w.message w.here) ∙ w.here;
  taken = w.taken;
}

wanted_before : (c : Config) (es more : List Entry) (filters : List (List ℕ)) (s : ℕ) → PutsStay → NumbersRise (es ++ more) → s ≤ last es → IsWantedPut (record { config = c; entries = es ++ more }) filters s → IsWantedPut (record { config = c; entries = es }) filters s
wanted_before c es more filters s stay rise le w = record {
  message = w.message;
  here = sym (stay es more s rise le) ∙ w.here;
  taken = w.taken;
}

-- a chain that skips holes alone does so as the history grows
pub skips_longer : (c : Config) (es more : List Entry) (start : ℕ) (filters : List (List ℕ)) (ns : List ℕ) → HolesStay → PutsStay → NumbersRise (es ++ more) → SkipsHoles (record { config = c; entries = es }) start filters ns → SkipsHoles (record { config = c; entries = es ++ more }) start filters ns
skips_longer c es more start filters ns holes stay rise ok =
    let reached = next_of-below start (last es) ns (λ s q. let w = ok.members s q in put-below es s w.message w.here) in
    record {
      rises = ok.rises;
      members = λ s q. wanted_later c es more filters s stay rise (ok.members s q);
      no_other = λ s le lt w. elim (ok.no_other s le lt (wanted_before c es more filters s stay rise (omega arith) w)) [
        | inl here ↦ inl here
        | inr hole ↦ inr (holes c es more s rise hole)
      ];
    }
