-- The next message that is to be sent, found by its number.
use Rattle.std.proofs.Common.{◌≡◌, ℕ, suc, ◌+◌, ◌<◌, ◌≤◌, Bool, true, false, cond, ◌&&◌, eqb, leb, List, [], ◌∷◌, ◌++◌, Option, Some, None, refl, sym, ap, ◌∙◌, arith}
use Rattle.std.specs.Prelude.{filter}
use Rattle.std.proofs.lemmas.Bool.{eqb-false, eq-eqb, ne_eqb, leb-true, le-leb, and_parts}
use Rattle.nats_text.specs.declared.message.Message.{Message}
use Rattle.stream_fold.specs.declared.entry.Numbered.{Numbered}
use Rattle.stream_fold.specs.Histories.{message_at}
use Rattle.stream_fold.specs.Publishing.{is_next, next_match}
use Rattle.stream_fold.specs.RowLists.{Rises, seqs}
use Rattle.push_consumer.specs.Sends.{is_wanted, numbers_from, row_of, rows_at, rows_from}

none-step : (b : Bool) (row : Numbered) (found : Option ℕ) (first rest : List ℕ) → cond b (Some row.seq) found ≡ None → (found ≡ None → rest ≡ []) → cond b (row.seq ∷ first) rest ≡ []
none-step true row found first rest e ih = absurd (cc)
none-step false row found first rest e ih = ih e

-- where no number is next, none is to be sent
none_next : (from : ℕ) (filters : List (List ℕ)) (rows : List Numbered) → next_match from filters rows ≡ None → numbers_from from filters rows ≡ []
none_next from filters [] e = refl
none_next from filters (row ∷ rows) e = none-step (is_next from filters row) row (next_match from filters rows) (numbers_from (row.seq + 1) filters rows) (numbers_from from filters rows) e (none_next from filters rows)

pub rows_none : (from : ℕ) (filters : List (List ℕ)) (rows : List Numbered) → next_match from filters rows ≡ None → rows_from from filters rows ≡ []
rows_none from filters rows e = ap (λ ns. rows_at ns rows) (none_next from filters rows e)

least-step : (b : Bool) (from n : ℕ) (row : Numbered) (found : Option ℕ) → (b ≡ true → from ≤ row.seq) → cond b (Some row.seq) found ≡ Some n → (found ≡ Some n → from ≤ n) → from ≤ n
least-step true from n row found le e ih = let le' : from ≤ row.seq = le refl in let q : row.seq ≡ n = cc in omega arith
least-step false from n row found le e ih = ih e

-- the next number is none below the one from which on it is sought
pub next-least : (from n : ℕ) (filters : List (List ℕ)) (rows : List Numbered) → next_match from filters rows ≡ Some n → from ≤ n
next-least from n filters [] e = absurd (cc)
next-least from n filters (row ∷ rows) e = least-step (is_next from filters row) from n row (next_match from filters rows) (λ t. leb-true from row.seq (and_parts (leb from row.seq) (is_wanted filters row.message.subject) t).0) e (next-least from n filters rows)

later-step : (b c w : Bool) → (c ≡ true → b ≡ true) → (b && w) ≡ false → (c && w) ≡ false
later-step b false w f e = refl
later-step true true w f e = e
later-step false true w f e = absurd (let q : false ≡ true = f refl in cc)

-- what isn't next from a number on is not next from a later one on
later : (from more : ℕ) (filters : List (List ℕ)) (row : Numbered) → from ≤ more → is_next from filters row ≡ false → is_next more filters row ≡ false
later from more filters row le e = later-step (leb from row.seq) (leb more row.seq) (is_wanted filters row.message.subject) (λ t. let q : more ≤ row.seq = leb-true more row.seq t in le-leb from row.seq (omega arith)) e

not_again : (filters : List (List ℕ)) (row : Numbered) (n : ℕ) → row.seq ≡ n → is_next (n + 1) filters row ≡ false
not_again filters row n e = later-step false (leb (n + 1) row.seq) (is_wanted filters row.message.subject) (λ t. absurd (let q : n + 1 ≤ row.seq = leb-true (n + 1) row.seq t in omega arith)) refl

next-step : (b c : Bool) (row : Numbered) (n : ℕ) (found : Option ℕ) (filters : List (List ℕ)) (rows : List Numbered) (rest : List ℕ) → cond b (Some row.seq) found ≡ Some n → (found ≡ Some n → rest ≡ n ∷ numbers_from (n + 1) filters rows) → c ≡ false → cond b (row.seq ∷ numbers_from (row.seq + 1) filters rows) rest ≡ n ∷ cond c (row.seq ∷ numbers_from (row.seq + 1) filters rows) (numbers_from (n + 1) filters rows)
next-step b true row n found filters rows rest e ih f = absurd (cc)
next-step true false row n found filters rows rest e ih f = let q : row.seq ≡ n = cc in ap (λ k. k ∷ numbers_from (k + 1) filters rows) q
next-step false false row n found filters rows rest e ih f = ih e

again-step : (b : Bool) (from n : ℕ) (filters : List (List ℕ)) (row : Numbered) (found : Option ℕ) → is_next from filters row ≡ b → cond b (Some row.seq) found ≡ Some n → (found ≡ Some n → from ≤ n) → is_next (n + 1) filters row ≡ false
again-step true from n filters row found is e least = not_again filters row n (let q : row.seq ≡ n = cc in q)
again-step false from n filters row found is e least = later from (n + 1) filters row (let q : from ≤ n = least e in omega arith) is

-- the next number, and behind it those from the one after it on
next_numbers : (from n : ℕ) (filters : List (List ℕ)) (rows : List Numbered) → next_match from filters rows ≡ Some n → numbers_from from filters rows ≡ n ∷ numbers_from (n + 1) filters rows
next_numbers from n filters [] e = absurd (cc)
next_numbers from n filters (row ∷ rows) e =
    next-step (is_next from filters row) (is_next (n + 1) filters row) row n (next_match from filters rows) filters rows (numbers_from from filters rows) e (next_numbers from n filters rows)
    (again-step (is_next from filters row) from n filters row (next_match from filters rows) refl e (next-least from n filters rows))

kept-step : (b c : Bool) (row : Numbered) (n : ℕ) (found : Option ℕ) (at : Option Message) → eqb row.seq n ≡ c → cond b (Some row.seq) found ≡ Some n → (found ≡ Some n → (m : Message) × (at ≡ Some m)) → (m : Message) × (cond c (Some row.message) at ≡ Some m)
kept-step b true row n found at is e ih = (row.message, refl)
kept-step true false row n found at is e ih = absurd (eqb-false row.seq n is (let q : row.seq ≡ n = cc in q))
kept-step false false row n found at is e ih = ih e

-- under the next number a message is kept
pub next_kept : (from n : ℕ) (filters : List (List ℕ)) (rows : List Numbered) → next_match from filters rows ≡ Some n → (m : Message) × (message_at n rows ≡ Some m)
next_kept from n filters [] e = absurd (cc)
next_kept from n filters (row ∷ rows) e = kept-step (is_next from filters row) (eqb row.seq n) row n (next_match from filters rows) (message_at n rows) refl e (next_kept from n filters rows)

-- the next message, and behind it those from the number after its own on
pub rows_next : (from n : ℕ) (filters : List (List ℕ)) (rows : List Numbered) (m : Message) → next_match from filters rows ≡ Some n → message_at n rows ≡ Some m → rows_from from filters rows ≡ record { seq = n; message = m } ∷ rows_from (n + 1) filters rows
rows_next from n filters rows m e k =
    ap (λ ns. rows_at ns rows) (next_numbers from n filters rows e) ∙ ap (λ o. row_of n o ++ rows_at (numbers_from (n + 1) filters rows) rows) k

-- ---- rows whose numbers rise

cond-rises : (low : ℕ) (b : Bool) (xs ys : List Numbered) → Rises low (seqs xs) → Rises low (seqs ys) → Rises low (seqs (cond b xs ys))
cond-rises low true xs ys h k = h
cond-rises low false xs ys h k = k

pub Rises-weaker : (low lower : ℕ) (xs : List ℕ) → lower ≤ low → Rises low xs → Rises lower xs
Rises-weaker low lower [] le h = tt
Rises-weaker low lower (x ∷ xs) le h = (let q = h.0 in omega arith, h.1)

pub Rises-filter : (p : Numbered → Bool) (low : ℕ) (rows : List Numbered) → Rises low (seqs rows) → Rises low (seqs (filter p rows))
Rises-filter p low [] h = tt
Rises-filter p low (row ∷ rows) h =
    let ih = Rises-filter p (suc row.seq) rows h.1 in
    cond-rises low (p row) (row ∷ filter p rows) (filter p rows) (h.0, ih) (Rises-weaker (suc row.seq) low (seqs (filter p rows)) (let q = h.0 in omega arith) ih)

-- from a number on that none is below, the filters alone decide
above : (from more : ℕ) (filters : List (List ℕ)) (rows : List Numbered) → from ≤ more → Rises more (seqs rows) → filter (is_next more filters) rows ≡ filter (is_next from filters) rows
above from more filters [] le h = refl
above from more filters (row ∷ rows) le h =
    let up : more ≤ row.seq = h.0 in
    let same : is_next more filters row ≡ is_next from filters row = ap (λ b. b && is_wanted filters row.message.subject) (le-leb more row.seq up ∙ sym (le-leb from row.seq (omega arith))) in
    let ih = above from more filters rows le (Rises-weaker (suc row.seq) more (seqs rows) (omega arith) h.1) in
    ap (λ b. cond b (row ∷ filter (is_next more filters) rows) (filter (is_next more filters) rows)) same ∙ ap (λ rs. cond (is_next from filters row) (row ∷ rs) rs) ih

numbers-step : (b : Bool) (row : Numbered) (first rest : List ℕ) (rows : List Numbered) → (b ≡ true → first ≡ seqs rows) → rest ≡ seqs rows → cond b (row.seq ∷ first) rest ≡ seqs (cond b (row ∷ rows) rows)
numbers-step true row first rest rows f e = ap (λ ns. row.seq ∷ ns) (f refl)
numbers-step false row first rest rows f e = e

numbers-filter : (from low : ℕ) (filters : List (List ℕ)) (rows : List Numbered) → Rises low (seqs rows) → numbers_from from filters rows ≡ seqs (filter (is_next from filters) rows)
numbers-filter from low filters [] h = refl
numbers-filter from low filters (row ∷ rows) h =
    numbers-step (is_next from filters row) row (numbers_from (row.seq + 1) filters rows) (numbers_from from filters rows) (filter (is_next from filters) rows)
    (λ t. let le : from ≤ row.seq = leb-true from row.seq (and_parts (leb from row.seq) (is_wanted filters row.message.subject) t).0 in
    numbers-filter (row.seq + 1) (suc row.seq) filters rows h.1 ∙ ap seqs (above from (row.seq + 1) filters rows (omega arith) (Rises-weaker (suc row.seq) (row.seq + 1) (seqs rows) (omega arith) h.1)))
    (numbers-filter from (suc row.seq) filters rows h.1)

-- numbers above that of the first row are looked up behind it
rows_at-behind : (row : Numbered) (rows : List Numbered) (low : ℕ) (ns : List ℕ) → row.seq < low → Rises low ns → rows_at ns (row ∷ rows) ≡ rows_at ns rows
rows_at-behind row rows low [] lt h = refl
rows_at-behind row rows low (n ∷ ns) lt h =
    let up : low ≤ n = h.0 in
    let other : eqb row.seq n ≡ false = ne_eqb row.seq n (λ q. omega arith) in
    ap (λ b. row_of n (cond b (Some row.message) (message_at n rows)) ++ rows_at ns (row ∷ rows)) other
    ∙ ap (λ rs. row_of n (message_at n rows) ++ rs) (rows_at-behind row rows (suc n) ns (omega arith) h.1)

at-step : (b c : Bool) (row : Numbered) (rows rest : List Numbered) → c ≡ true → rows_at (seqs rest) (row ∷ rows) ≡ rest → eqb row.seq row.seq ≡ c → rows_at (seqs (cond b (row ∷ rest) rest)) (row ∷ rows) ≡ cond b (row ∷ rest) rest
at-step false c row rows rest t e is = e
at-step true c row rows rest t e is = ap (λ b. row_of row.seq (cond b (Some row.message) (message_at row.seq rows)) ++ rows_at (seqs rest) (row ∷ rows)) (is ∙ t) ∙ ap (λ rs. row ∷ rs) e

rows_at-filter : (p : Numbered → Bool) (low : ℕ) (rows : List Numbered) → Rises low (seqs rows) → rows_at (seqs (filter p rows)) rows ≡ filter p rows
rows_at-filter p low [] h = refl
rows_at-filter p low (row ∷ rows) h =
    at-step (p row) (eqb row.seq row.seq) row rows (filter p rows) (eq-eqb row.seq row.seq refl)
    (rows_at-behind row rows (suc row.seq) (seqs (filter p rows)) (omega arith) (Rises-filter p (suc row.seq) rows h.1) ∙ rows_at-filter p (suc row.seq) rows h.1)
    refl

-- of rows whose numbers rise, those are to be sent that are next from the number on
pub sends_wanted : (from : ℕ) (filters : List (List ℕ)) (rows : List Numbered) → Rises 0 (seqs rows) → rows_from from filters rows ≡ filter (is_next from filters) rows
sends_wanted from filters rows h = ap (λ ns. rows_at ns rows) (numbers-filter from 0 filters rows h) ∙ rows_at-filter (is_next from filters) 0 rows h
