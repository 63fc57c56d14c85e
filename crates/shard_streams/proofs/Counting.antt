-- How many of the messages that were kept are gone after an entry, by the two counts.
use Rattle.std.proofs.Common.{◌≡◌, ◌≢◌, ℕ, suc, ◌+◌, ◌<◌, ◌≤◌, Bool, true, false, cond, eqb, ◌⊎◌, List, [], ◌∷◌, ◌++◌, length, Option, Some, is_none, inl, inr, refl, sym, ap, ◌∙◌, subst, arith}
use Rattle.std.specs.Prelude.{◌-◌, count_by, filter, nat_le}
use Rattle.std.proofs.lemmas.Bool.{eq-eqb, eqb-false, lt-leb, ne_eqb}
use Rattle.std.proofs.lemmas.List.{length-append}
use Rattle.std.proofs.lemmas.List.Sums.{sum_by-cons, sum_by_push}
use Rattle.nats_text.specs.declared.message.Message.{Message}
use Rattle.stream_fold.specs.declared.config.Config.{Config}
use Rattle.stream_fold.specs.declared.entry.Numbered.{Numbered}
use Rattle.stream_fold.specs.Histories.{are_within, has_subject_of, limited, message_at, newest_of_each, newest_of_subjects, newest_within}
use Rattle.stream_fold.specs.RowLists.{EachRow, Rises, seqs}
use Rattle.stream_fold.proofs.KeptRows.{message_at-none}

-- ---- parts

-- the first list is the second without some of its rows
abbrev pub IsPart : List Numbered → List Numbered → Type 0
IsPart xs [] = xs ≡ []
IsPart xs (y ∷ ys) = IsPart xs ys ⊎ ((rest : List Numbered) × (xs ≡ y ∷ rest) × IsPart rest ys)

pub part-refl : (rows : List Numbered) → IsPart rows rows
part-refl [] = refl
part-refl (row ∷ rows) = inr (rows, refl, part-refl rows)

part-goes : (b : Bool) (xs ys : List Numbered) (y : Numbered) → IsPart xs ys → IsPart (cond b xs (y ∷ xs)) (y ∷ ys)
part-goes true xs ys y h = inl h
part-goes false xs ys y h = inr (xs, refl, h)

part-stays : (b : Bool) (xs ys : List Numbered) (y : Numbered) → IsPart xs ys → IsPart (cond b (y ∷ xs) xs) (y ∷ ys)
part-stays true xs ys y h = inr (xs, refl, h)
part-stays false xs ys y h = inl h

pub part-filter : (p : Numbered → Bool) (rows : List Numbered) → IsPart (filter p rows) rows
part-filter p [] = refl
part-filter p (row ∷ rows) = part-stays (p row) (filter p rows) rows row (part-filter p rows)

part-newest_of_each : (n : ℕ) (rows : List Numbered) → IsPart (newest_of_each n rows) rows
part-newest_of_each n [] = refl
part-newest_of_each n (row ∷ rows) = part-goes (nat_le n (count_by (has_subject_of row) rows)) (newest_of_each n rows) rows row (part-newest_of_each n rows)

part-within : (c : Config) (rows : List Numbered) → IsPart (newest_within c rows) rows
part-within c [] = refl
part-within c (row ∷ rows) = by (are_within c (row ∷ rows)) (part-within c rows)
  where
    by : (b : Bool) → IsPart (newest_within c rows) rows → IsPart (cond b (row ∷ rows) (newest_within c rows)) (row ∷ rows)
    by true h = part-refl (row ∷ rows)
    by false h = inl h

part-subjects : (most : ℕ) (rows : List Numbered) → IsPart (newest_of_subjects most rows) rows
part-subjects most rows = by (eqb most 0)
  where
    by : (b : Bool) → IsPart (cond b rows (newest_of_each most rows)) rows
    by true = part-refl rows
    by false = part-newest_of_each most rows

pub part-trans : (xs ys zs : List Numbered) → IsPart xs ys → IsPart ys zs → IsPart xs zs
part-trans xs ys [] h k = let z : IsPart xs [] = subst (λ (l : List Numbered). IsPart xs l) k h in z
part-trans xs ys (z ∷ zs) h (inl k) = inl (part-trans xs ys zs h k)
part-trans xs ys (z ∷ zs) h (inr k) = through (subst (λ (l : List Numbered). IsPart xs l) k.1 h) (λ (l : List Numbered) (g : IsPart l k.0). part-trans l k.0 zs g k.2)
  where
    through : IsPart xs (z ∷ k.0) → ((l : List Numbered) → IsPart l k.0 → IsPart l zs) → IsPart xs (z ∷ zs)
    through (inl g) rest = inl (rest xs g)
    through (inr g) rest = inr (g.0, g.1, rest g.0 g.2)

-- the limits only take rows away
pub part-limited : (c : Config) (rows : List Numbered) → IsPart (limited c rows) rows
part-limited c rows = part-trans (limited c rows) (newest_of_subjects c.max_per_subject rows) rows (part-within c (newest_of_subjects c.max_per_subject rows)) (part-subjects c.max_per_subject rows)

-- ---- counts

-- the row isn't among these
abbrev pub is_gone : List Numbered → Numbered → Bool
is_gone rows row = is_none (message_at row.seq rows)

rises-weaker : (low lower : ℕ) (xs : List ℕ) → lower ≤ low → Rises low xs → Rises lower xs
rises-weaker low lower [] le h = tt
rises-weaker low lower (x ∷ xs) le h = (omega arith, h.1)

-- each row of a part of rows that rise has a number at least this
rises-each : (low : ℕ) (xs ys : List Numbered) → IsPart xs ys → Rises low (seqs ys) → EachRow (λ row. low ≤ row.seq) xs
rises-each low xs [] h r = subst (λ (l : List Numbered). EachRow (λ row. low ≤ row.seq) l) (sym h) tt
rises-each low xs (y ∷ ys) (inl h) r = rises-each low xs ys h (rises-weaker (suc y.seq) low (seqs ys) (omega arith) r.1)
rises-each low xs (y ∷ ys) (inr h) r = subst (λ (l : List Numbered). EachRow (λ row. low ≤ row.seq) l) (sym h.1) (r.0, rises-each low h.0 ys h.2 (rises-weaker (suc y.seq) low (seqs ys) (omega arith) r.1))

each-apart : (seq : ℕ) (rows : List Numbered) → EachRow (λ row. suc seq ≤ row.seq) rows → EachRow (λ row. row.seq ≢ seq) rows
each-apart seq [] h = tt
each-apart seq (row ∷ rows) h = (above h.0, each-apart seq rows h.1)
  where
    above : suc seq ≤ row.seq → row.seq ≢ seq
    above le e = omega arith

count-cons : (p : Numbered → Bool) (b : Bool) (row : Numbered) (rows : List Numbered) → p row ≡ b → count_by p (row ∷ rows) ≡ cond b 1 0 + count_by p rows
count-cons p b row rows e = sum_by-cons (λ x. cond (p x) 1 0) row rows ∙ ap (λ t. cond t 1 0 + count_by p rows) e

count-push : (p : Numbered → Bool) (b : Bool) (row : Numbered) (rows : List Numbered) → p row ≡ b → count_by p (rows ++ row ∷ []) ≡ count_by p rows + cond b 1 0
count-push p b row rows e = sum_by_push (λ x. cond (p x) 1 0) rows row ∙ ap (λ t. count_by p rows + cond t 1 0) e

-- a row that is found is not gone
found-first : (seq : ℕ) (row : Numbered) (rows : List Numbered) → row.seq ≡ seq → message_at seq (row ∷ rows) ≡ Some row.message
found-first seq row rows e = ap (λ (b : Bool). cond b (Some row.message) (message_at seq rows)) (eq-eqb row.seq seq e)

found-later : (seq : ℕ) (row : Numbered) (rows : List Numbered) → row.seq ≢ seq → message_at seq (row ∷ rows) ≡ message_at seq rows
found-later seq row rows e = ap (λ (b : Bool). cond b (Some row.message) (message_at seq rows)) (ne_eqb row.seq seq e)

-- a row with a lower number is no one's
count-later : (row : Numbered) (rest rows : List Numbered) (low : ℕ) → suc row.seq ≤ low → Rises low (seqs rows) → count_by (is_gone (row ∷ rest)) rows ≡ count_by (is_gone rest) rows
count-later row rest [] low le r = refl
count-later row rest (y ∷ ys) low le r =
    let apart : row.seq ≢ y.seq = above (omega (arith, r.0)) in
    let same : is_gone (row ∷ rest) y ≡ is_gone rest y = ap (λ (o : Option Message). is_none o) (found-later y.seq row rest apart) in
    let more : count_by (is_gone (row ∷ rest)) ys ≡ count_by (is_gone rest) ys = count-later row rest ys (suc y.seq) (omega (arith, r.0)) r.1 in
    count-cons (is_gone (row ∷ rest)) (is_gone rest y) y ys same
    ∙ (ap (λ (k : ℕ). cond (is_gone rest y) 1 0 + k) more ∙ sym (count-cons (is_gone rest) (is_gone rest y) y ys refl))
  where
    above : suc row.seq ≤ y.seq → row.seq ≢ y.seq
    above l e = omega arith

-- of rows that rise those are gone that a part of them hasn't
pub count-part : (low : ℕ) (xs ys : List Numbered) → IsPart xs ys → Rises low (seqs ys) → count_by (is_gone xs) ys + length xs ≡ length ys
count-part low xs [] h r = let none : length xs ≡ 0 = ap length h in let sum : 0 + length xs ≡ 0 = omega arith in sum
count-part low xs (y ∷ ys) (inl h) r =
    let gone : is_gone xs y ≡ true = ap (λ (o : Option Message). is_none o) (message_at-none xs y.seq (each-apart y.seq xs (rises-each (suc y.seq) xs ys h r.1))) in
    let first : count_by (is_gone xs) (y ∷ ys) ≡ 1 + count_by (is_gone xs) ys = count-cons (is_gone xs) true y ys gone in
    let rest : count_by (is_gone xs) ys + length xs ≡ length ys = count-part (suc y.seq) xs ys h r.1 in
    omega arith
count-part low xs (y ∷ ys) (inr h) r = subst (λ (l : List Numbered). count_by (is_gone l) (y ∷ ys) + length l ≡ length (y ∷ ys)) (sym h.1) (kept (count-part (suc y.seq) h.0 ys h.2 r.1))
  where
    kept : count_by (is_gone h.0) ys + length h.0 ≡ length ys → count_by (is_gone (y ∷ h.0)) (y ∷ ys) + length (y ∷ h.0) ≡ length (y ∷ ys)
    kept rest =
        let here : is_gone (y ∷ h.0) y ≡ false = ap (λ (o : Option Message). is_none o) (found-first y.seq y h.0 refl) in
        let first : count_by (is_gone (y ∷ h.0)) (y ∷ ys) ≡ 0 + count_by (is_gone (y ∷ h.0)) ys = count-cons (is_gone (y ∷ h.0)) false y ys here in
        let same : count_by (is_gone (y ∷ h.0)) ys ≡ count_by (is_gone h.0) ys = count-later y h.0 ys (suc y.seq) (omega arith) r.1 in
        omega arith

-- ---- a message more

-- the last row stays, or none does
abbrev pub EndsWith : Numbered → List Numbered → Type 0
EndsWith row rows = (rows ≡ []) ⊎ ((rest : List Numbered) × (rows ≡ rest ++ row ∷ []))

ends-cons : (row first : Numbered) (rows : List Numbered) (b : Bool) → (rest : List Numbered) × (rows ≡ rest ++ row ∷ []) → (rest : List Numbered) × (cond b rows (first ∷ rows) ≡ rest ++ row ∷ [])
ends-cons row first rows true h = h
ends-cons row first rows false h = (first ∷ h.0, ap (λ (l : List Numbered). first ∷ l) h.1)

ends-newest_of_each : (n : ℕ) (row : Numbered) (rows : List Numbered) → 0 < n → (rest : List Numbered) × (newest_of_each n (rows ++ row ∷ []) ≡ rest ++ row ∷ [])
ends-newest_of_each n row [] l = ([], ap (λ (b : Bool). cond b [] (row ∷ [])) (lt-leb n 0 l))
ends-newest_of_each n row (y ∷ ys) l = ends-cons row y (newest_of_each n (ys ++ row ∷ [])) (nat_le n (count_by (has_subject_of y) (ys ++ row ∷ []))) (ends-newest_of_each n row ys l)

ends-subjects : (most : ℕ) (row : Numbered) (rows : List Numbered) (b : Bool) → eqb most 0 ≡ b → (rest : List Numbered) × (cond b (rows ++ row ∷ []) (newest_of_each most (rows ++ row ∷ [])) ≡ rest ++ row ∷ [])
ends-subjects most row rows true e = (rows, refl)
ends-subjects most row rows false e = let some : most ≢ 0 = eqb-false most 0 e in ends-newest_of_each most row rows (omega arith)

ends-within : (c : Config) (row : Numbered) (rows : List Numbered) → EndsWith row (newest_within c (rows ++ row ∷ []))
ends-within c row [] = by (are_within c (row ∷ []))
  where
    by : (b : Bool) → EndsWith row (cond b (row ∷ []) [])
    by true = inr ([], refl)
    by false = inl refl
ends-within c row (y ∷ ys) = by (are_within c (y ∷ (ys ++ row ∷ []))) (ends-within c row ys)
  where
    by : (b : Bool) → EndsWith row (newest_within c (ys ++ row ∷ [])) → EndsWith row (cond b (y ∷ (ys ++ row ∷ [])) (newest_within c (ys ++ row ∷ [])))
    by true h = inr (y ∷ ys, refl)
    by false h = h

pub ends-limited : (c : Config) (row : Numbered) (rows : List Numbered) → EndsWith row (limited c (rows ++ row ∷ []))
ends-limited c row rows =
    let kept = ends-subjects c.max_per_subject row rows (eqb c.max_per_subject 0) refl in
    subst (λ (l : List Numbered). EndsWith row (newest_within c l)) (sym kept.1) (ends-within c row kept.0)

found-last : (row : Numbered) (rows : List Numbered) → is_gone (rows ++ row ∷ []) row ≡ false
found-last row [] = ap (λ (o : Option Message). is_none o) (found-first row.seq row [] refl)
found-last row (y ∷ ys) = by (eqb y.seq row.seq) (found-last row ys)
  where
    by : (b : Bool) → is_gone (ys ++ row ∷ []) row ≡ false → is_none (cond b (Some y.message) (message_at row.seq (ys ++ row ∷ []))) ≡ false
    by true h = refl
    by false h = h

pub rises-push : (low top : ℕ) (rows : List Numbered) (row : Numbered) → low ≤ row.seq → top < row.seq → EachRow (λ r. r.seq ≤ top) rows → Rises low (seqs rows) → Rises low (seqs (rows ++ row ∷ []))
rises-push low top [] row le lt each h = (le, tt)
rises-push low top (r ∷ rows) row le lt each h = (h.0, rises-push (suc r.seq) top rows row (omega arith) lt each.1 h.1)

-- where a message was added and the last row stays, one less is left of the others
pub count-added : (low : ℕ) (row : Numbered) (rows out : List Numbered) → IsPart out (rows ++ row ∷ []) → EndsWith row out → Rises low (seqs (rows ++ row ∷ [])) → count_by (is_gone out) rows ≡ length rows - (length out - 1)
count-added low row rows out part (inl none) r = subst (λ (l : List Numbered). count_by (is_gone l) rows ≡ length rows - (length l - 1)) (sym none) all
  where
    all : count_by (is_gone []) rows ≡ length rows - (length {A = Numbered} [] - 1)
    all =
        let counted : count_by (is_gone []) (rows ++ row ∷ []) + length {A = Numbered} [] ≡ length (rows ++ row ∷ []) = count-part low [] (rows ++ row ∷ []) (subst (λ (l : List Numbered). IsPart l (rows ++ row ∷ [])) none part) r in
        let last : count_by (is_gone []) (rows ++ row ∷ []) ≡ count_by (is_gone []) rows + 1 = count-push (is_gone []) true row rows refl in
        let long : length (rows ++ row ∷ []) ≡ length rows + 1 = length-append rows (row ∷ []) in
        omega arith
count-added low row rows out part (inr ends) r =
    let counted : count_by (is_gone out) (rows ++ row ∷ []) + length out ≡ length (rows ++ row ∷ []) = count-part low out (rows ++ row ∷ []) part r in
    let here : is_gone out row ≡ false = ap (λ (l : List Numbered). is_gone l row) ends.1 ∙ found-last row ends.0 in
    let last : count_by (is_gone out) (rows ++ row ∷ []) ≡ count_by (is_gone out) rows + 0 = count-push (is_gone out) false row rows here in
    let long : length (rows ++ row ∷ []) ≡ length rows + 1 = length-append rows (row ∷ []) in
    let some : length out ≡ length ends.0 + 1 = ap length ends.1 ∙ length-append ends.0 (row ∷ []) in
    omega arith
