-- Rows of which none has too many later ones of its subject.
use Rattle.std.proofs.Common.{◌≡◌, ℕ, ◌+◌, ◌<◌, ◌≤◌, Bool, true, false, cond, eqb, leb, not, ◌&&◌, suc, Some, List, [], ◌∷◌, ◌++◌, length, refl, sym, ap, ◌∙◌, subst, arith}
use Rattle.std.specs.Prelude.{count_by, filter, find}
use Rattle.std.specs.Str.{bytes_eq}
use Rattle.std.specs.Cmp.Lexicographic.{bytes_decides}
use Rattle.std.proofs.lemmas.Bool.{false≢true, ne_eqb, eqb-false, leb-true, leb-false, lt-leb, le-leb}
use Rattle.std.proofs.lemmas.Option.{none-some, same_Some}
use Rattle.std.proofs.lemmas.List.Sums.{sum_by-cons, sum_by_push}
use Rattle.nats_text.specs.Sizes.{size}
use Rattle.stream_fold.specs.declared.config.Config.{Config}
use Rattle.stream_fold.specs.declared.entry.Numbered.{Numbered}
use Rattle.stream_fold.specs.Histories.{newest_of_each, newest_of_subjects, newest_within, are_within, has_subject_of, size_of, limited}
use Rattle.stream_fold.specs.Parts.{AreNewest}
use Rattle.stream_fold.specs.RowLists.{without_first, with_place}
use Rattle.stream_fold.proofs.Totals.{size_of-cons, size_of-push}
use Rattle.std.proofs.lemmas.List.{length-append}

pub count_by-first : (p : Numbered → Bool) (b : Bool) (row : Numbered) (xs : List Numbered) → p row ≡ b → count_by p (row ∷ xs) ≡ cond b 1 0 + count_by p xs
count_by-first p b row xs e = sum_by-cons (λ x. cond (p x) 1 0) row xs ∙ ap (λ t. cond t 1 0 + count_by p xs) e

count_by-leaves : (p : Numbered → Bool) (b d : Bool) (row : Numbered) (xs ys : List Numbered) → p row ≡ b → count_by p xs ≤ count_by p ys → count_by p (cond d xs (row ∷ xs)) ≤ count_by p (row ∷ ys)
count_by-leaves p b true row xs ys e h = let k = count_by-first p b row ys e in let q : count_by p xs ≤ count_by p (row ∷ ys) = omega (arith, h, k) in q
count_by-leaves p b false row xs ys e h = omega (arith, h, count_by-first p b row xs e, count_by-first p b row ys e)

pub count_by-newest : (p : Numbered → Bool) (n : ℕ) (rows : List Numbered) → count_by p (newest_of_each n rows) ≤ count_by p rows
count_by-newest p n [] = omega arith
count_by-newest p n (row ∷ rows) = count_by-leaves p (p row) (leb n (count_by (has_subject_of row) rows)) row (newest_of_each n rows) rows refl (count_by-newest p n rows)

newest-step : (n : ℕ) (row : Numbered) (xs rows : List Numbered) (b : Bool) → leb n (count_by (has_subject_of row) rows) ≡ b → count_by (has_subject_of row) xs ≤ count_by (has_subject_of row) rows → AreNewest n xs → AreNewest n (cond b xs (row ∷ xs))
newest-step n row xs rows true e le h = h
newest-step n row xs rows false e le h = ((let f = leb-false n (count_by (has_subject_of row) rows) e in omega (arith, f, le)), h)

pub newest_of_each-newest : (n : ℕ) (rows : List Numbered) → AreNewest n (newest_of_each n rows)
newest_of_each-newest n [] = tt
newest_of_each-newest n (row ∷ rows) = newest-step n row (newest_of_each n rows) rows (leb n (count_by (has_subject_of row) rows)) refl (count_by-newest (has_subject_of row) n rows) (newest_of_each-newest n rows)

cond-newest : (n : ℕ) (b : Bool) (xs ys : List Numbered) → AreNewest n xs → AreNewest n ys → AreNewest n (cond b xs ys)
cond-newest n true xs ys h k = h
cond-newest n false xs ys h k = k

pub newest_within-newest : (n : ℕ) (c : Config) (rows : List Numbered) → AreNewest n rows → AreNewest n (newest_within c rows)
newest_within-newest n c [] h = tt
newest_within-newest n c (row ∷ rows) h = cond-newest n (are_within c (row ∷ rows)) (row ∷ rows) (newest_within c rows) h (newest_within-newest n c rows h.1)

-- what is left by the limits is settled
pub limited-newest : (c : Config) (rows : List Numbered) → ¬ (c.max_per_subject ≡ 0) → AreNewest c.max_per_subject (limited c rows)
limited-newest c rows ne = newest_within-newest c.max_per_subject c _ (rw (ne_eqb c.max_per_subject 0 ne) (newest_of_each-newest c.max_per_subject rows))

count_by-push : (p : Numbered → Bool) (b : Bool) (row : Numbered) (xs : List Numbered) → p row ≡ b → count_by p (xs ++ row ∷ []) ≡ count_by p xs + cond b 1 0
count_by-push p b row xs e = sum_by_push (λ x. cond (p x) 1 0) xs row ∙ ap (λ t. count_by p xs + cond t 1 0) e

-- rows of one subject count the same
same_count : (x r : Numbered) (rs : List Numbered) → x.message.subject ≡ r.message.subject → count_by (has_subject_of r) rs ≡ count_by (has_subject_of x) rs
same_count x r rs e = ap (λ s. count_by (λ (row : Numbered). bytes_eq row.message.subject s) rs) (sym e)

is_same : (x r : Numbered) → bytes_eq x.message.subject r.message.subject ≡ true → x.message.subject ≡ r.message.subject
is_same x r e = (bytes_decides x.message.subject r.message.subject).0 e

turned : (x r : Numbered) → bytes_eq x.message.subject r.message.subject ≡ true → bytes_eq r.message.subject x.message.subject ≡ true
turned x r e = (bytes_decides r.message.subject x.message.subject).1 (sym (is_same x r e))

not_turned-by : (x r : Numbered) (b : Bool) → bytes_eq x.message.subject r.message.subject ≡ b → has_subject_of x r ≡ false → bytes_eq x.message.subject r.message.subject ≡ false
not_turned-by x r false f e = f
not_turned-by x r true f e = absurd (false≢true (sym e ∙ turned x r f))

not_turned : (x r : Numbered) → has_subject_of x r ≡ false → bytes_eq x.message.subject r.message.subject ≡ false
not_turned x r e = not_turned-by x r (bytes_eq x.message.subject r.message.subject) refl e

-- a row with a new one behind it has still too few later ones
few_later : (n : ℕ) (x r : Numbered) (rs : List Numbered) (b : Bool) → bytes_eq x.message.subject r.message.subject ≡ b → count_by (has_subject_of r) rs < n → count_by (has_subject_of x) (r ∷ rs) < n → count_by (has_subject_of r) (rs ++ x ∷ []) < n
few_later n x r rs true e few all = omega (arith, count_by-push (has_subject_of r) true x rs e, same_count x r rs (is_same x r e), count_by-first (has_subject_of x) true r rs (turned x r e), all)
few_later n x r rs false e few all = omega (arith, count_by-push (has_subject_of r) false x rs e, few)

fewer : (x r : Numbered) (rs : List Numbered) (b : Bool) → has_subject_of x r ≡ b → count_by (has_subject_of x) rs ≤ count_by (has_subject_of x) (r ∷ rs)
fewer x r rs b e = omega (arith, count_by-first (has_subject_of x) b r rs e)

-- where there are few of its subject, a new row pushes none out
pub newest-push : (n : ℕ) (x : Numbered) (rows : List Numbered) → 0 < n → AreNewest n rows → count_by (has_subject_of x) rows < n → newest_of_each n (rows ++ x ∷ []) ≡ rows ++ x ∷ []
newest-push n x [] pos h few = rw (lt-leb n 0 pos) refl
newest-push n x (r ∷ rs) pos h few =
    rw (lt-leb n (count_by (has_subject_of r) (rs ++ x ∷ [])) (few_later n x r rs (bytes_eq x.message.subject r.message.subject) refl h.0 few))
    (ap (λ xs. r ∷ xs) (newest-push n x rs pos h.1 (let k = fewer x r rs (has_subject_of x r) refl in omega (arith, k, few))))

-- where there are enough of its subject, a new row pushes the first one of them out
place-step : (n : ℕ) (x r : Numbered) (rs : List Numbered) (b : Bool) → has_subject_of x r ≡ b → 0 < n → AreNewest n (r ∷ rs) → n ≤ count_by (has_subject_of x) (r ∷ rs) → (n ≤ count_by (has_subject_of x) rs → newest_of_each n (rs ++ x ∷ []) ≡ without_first x.message.subject rs ++ x ∷ []) → newest_of_each n (r ∷ rs ++ x ∷ []) ≡ cond b rs (r ∷ without_first x.message.subject rs) ++ x ∷ []
place-step n x r rs true e pos h all ih =
    let same : x.message.subject ≡ r.message.subject = sym (is_same r x e) in
    let few : count_by (has_subject_of x) rs < n = omega (arith, same_count x r rs same, h.0) in
    let many : n ≤ count_by (has_subject_of r) (rs ++ x ∷ []) = omega (arith, all, count_by-first (has_subject_of x) true r rs e, same_count x r rs same, count_by-push (has_subject_of r) true x rs (turned r x e)) in
    rw (le-leb n (count_by (has_subject_of r) (rs ++ x ∷ [])) many) (newest-push n x rs pos h.1 few)
place-step n x r rs false e pos h all ih =
    let other : bytes_eq x.message.subject r.message.subject ≡ false = not_turned x r e in
    let few : count_by (has_subject_of r) (rs ++ x ∷ []) < n = omega (arith, count_by-push (has_subject_of r) false x rs other, h.0) in
    rw (lt-leb n (count_by (has_subject_of r) (rs ++ x ∷ [])) few) (ap (λ xs. r ∷ xs) (ih (omega (arith, all, count_by-first (has_subject_of x) false r rs e))))

pub newest-place : (n : ℕ) (x : Numbered) (rows : List Numbered) → 0 < n → AreNewest n rows → n ≤ count_by (has_subject_of x) rows → newest_of_each n (rows ++ x ∷ []) ≡ without_first x.message.subject rows ++ x ∷ []
newest-place n x [] pos h all = absurd (omega (arith, pos, all))
newest-place n x (r ∷ rs) pos h all = place-step n x r rs (has_subject_of x r) refl pos h all (λ a. newest-place n x rs pos h.1 a)

place-by : (most : ℕ) (x : Numbered) (rows : List Numbered) (b d : Bool) → eqb most 0 ≡ b → leb most (count_by (has_subject_of x) rows) ≡ d → (¬ (most ≡ 0) → AreNewest most rows) → cond b (rows ++ x ∷ []) (newest_of_each most (rows ++ x ∷ [])) ≡ cond (not b && d) (without_first x.message.subject rows) rows ++ x ∷ []
place-by most x rows true d z l h = refl
place-by most x rows false true z l h =
    let ne = eqb-false most 0 z in
    newest-place most x rows (omega (arith, ne)) (h ne) (leb-true most _ l)
place-by most x rows false false z l h =
    let ne = eqb-false most 0 z in
    newest-push most x rows (omega (arith, ne)) (h ne) (leb-false most _ l)

-- a new row behind rows within the limit of each subject
pub subjects-push : (most : ℕ) (x : Numbered) (rows : List Numbered) → (¬ (most ≡ 0) → AreNewest most rows) → newest_of_subjects most (rows ++ x ∷ []) ≡ with_place most x.message.subject rows ++ x ∷ []
subjects-push most x rows h = place-by most x rows (eqb most 0) (leb most (count_by (has_subject_of x) rows)) refl refl h

newest-all : (n : ℕ) (rows : List Numbered) → AreNewest n rows → newest_of_each n rows ≡ rows
newest-all n [] h = refl
newest-all n (row ∷ rows) h = rw (lt-leb n (count_by (has_subject_of row) rows) h.0) (ap (λ xs. row ∷ xs) (newest-all n rows h.1))

all-by : (most : ℕ) (rows : List Numbered) (b : Bool) → eqb most 0 ≡ b → (¬ (most ≡ 0) → AreNewest most rows) → cond b rows (newest_of_each most rows) ≡ rows
all-by most rows true z h = refl
all-by most rows false z h = newest-all most rows (h (eqb-false most 0 z))

-- the limit of each subject takes nothing away from rows within it
pub subjects-all : (most : ℕ) (rows : List Numbered) → (¬ (most ≡ 0) → AreNewest most rows) → newest_of_subjects most rows ≡ rows
subjects-all most rows h = all-by most rows (eqb most 0) refl h

count_by-keeps : (q : Numbered → Bool) (b : Bool) (row : Numbered) (xs ys : List Numbered) → count_by q xs ≤ count_by q ys → count_by q (cond b (row ∷ xs) xs) ≤ count_by q (row ∷ ys)
count_by-keeps q true row xs ys le = omega (arith, le, count_by-first q (q row) row xs refl, count_by-first q (q row) row ys refl)
count_by-keeps q false row xs ys le = let k = count_by-first q (q row) row ys refl in let g : count_by q xs ≤ count_by q (row ∷ ys) = omega (arith, le, k) in g

count_by-filter : (q p : Numbered → Bool) (rows : List Numbered) → count_by q (filter p rows) ≤ count_by q rows
count_by-filter q p [] = omega arith
count_by-filter q p (row ∷ rows) = count_by-keeps q (p row) row (filter p rows) rows (count_by-filter q p rows)

AreNewest-filter : (n : ℕ) (p : Numbered → Bool) (rows : List Numbered) → AreNewest n rows → AreNewest n (filter p rows)
AreNewest-filter n p [] h = tt
AreNewest-filter n p (row ∷ rows) h =
    let ih = AreNewest-filter n p rows h.1 in
    let few : count_by (has_subject_of row) (filter p rows) < n = omega (arith, h.0, count_by-filter (has_subject_of row) p rows) in
    cond-newest n (p row) (row ∷ filter p rows) (filter p rows) (few, ih) ih

-- nor from a part of them
pub subjects-filter : (most : ℕ) (p : Numbered → Bool) (rows : List Numbered) → (¬ (most ≡ 0) → AreNewest most rows) → newest_of_subjects most (filter p rows) ≡ filter p rows
subjects-filter most p rows h = subjects-all most (filter p rows) (λ ne. AreNewest-filter most p rows (h ne))

-- one row went, and a new one came
pub record Replaces (old : List Numbered) (out new : Numbered) (rows : List Numbered) : Type 0 where
  pub count : length rows ≡ length old
  pub bytes : size_of rows + size out.message ≡ size_of old + size new.message

replaces-step : (x out r : Numbered) (rs : List Numbered) (b : Bool) → cond b (Some r) (find (has_subject_of x) rs) ≡ Some out → (find (has_subject_of x) rs ≡ Some out → Replaces rs out x (without_first x.message.subject rs ++ x ∷ [])) → Replaces (r ∷ rs) out x (cond b rs (r ∷ without_first x.message.subject rs) ++ x ∷ [])
replaces-step x out r rs true f ih = record {
  count = length-append rs (x ∷ []) ∙ (let q : length rs + 1 ≡ suc (length rs) = omega arith in q);
  bytes = omega (arith, size_of-push rs x, size_of-cons r rs, ap (λ (row : Numbered). size row.message) (same_Some r out f));
}
replaces-step x out r rs false f ih =
    let h = ih f in
    let rest : List Numbered = without_first x.message.subject rs ++ x ∷ [] in
    record {
      count = ap (λ n. suc n) h.count;
      bytes = omega (arith, h.bytes, size_of-cons r rs, size_of-cons r rest);
    }

replaces-first : (x out : Numbered) (rows : List Numbered) → find (has_subject_of x) rows ≡ Some out → Replaces rows out x (without_first x.message.subject rows ++ x ∷ [])
replaces-first x out [] f = absurd (none-some out f)
replaces-first x out (r ∷ rs) f = replaces-step x out r rs (has_subject_of x r) f (λ g. replaces-first x out rs g)

pub newest-replaces : (n : ℕ) (x out : Numbered) (rows : List Numbered) → 0 < n → AreNewest n rows → n ≤ count_by (has_subject_of x) rows → find (has_subject_of x) rows ≡ Some out → Replaces rows out x (newest_of_each n (rows ++ x ∷ []))
newest-replaces n x out rows pos h all f = subst (Replaces rows out x) (sym (newest-place n x rows pos h all)) (replaces-first x out rows f)
