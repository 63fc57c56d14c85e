-- Steps of the loops that take messages away.
use Rattle.std.proofs.Common.{◌≡◌, ℕ, ◌+◌, ◌-◌, ◌<◌, ◌≤◌, List, [], ◌∷◌, ◌++◌, length, take, drop, get_or, true, false, suc, refl, sym, ap, ◌∙◌, subst, arith, add-one, append_assoc}
use Rattle.std.specs.Prelude.{nat_le, count_by}
use Rattle.std.proofs.Math.Seq.{drop-cons, drop-append_seam, take-append_seam}
use Rattle.std.proofs.lemmas.List.{take_more, drop-drop, drop_all, length-take-le, length-drop, take_rest}
use Rattle.stream_fold.specs.declared.config.Config.{Config}
use Rattle.stream_fold.specs.declared.entry.Numbered.{Numbered}
use Rattle.stream_fold.specs.Histories.{newest_of_each, newest_within, are_within, has_subject_of}
use Rattle.stream_fold.specs.RowLists.{without_first}
use Rattle.std.specs.Str.{bytes_eq}

-- the row at a place, and those behind it
pub drop_at : (rows : List Numbered) (i : ℕ) (row : Numbered) → i < length rows → row ≡ get_or rows i row → drop i rows ≡ row ∷ drop (i + 1) rows
drop_at rows i row h e = drop-cons rows i row h ∙ (ap (λ x. x ∷ drop (suc i) rows) (sym e) ∙ ap (λ n. row ∷ drop n rows) (sym (add-one i)))

pub newest_goes : (n : ℕ) (row : Numbered) (rows : List Numbered) → nat_le n (count_by (has_subject_of row) rows) ≡ true → newest_of_each n (row ∷ rows) ≡ newest_of_each n rows
newest_goes n row rows e = rw e refl

pub newest_stays : (n : ℕ) (row : Numbered) (rows : List Numbered) → nat_le n (count_by (has_subject_of row) rows) ≡ false → newest_of_each n (row ∷ rows) ≡ row ∷ newest_of_each n rows
newest_stays n row rows e = rw e refl

pub within_next : (c : Config) (rows : List Numbered) → 0 < length rows → are_within c rows ≡ false → newest_within c rows ≡ newest_within c (drop 1 rows)
within_next c [] h e = absurd (omega (arith, h))
within_next c (row ∷ rows) h e = rw e refl

pub within_all : (c : Config) (rows : List Numbered) → are_within c rows ≡ true → newest_within c rows ≡ rows
within_all c [] e = refl
within_all c (row ∷ rows) e = rw e refl

take-removed : (rows : List Numbered) (i : ℕ) → i < length rows → take i (take i rows ++ drop (suc i) rows) ≡ take i rows
take-removed rows i h =
    let P : ℕ → Type 0 = λ n. take n (take i rows ++ drop (suc i) rows) ≡ take i rows in
    subst P (length-take-le i rows (omega (arith, h))) (take-append_seam (take i rows) (drop (suc i) rows))

drop-removed : (rows : List Numbered) (i : ℕ) → i < length rows → drop i (take i rows ++ drop (suc i) rows) ≡ drop (i + 1) rows
drop-removed rows i h =
    let P : ℕ → Type 0 = λ n. drop n (take i rows ++ drop (suc i) rows) ≡ drop (suc i) rows in
    subst P (length-take-le i rows (omega (arith, h))) (drop-append_seam (take i rows) (drop (suc i) rows)) ∙ ap (λ n. drop n rows) (sym (add-one i))

-- a row that is taken away was not to stay
pub removes : (n : ℕ) (rows new all : List Numbered) (i : ℕ) (row : Numbered) → i < length rows → row ≡ get_or rows i row → new ≡ take i rows ++ drop (suc i) rows → nat_le n (count_by (has_subject_of row) (drop (i + 1) rows)) ≡ true → take i rows ++ newest_of_each n (drop i rows) ≡ all → take i new ++ newest_of_each n (drop i new) ≡ all
removes n rows new all i row h at is goes inv =
    let same : take i new ++ newest_of_each n (drop i new) ≡ take i rows ++ newest_of_each n (drop (i + 1) rows) = rw (is, take-removed rows i h, drop-removed rows i h) refl in
    same ∙ (ap (λ rs. take i rows ++ rs) (sym (ap (newest_of_each n) (drop_at rows i row h at) ∙ newest_goes n row (drop (i + 1) rows) goes)) ∙ inv)

pub first_goes : (subject : List ℕ) (row : Numbered) (rows : List Numbered) → bytes_eq row.message.subject subject ≡ true → without_first subject (row ∷ rows) ≡ rows
first_goes subject row rows e = rw e refl

pub first_stays : (subject : List ℕ) (row : Numbered) (rows : List Numbered) → bytes_eq row.message.subject subject ≡ false → without_first subject (row ∷ rows) ≡ row ∷ without_first subject rows
first_stays subject row rows e = rw e refl

-- the first row of the subject
pub removes_first : (subject : List ℕ) (rows all : List Numbered) (i : ℕ) (row : Numbered) → i < length rows → row ≡ get_or rows i row → bytes_eq row.message.subject subject ≡ true → take i rows ++ without_first subject (drop i rows) ≡ all → take i rows ++ drop (i + 1) rows ≡ all
removes_first subject rows all i row h at goes inv =
    ap (λ rs. take i rows ++ rs) (sym (ap (without_first subject) (drop_at rows i row h at) ∙ first_goes subject row (drop (i + 1) rows) goes)) ∙ inv

-- no row has the subject
pub removes_none : (subject : List ℕ) (rows all : List Numbered) (i : ℕ) → length rows ≤ i → take i rows ++ without_first subject (drop i rows) ≡ all → take i rows ++ drop (i + 1) rows ≡ all
removes_none subject rows all i h inv =
    ap (λ rs. take i rows ++ rs) (drop_all (i + 1) rows (omega arith) ∙ sym (ap (without_first subject) (drop_all i rows h))) ∙ inv

-- a row of another subject
pub passes_first : (subject : List ℕ) (rows all : List Numbered) (i : ℕ) (row : Numbered) → i < length rows → row ≡ get_or rows i row → bytes_eq row.message.subject subject ≡ false → take i rows ++ without_first subject (drop i rows) ≡ all → take (i + 1) rows ++ without_first subject (drop (i + 1) rows) ≡ all
passes_first subject rows all i row h at stays inv =
    let more : take (i + 1) rows ≡ take i rows ++ row ∷ [] = take_more rows i row h ∙ ap (λ x. take i rows ++ x ∷ []) (sym at) in
    ap (λ front. front ++ without_first subject (drop (i + 1) rows)) more ∙ (append_assoc (take i rows) (row ∷ []) (without_first subject (drop (i + 1) rows)) ∙ (ap (λ rs. take i rows ++ rs) (sym (ap (without_first subject) (drop_at rows i row h at) ∙ first_stays subject row (drop (i + 1) rows) stays)) ∙ inv))

-- a row that stays
pub leaves : (n : ℕ) (rows all : List Numbered) (i : ℕ) (row : Numbered) → i < length rows → row ≡ get_or rows i row → nat_le n (count_by (has_subject_of row) (drop (i + 1) rows)) ≡ false → take i rows ++ newest_of_each n (drop i rows) ≡ all → take (i + 1) rows ++ newest_of_each n (drop (i + 1) rows) ≡ all
leaves n rows all i row h at stays inv =
    let more : take (i + 1) rows ≡ take i rows ++ row ∷ [] = take_more rows i row h ∙ ap (λ x. take i rows ++ x ∷ []) (sym at) in
    ap (λ front. front ++ newest_of_each n (drop (i + 1) rows)) more ∙ (append_assoc (take i rows) (row ∷ []) (newest_of_each n (drop (i + 1) rows)) ∙ (ap (λ rs. take i rows ++ rs) (sym (ap (newest_of_each n) (drop_at rows i row h at) ∙ newest_stays n row (drop (i + 1) rows) stays)) ∙ inv))

-- the oldest of the rest is not within the limits
pub passes : (c : Config) (rows rest : List Numbered) (i : ℕ) → i < length rows → rest ≡ drop i rows → are_within c rest ≡ false → newest_within c (drop i rows) ≡ newest_within c rows → newest_within c (drop (i + 1) rows) ≡ newest_within c rows
passes c rows rest i h e out inv =
    let some : 0 < length (drop i rows) = omega (arith, length-drop i rows, h) in
    let f : are_within c (drop i rows) ≡ false = ap (are_within c) (sym e) ∙ out in
    ap (λ n. newest_within c (drop n rows)) (omega arith) ∙ (ap (newest_within c) (sym (drop-drop 1 i rows)) ∙ (sym (within_next c (drop i rows) some f) ∙ inv))

-- the slice behind a place
pub rest_from : (seen rows : List Numbered) (i : ℕ) → seen ≡ rows → take (length seen - i) (drop i seen) ≡ drop i rows
rest_from seen rows i e = take_rest seen i ∙ ap (drop i) e
