-- The sum of the sizes of rows.
use Rattle.std.proofs.Common.{◌≡◌, ℕ, ◌+◌, ◌-◌, ◌<◌, ◌≤◌, Bool, true, false, cond, leb, List, [], ◌∷◌, ◌++◌, length, drop, get_or, sym, ap, ◌∙◌, arith}
use Rattle.std.specs.Prelude.{filter, count_by}
use Rattle.std.specs.List.{remove}
use Rattle.std.specs.Str.{bytes_eq}
use Rattle.std.proofs.lemmas.List.{length-drop}
use Rattle.std.proofs.lemmas.List.Sums.{sum_by-cons, sum_by_push}
use Rattle.std.proofs.lemmas.List.Sorted.{IsPermutation-remove, sum_by_popped}
use Rattle.nats_text.specs.Sizes.{size}
use Rattle.stream_fold.specs.declared.config.Config.{Config}
use Rattle.stream_fold.specs.declared.entry.Numbered.{Numbered}
use Rattle.stream_fold.specs.Histories.{size_of, newest_of_each, are_within, has_subject_of}
use Rattle.stream_fold.specs.RowLists.{counts_within, without_first}
use Rattle.stream_fold.proofs.Trims.{drop_at}

pub size_of-cons : (row : Numbered) (rows : List Numbered) → size_of (row ∷ rows) ≡ size row.message + size_of rows
size_of-cons row rows = sum_by-cons (λ (r : Numbered). size r.message) row rows

pub size_of-push : (rows : List Numbered) (row : Numbered) → size_of (rows ++ row ∷ []) ≡ size_of rows + size row.message
size_of-push rows row = sum_by_push (λ (r : Numbered). size r.message) rows row

size_of-keeps : (b : Bool) (row : Numbered) (xs ys : List Numbered) → size_of xs ≤ size_of ys → size_of (cond b (row ∷ xs) xs) ≤ size_of (row ∷ ys)
size_of-keeps true row xs ys h = omega (arith, h, size_of-cons row xs, size_of-cons row ys)
size_of-keeps false row xs ys h = let k = size_of-cons row ys in let q : size_of xs ≤ size_of (row ∷ ys) = omega (arith, h, k) in q

size_of-leaves : (b : Bool) (row : Numbered) (xs ys : List Numbered) → size_of xs ≤ size_of ys → size_of (cond b xs (row ∷ xs)) ≤ size_of (row ∷ ys)
size_of-leaves true row xs ys h = let k = size_of-cons row ys in let q : size_of xs ≤ size_of (row ∷ ys) = omega (arith, h, k) in q
size_of-leaves false row xs ys h = omega (arith, h, size_of-cons row xs, size_of-cons row ys)

pub size_of-filter : (p : Numbered → Bool) (rows : List Numbered) → size_of (filter p rows) ≤ size_of rows
size_of-filter p [] = omega arith
size_of-filter p (row ∷ rows) = size_of-keeps (p row) row (filter p rows) rows (size_of-filter p rows)

pub size_of-newest_of_each : (n : ℕ) (rows : List Numbered) → size_of (newest_of_each n rows) ≤ size_of rows
size_of-newest_of_each n [] = omega arith
size_of-newest_of_each n (row ∷ rows) = size_of-leaves (leb n (count_by (has_subject_of row) rows)) row (newest_of_each n rows) rows (size_of-newest_of_each n rows)

-- the size of a row and of those that are left without it
pub size_of-removed : (rows : List Numbered) (i : ℕ) (row : Numbered) → i < length rows → row ≡ get_or rows i row → size_of (remove rows i) + size row.message ≡ size_of rows
size_of-removed rows i row h e = sum_by_popped (λ (r : Numbered). size r.message) row rows (remove rows i) (IsPermutation-remove rows i row h e)

size_of-first : (b : Bool) (row : Numbered) (xs ys : List Numbered) → size_of xs ≤ size_of ys → size_of (cond b ys (row ∷ xs)) ≤ size_of (row ∷ ys)
size_of-first true row xs ys h = let k = size_of-cons row ys in let q : size_of ys ≤ size_of (row ∷ ys) = omega (arith, k) in q
size_of-first false row xs ys h = omega (arith, h, size_of-cons row xs, size_of-cons row ys)

pub size_of-without_first : (subject : List ℕ) (rows : List Numbered) → size_of (without_first subject rows) ≤ size_of rows
size_of-without_first subject [] = omega arith
size_of-without_first subject (row ∷ rows) = size_of-first (bytes_eq row.message.subject subject) row (without_first subject rows) rows (size_of-without_first subject rows)

-- the size of the rest is that of its first row and of what is behind it
pub size_of-at : (rows : List Numbered) (i : ℕ) (row : Numbered) → i < length rows → row ≡ get_or rows i row → size_of (drop i rows) ≡ size row.message + size_of (drop (i + 1) rows)
size_of-at rows i row h e = ap size_of (drop_at rows i row h e) ∙ size_of-cons row (drop (i + 1) rows)

-- the counts of the rest tell whether it is within the limits
pub counts_rest : (c : Config) (rows : List Numbered) (i total : ℕ) → total ≡ size_of (drop i rows) → counts_within c (length rows - i) total ≡ are_within c (drop i rows)
counts_rest c rows i total e = ap (λ n. counts_within c n total) (sym (length-drop i rows)) ∙ ap (counts_within c (length (drop i rows))) e
