-- Texts without the blanks at their ends.
use Rattle.std.proofs.Common.{◌≡◌, ℕ, ◌+◌, ◌-◌, ◌<◌, ◌≤◌, List, [], ◌∷◌, ◌++◌, length, get_or, take, Bool, true, false, cond, refl, sym, ap, ◌∙◌, arith}
use Rattle.std.specs.List.{list_all}
use Rattle.std.proofs.lemmas.Bool.{cond-true, cond-false, and_from}
use Rattle.std.proofs.lemmas.List.{take_more, take_all}
use Rattle.nats_text.specs.Headers.{is_blank, before_trimmed, trim_start, trim_end}

trim_end_blank : (xs : List ℕ) (b : ℕ) → is_blank b ≡ true → trim_end (xs ++ b ∷ []) ≡ trim_end xs
trim_end_blank [] b h = cond-true (is_blank b) [] (b ∷ []) h
trim_end_blank (x ∷ xs) b h = ap (before_trimmed x) (trim_end_blank xs b h)

before_filled : (x b : ℕ) (xs : List ℕ) → before_trimmed x (xs ++ b ∷ []) ≡ x ∷ (xs ++ b ∷ [])
before_filled x b [] = refl
before_filled x b (y ∷ ys) = refl

pub trim_end_filled : (xs : List ℕ) (b : ℕ) → is_blank b ≡ false → trim_end (xs ++ b ∷ []) ≡ xs ++ b ∷ []
trim_end_filled [] b h = cond-false (is_blank b) [] (b ∷ []) h
trim_end_filled (x ∷ xs) b h = ap (before_trimmed x) (trim_end_filled xs b h) ∙ before_filled x b xs

-- a list is what stands before its last item, and that item
with_last : (xs : List ℕ) → 1 ≤ length xs → xs ≡ take (length xs - 1) xs ++ get_or xs (length xs - 1) 0 ∷ []
with_last xs h =
    let e : length xs - 1 + 1 ≡ length xs = omega arith in
    let within : length xs - 1 < length xs = omega arith in
    sym (take_all (length xs) xs (omega arith)) ∙ (ap (λ n. take n xs) (sym e) ∙ take_more xs (length xs - 1) 0 within)

pub trim_end_last : (xs : List ℕ) → 1 ≤ length xs → is_blank (get_or xs (length xs - 1) 0) ≡ true → trim_end (take (length xs - 1) xs) ≡ trim_end xs
trim_end_last xs long h = sym (trim_end_blank (take (length xs - 1) xs) (get_or xs (length xs - 1) 0) h) ∙ ap trim_end (sym (with_last xs long))

pub trim_end_none : (xs : List ℕ) → 1 ≤ length xs → is_blank (get_or xs (length xs - 1) 0) ≡ false → trim_end xs ≡ xs
trim_end_none xs long h =
    let e = with_last xs long in
    ap trim_end e ∙ (trim_end_filled (take (length xs - 1) xs) (get_or xs (length xs - 1) 0) h ∙ sym e)

-- ---- what is taken off is blank

abbrev pub are_blank : List ℕ → Bool
are_blank bs = list_all is_blank bs

-- a text is blanks and what is left of it
pub record Starts (bs : List ℕ) : Type 0 where
  pub blanks : List ℕ
  pub blank : are_blank blanks ≡ true
  pub is : bs ≡ blanks ++ trim_start bs

pub trim_start_is : (bs : List ℕ) → Starts bs
trim_start_is [] = record { blanks = []; blank = refl; is = refl }
trim_start_is (b ∷ bs) =
    let P : Bool → Type 0 = λ t. is_blank b ≡ t → (blanks : List ℕ) × (are_blank blanks ≡ true) × (b ∷ bs ≡ blanks ++ cond t (trim_start bs) (b ∷ bs)) in
    let more = trim_start_is bs in
    let go : (t : Bool) → P t = λ t. elim t as P [
      | true ↦ (λ e. (b ∷ more.blanks, and_from (is_blank b) (are_blank more.blanks) e more.blank, ap (λ xs. b ∷ xs) more.is))
      | false ↦ (λ e. ([], refl, refl))
    ] in
    let found = go (is_blank b) refl in
    record { blanks = found.0; blank = found.1; is = found.2 }

-- a text is what is left of it and blanks
pub record Ends (bs : List ℕ) : Type 0 where
  pub blanks : List ℕ
  pub blank : are_blank blanks ≡ true
  pub is : bs ≡ trim_end bs ++ blanks

ends_more : (b : ℕ) (rest blanks : List ℕ) → are_blank blanks ≡ true → (more : List ℕ) × (are_blank more ≡ true) × (b ∷ (rest ++ blanks) ≡ before_trimmed b rest ++ more)
ends_more b (c ∷ cs) blanks h = (blanks, h, refl)
ends_more b [] blanks h =
    let P : Bool → Type 0 = λ t. is_blank b ≡ t → (more : List ℕ) × (are_blank more ≡ true) × (b ∷ blanks ≡ cond t [] (b ∷ []) ++ more) in
    let go : (t : Bool) → P t = λ t. elim t as P [
      | true ↦ (λ e. (b ∷ blanks, and_from (is_blank b) (are_blank blanks) e h, refl))
      | false ↦ (λ e. (blanks, h, refl))
    ] in
    go (is_blank b) refl

pub trim_end_is : (bs : List ℕ) → Ends bs
trim_end_is [] = record { blanks = []; blank = refl; is = refl }
trim_end_is (b ∷ bs) =
    let rest = trim_end_is bs in
    let more = ends_more b (trim_end bs) rest.blanks rest.blank in
    record { blanks = more.0; blank = more.1; is = ap (λ xs. b ∷ xs) rest.is ∙ more.2 }
