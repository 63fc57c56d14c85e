-- Texts without the blanks at their ends.
use Rattle.std.proofs.Common.{◌≡◌, ℕ, ◌+◌, ◌-◌, ◌<◌, ◌≤◌, List, [], ◌∷◌, ◌++◌, length, get_or, take, Bool, true, false, cond, refl, sym, ap, ◌∙◌, arith}
use Rattle.std.specs.List.{list_all}
use Rattle.std.proofs.lemmas.Bool.{cond-true, cond-false, and_parts, and_from}
use Rattle.std.proofs.lemmas.List.{take_more, take_all, append-nil}
use Rattle.nats_text.specs.Headers.{is_blank, before_trimmed, trim_start, trim_end, trimmed}

trim_end_blank : (xs : List ℕ) (b : ℕ) → is_blank b ≡ true → trim_end (xs ++ b ∷ []) ≡ trim_end xs
trim_end_blank [] b h = cond-true (is_blank b) [] (b ∷ []) h
trim_end_blank (x ∷ xs) b h = ap (before_trimmed x) (trim_end_blank xs b h)

before_filled : (x b : ℕ) (xs : List ℕ) → before_trimmed x (xs ++ b ∷ []) ≡ x ∷ (xs ++ b ∷ [])
before_filled x b [] = refl
before_filled x b (y ∷ ys) = refl

trim_end_filled : (xs : List ℕ) (b : ℕ) → is_blank b ≡ false → trim_end (xs ++ b ∷ []) ≡ xs ++ b ∷ []
trim_end_filled [] b h = cond-false (is_blank b) [] (b ∷ []) h
trim_end_filled (x ∷ xs) b h = ap (before_trimmed x) (trim_end_filled xs b h) ∙ before_filled x b xs

-- a list is what stands before its last item, and that item
with_last : (xs : List ℕ) → 1 ≤ length xs → xs ≡ take (length xs - 1) xs ++ get_or xs (length xs - 1) 0 ∷ []
with_last xs h =
    let e : length xs - 1 + 1 ≡ length xs = omega arith in
    let within : length xs - 1 < length xs = omega arith in
    sym (take_all (length xs) xs (omega arith)) ∙ (ap (λ n. take n xs) (sym e) ∙ take_more xs (length xs - 1) 0 within)

pub trim_end_last : (xs : List ℕ) → 1 ≤ length xs → is_blank (get_or xs (length xs - 1) 0) ≡ true → trim_end (take (length xs - 1) xs) ≡ trim_end xs
trim_end_last xs long h = sym (trim_end_blank (take (length xs - 1) xs) (get_or xs (length xs - 1) 0) h) ∙ ap trim_end (sym (with_last xs long))

pub trim_end_none : (xs : List ℕ) → 1 ≤ length xs → is_blank (get_or xs (length xs - 1) 0) ≡ false → trim_end xs ≡ xs
trim_end_none xs long h =
    let e = with_last xs long in
    ap trim_end e ∙ (trim_end_filled (take (length xs - 1) xs) (get_or xs (length xs - 1) 0) h ∙ sym e)

-- ---- what is taken off is blank

abbrev pub are_blank : List ℕ → Bool
are_blank bs = list_all is_blank bs

-- a text is blanks and what is left of it
pub record Starts (bs : List ℕ) : Type 0 where
  pub blanks : List ℕ
  pub blank : are_blank blanks ≡ true
  pub is : bs ≡ blanks ++ trim_start bs

pub trim_start_is : (bs : List ℕ) → Starts bs
trim_start_is [] = record { blanks = []; blank = refl; is = refl }
trim_start_is (b ∷ bs) =
    let P : Bool → Type 0 = λ t. is_blank b ≡ t → (blanks : List ℕ) × (are_blank blanks ≡ true) × (b ∷ bs ≡ blanks ++ cond t (trim_start bs) (b ∷ bs)) in
    let more = trim_start_is bs in
    let go : (t : Bool) → P t = λ t. elim t as P [
      | true ↦ (λ e. (b ∷ more.blanks, and_from (is_blank b) (are_blank more.blanks) e more.blank, ap (λ xs. b ∷ xs) more.is))
      | false ↦ (λ e. ([], refl, refl))
    ] in
    let found = go (is_blank b) refl in
    record { blanks = found.0; blank = found.1; is = found.2 }

-- a text is what is left of it and blanks
pub record Ends (bs : List ℕ) : Type 0 where
  pub blanks : List ℕ
  pub blank : are_blank blanks ≡ true
  pub is : bs ≡ trim_end bs ++ blanks

ends_more : (b : ℕ) (rest blanks : List ℕ) → are_blank blanks ≡ true → (more : List ℕ) × (are_blank more ≡ true) × (b ∷ (rest ++ blanks) ≡ before_trimmed b rest ++ more)
ends_more b (c ∷ cs) blanks h = (blanks, h, refl)
ends_more b [] blanks h =
    let P : Bool → Type 0 = λ t. is_blank b ≡ t → (more : List ℕ) × (are_blank more ≡ true) × (b ∷ blanks ≡ cond t [] (b ∷ []) ++ more) in
    let go : (t : Bool) → P t = λ t. elim t as P [
      | true ↦ (λ e. (b ∷ blanks, and_from (is_blank b) (are_blank blanks) e h, refl))
      | false ↦ (λ e. (blanks, h, refl))
    ] in
    go (is_blank b) refl

pub trim_end_is : (bs : List ℕ) → Ends bs
trim_end_is [] = record { blanks = []; blank = refl; is = refl }
trim_end_is (b ∷ bs) =
    let rest = trim_end_is bs in
    let more = ends_more b (trim_end bs) rest.blanks rest.blank in
    record { blanks = more.0; blank = more.1; is = ap (λ xs. b ∷ xs) rest.is ∙ more.2 }

-- ---- what is trimmed stays as it is

trim_start-filled : (b : ℕ) (bs : List ℕ) → is_blank b ≡ false → trim_start (b ∷ bs) ≡ b ∷ bs
trim_start-filled b bs h = cond-false (is_blank b) (trim_start bs) (b ∷ bs) h

trim_start-before_trimmed : (b : ℕ) (rest : List ℕ) → is_blank b ≡ false → trim_start (before_trimmed b rest) ≡ before_trimmed b rest
trim_start-before_trimmed b [] h =
    let e = cond-false (is_blank b) [] (b ∷ []) h in
    ap trim_start e ∙ (trim_start-filled b [] h ∙ sym e)
trim_start-before_trimmed b (c ∷ cs) h = trim_start-filled b (c ∷ cs) h

trim_start-trimmed : (bs : List ℕ) → trim_start (trim_end (trim_start bs)) ≡ trim_end (trim_start bs)
trim_start-trimmed [] = refl
trim_start-trimmed (b ∷ bs) =
    let P : Bool → Type 0 = λ t. is_blank b ≡ t → trim_start (trim_end (cond t (trim_start bs) (b ∷ bs))) ≡ trim_end (cond t (trim_start bs) (b ∷ bs)) in
    let go : (t : Bool) → P t = λ t. elim t as P [
      | true ↦ (λ e. trim_start-trimmed bs)
      | false ↦ (λ e. trim_start-before_trimmed b (trim_end bs) e)
    ] in
    go (is_blank b) refl

trim_end-before_trimmed : (b : ℕ) (rest : List ℕ) → trim_end rest ≡ rest → trim_end (before_trimmed b rest) ≡ before_trimmed b rest
trim_end-before_trimmed b (c ∷ cs) h = ap (before_trimmed b) h
trim_end-before_trimmed b [] h =
    let P : Bool → Type 0 = λ t. is_blank b ≡ t → trim_end (cond t [] (b ∷ [])) ≡ cond t [] (b ∷ []) in
    let go : (t : Bool) → P t = λ t. elim t as P [
      | true ↦ (λ e. refl)
      | false ↦ (λ e. cond-false (is_blank b) [] (b ∷ []) e)
    ] in
    go (is_blank b) refl

trim_end-trim_end : (bs : List ℕ) → trim_end (trim_end bs) ≡ trim_end bs
trim_end-trim_end [] = refl
trim_end-trim_end (b ∷ bs) = trim_end-before_trimmed b (trim_end bs) (trim_end-trim_end bs)

pub trimmed-trimmed : (bs : List ℕ) → trimmed (trimmed bs) ≡ trimmed bs
trimmed-trimmed bs = ap trim_end (trim_start-trimmed bs) ∙ trim_end-trim_end (trim_start bs)

-- ---- blanks round a text

trim_start-blank : (blanks bs : List ℕ) → are_blank blanks ≡ true → trim_start (blanks ++ bs) ≡ trim_start bs
trim_start-blank [] bs h = refl
trim_start-blank (b ∷ blanks) bs h =
    let parts = and_parts (is_blank b) (are_blank blanks) h in
    cond-true (is_blank b) (trim_start (blanks ++ bs)) (b ∷ (blanks ++ bs)) parts.0 ∙ trim_start-blank blanks bs parts.1

trim_end-none : (blanks : List ℕ) → are_blank blanks ≡ true → trim_end blanks ≡ []
trim_end-none [] h = refl
trim_end-none (b ∷ blanks) h =
    let parts = and_parts (is_blank b) (are_blank blanks) h in
    ap (before_trimmed b) (trim_end-none blanks parts.1) ∙ cond-true (is_blank b) [] (b ∷ []) parts.0

trim_end-blank : (bs blanks : List ℕ) → are_blank blanks ≡ true → trim_end (bs ++ blanks) ≡ trim_end bs
trim_end-blank [] blanks h = trim_end-none blanks h
trim_end-blank (b ∷ bs) blanks h = ap (before_trimmed b) (trim_end-blank bs blanks h)

trimmed-behind : (bs blanks : List ℕ) → are_blank blanks ≡ true → trimmed (bs ++ blanks) ≡ trimmed bs
trimmed-behind [] blanks h =
    let none : trim_start blanks ≡ [] = ap trim_start (sym (append-nil blanks)) ∙ trim_start-blank blanks [] h in
    ap trim_end none
trimmed-behind (b ∷ bs) blanks h =
    let P : Bool → Type 0 = λ t. trim_end (cond t (trim_start (bs ++ blanks)) (b ∷ (bs ++ blanks))) ≡ trim_end (cond t (trim_start bs) (b ∷ bs)) in
    elim (is_blank b) as P [ true ↦ trimmed-behind bs blanks h | false ↦ trim_end-blank (b ∷ bs) blanks h ]

pub trimmed-between : (before bs after : List ℕ) → are_blank before ≡ true → are_blank after ≡ true → trimmed bs ≡ bs → trimmed (before ++ bs ++ after) ≡ bs
trimmed-between before bs after g h e =
    trimmed-behind (before ++ bs) after h ∙ (ap trim_end (trim_start-blank before bs g) ∙ e)
