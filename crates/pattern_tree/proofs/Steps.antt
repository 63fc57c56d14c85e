-- One token of a subject, and what of a pattern matches it.
use Rattle.std.proofs.Common.{◌≡◌, ◌⊎◌, inl, inr, ℕ, List, [], ◌∷◌, ◌++◌, Bool, true, false, ◌&&◌, ◌||◌, cond, eqb, refl, sym, ap, subst, ◌∙◌}
use Rattle.std.specs.Str.{bytes_eq}
use Rattle.std.specs.Cmp.Lexicographic.{bytes_decides}
use Rattle.std.proofs.lemmas.Bool.{cases_Bool, and_parts, and_from, or_cases, or_left, or_right, false≢true, eqb-true, eq-eqb}
use Rattle.nats_text.specs.Pieces.{onto_first, pieces}
use Rattle.nats_text.specs.Text.{star, tail, tokens}
use Rattle.nats_text.specs.Matching.{is_tail, match_tokens, matches}
use Rattle.pattern_tree.specs.Reached.{MatchesLast, MatchesMore}

-- a text is one part, or a part, the byte and a rest
abbrev Cut : ℕ → List ℕ → Type 0
Cut c k = (q : List ℕ) × (j : List ℕ) × (pieces c k ≡ q ∷ pieces c j) × (k ≡ q ++ c ∷ j)

cut_onto : (c b : ℕ) (bs : List ℕ) → eqb b c ≡ false → (pieces c bs ≡ bs ∷ []) ⊎ Cut c bs → (pieces c (b ∷ bs) ≡ (b ∷ bs) ∷ []) ⊎ Cut c (b ∷ bs)
cut_onto c b bs other (inl e) = inl (rw (other, e) refl)
cut_onto c b bs other (inr h) = inr (b ∷ h.0, h.1, rw (other, h.2) refl, ap (λ x. b ∷ x) h.3)

pub cut_or_whole : (c : ℕ) (k : List ℕ) → (pieces c k ≡ k ∷ []) ⊎ Cut c k
cut_or_whole c [] = inl refl
cut_or_whole c (b ∷ bs) = elim (cases_Bool (eqb b c)) [
  | inl here ↦ inr ([], bs, rw here refl, ap (λ x. x ∷ bs) (eqb-true b c here))
  | inr other ↦ cut_onto c b bs other (cut_or_whole c bs)
]

-- a list that has a first item
record Filled (parts : List (List ℕ)) : Type 0 where
  pub first : List ℕ
  pub others : List (List ℕ)
  pub is : parts ≡ first ∷ others

filled : (c : ℕ) (k : List ℕ) → Filled (pieces c k)
filled c k = elim (cut_or_whole c k) [
  | inl e ↦ record { first = k; others = []; is = e }
  | inr h ↦ record { first = h.0; others = pieces c h.1; is = h.2 }
]

both_values : (b : Bool) → b ≡ false → b ≡ true → ⊥
both_values b n y = false≢true (sym n ∙ y)

-- ---- one token is left

longer_fails : (q r : List ℕ) (ps : List (List ℕ)) → Filled ps → match_tokens (q ∷ ps) (r ∷ []) ≡ true → ⊥
longer_fails q r ps h m = false≢true (and_parts (bytes_eq q star || bytes_eq q r) false (rw h.is at m)).1

pub last_found : (k r : List ℕ) → pieces 46 r ≡ r ∷ [] → matches k r ≡ true → MatchesLast k r
last_found k r e m = elim (cut_or_whole 46 k) [
  | inl whole ↦ elim (or_cases (bytes_eq k tail) ((bytes_eq k star || bytes_eq k r) && true) (rw (e, whole) at m)) [
    | inl here ↦ inl ((bytes_decides k tail).0 here)
    | inr other ↦ elim (or_cases (bytes_eq k star) (bytes_eq k r) ((and_parts (bytes_eq k star || bytes_eq k r) true other).0)) [
      | inl any ↦ inr (inl ((bytes_decides k star).0 any))
      | inr same ↦ inr (inr ((bytes_decides k r).0 same))
    ]
  ]
  | inr h ↦ absurd (longer_fails h.0 r (pieces 46 h.1) (filled 46 h.1) (rw (e, h.2) at m))
]

same : (k : List ℕ) → bytes_eq k k ≡ true
same k = (bytes_decides k k).1 refl

pub last_from : (k r : List ℕ) → pieces 46 k ≡ k ∷ [] → pieces 46 r ≡ r ∷ [] → MatchesLast k r → matches k r ≡ true
last_from k r w e (inl h) = rw (w, e) (or_left (bytes_eq k tail) ((bytes_eq k star || bytes_eq k r) && true) ((bytes_decides k tail).1 h))
last_from k r w e (inr (inl h)) = rw (w, e) (or_right (bytes_eq k tail) ((bytes_eq k star || bytes_eq k r) && true) (and_from (bytes_eq k star || bytes_eq k r) true (or_left (bytes_eq k star) (bytes_eq k r) ((bytes_decides k star).1 h)) refl))
last_from k r w e (inr (inr h)) = rw (w, e) (or_right (bytes_eq k tail) ((bytes_eq k star || bytes_eq k r) && true) (and_from (bytes_eq k star || bytes_eq k r) true (or_right (bytes_eq k star) (bytes_eq k r) ((bytes_decides k r).1 h)) refl))

-- what matches the last token is one part
pub last_whole : (k r : List ℕ) → pieces 46 r ≡ r ∷ [] → MatchesLast k r → pieces 46 k ≡ k ∷ []
last_whole k r e (inl h) = rw h refl
last_whole k r e (inr (inl h)) = rw h refl
last_whole k r e (inr (inr h)) = rw h e

-- ---- more tokens follow

shorter_fails : (k t : List ℕ) (ts : List (List ℕ)) → bytes_eq k tail ≡ false → Filled ts → match_tokens (k ∷ []) (t ∷ ts) ≡ true → ⊥
shorter_fails k t ts none h m = elim (or_cases (bytes_eq k tail) ((bytes_eq k star || bytes_eq k t) && false) (rw h.is at m)) as (λ _. ⊥) [
  | inl y ↦ both_values (bytes_eq k tail) none y
  | inr y ↦ false≢true (and_parts (bytes_eq k star || bytes_eq k t) false y).1
]

longer_parts : (q t : List ℕ) (ps ts : List (List ℕ)) → Filled ps → match_tokens (q ∷ ps) (t ∷ ts) ≡ true → ((bytes_eq q star || bytes_eq q t) ≡ true) × (match_tokens ps ts ≡ true)
longer_parts q t ps ts h m =
    let p = and_parts (bytes_eq q star || bytes_eq q t) (match_tokens (h.first ∷ h.others) ts) (rw h.is at m) in
    (p.0, rw h.is p.1)

-- the token of a pattern that takes a token is `*` or that token
by_token : (k q t j : List ℕ) → k ≡ q ++ 46 ∷ j → (bytes_eq q star || bytes_eq q t) ≡ true → (k ≡ star ++ 46 ∷ j) ⊎ (k ≡ t ++ 46 ∷ j)
by_token k q t j is y = elim (or_cases (bytes_eq q star) (bytes_eq q t) y) [
  | inl any ↦ inl (is ∙ ap (λ x. x ++ 46 ∷ j) ((bytes_decides q star).0 any))
  | inr same ↦ inr (is ∙ ap (λ x. x ++ 46 ∷ j) ((bytes_decides q t).0 same))
]

pub more_found : (k r t after : List ℕ) → pieces 46 r ≡ t ∷ pieces 46 after → matches k r ≡ true → MatchesMore k t after
more_found k r t after e m = elim (cut_or_whole 46 k) [
  | inl whole ↦ elim (cases_Bool (bytes_eq k tail)) [
    | inl y ↦ inl ((bytes_decides k tail).0 y)
    | inr n ↦ absurd (shorter_fails k t (pieces 46 after) n (filled 46 after) (rw (e, whole) at m))
  ]
  | inr h ↦ (let p = longer_parts h.0 t (pieces 46 h.1) (pieces 46 after) (filled 46 h.1) (rw (e, h.2) at m) in inr (h.1, by_token k h.0 t h.1 h.3 p.0, p.1))
]

-- the first part of a text, the byte and another rest are cut so
first_onto : (c b : ℕ) (t f k : List ℕ) (ts os : List (List ℕ)) → eqb b c ≡ false → onto_first b (f ∷ os) ≡ t ∷ ts → pieces c (f ++ c ∷ k) ≡ f ∷ pieces c k → pieces c (t ++ c ∷ k) ≡ t ∷ pieces c k
first_onto c b t f k ts os other e h =
    let P : List ℕ → Type 0 = λ x. pieces c (x ++ c ∷ k) ≡ x ∷ pieces c k in
    subst P (ap (first_or t) e) (rw (other, h) refl)
  where
    first_or : List ℕ → List (List ℕ) → List ℕ
    first_or d [] = d
    first_or d (x ∷ xs) = x

first_is_nil : (c : ℕ) (t k : List ℕ) (ts os : List (List ℕ)) → [] ∷ os ≡ t ∷ ts → pieces c (t ++ c ∷ k) ≡ t ∷ pieces c k
first_is_nil c t k ts os e =
    let P : List ℕ → Type 0 = λ x. pieces c (x ++ c ∷ k) ≡ x ∷ pieces c k in
    subst P (ap (first_or t) e) (rw (eq-eqb c c refl) refl)
  where
    first_or : List ℕ → List (List ℕ) → List ℕ
    first_or d [] = d
    first_or d (x ∷ xs) = x

pub first_again : (c : ℕ) (r t : List ℕ) (ts : List (List ℕ)) → pieces c r ≡ t ∷ ts → (k : List ℕ) → pieces c (t ++ c ∷ k) ≡ t ∷ pieces c k
first_again c [] t ts e k = first_is_nil c t k ts [] e
first_again c (b ∷ bs) t ts e k = elim (cases_Bool (eqb b c)) [
  | inl here ↦ first_is_nil c t k ts (pieces c bs) (rw here at e)
  | inr other ↦ (let h = filled c bs in first_onto c b t h.first k ts h.others other (sym (ap (onto_first b) h.is) ∙ (rw other at e)) (first_again c bs h.first h.others h.is k))
]

token_from : (q t j after : List ℕ) → (bytes_eq q star || bytes_eq q t) ≡ true → matches j after ≡ true → match_tokens (q ∷ tokens j) (t ∷ tokens after) ≡ true
token_from q t j after y m = or_right (is_tail q (tokens j)) ((bytes_eq q star || bytes_eq q t) && match_tokens (tokens j) (tokens after)) (and_from (bytes_eq q star || bytes_eq q t) (match_tokens (tokens j) (tokens after)) y m)

pub more_from : (k r t after : List ℕ) → pieces 46 r ≡ t ∷ pieces 46 after → MatchesMore k t after → matches k r ≡ true
more_from k r t after e (inl h) = rw (h, e) refl
more_from k r t after e (inr (j, inl any, m)) = rw (any, e) (token_from star t j after refl m)
more_from k r t after e (inr (j, inr one, m)) = rw (one, e, first_again 46 r t (pieces 46 after) e j) (token_from t t j after (or_right (bytes_eq t star) (bytes_eq t t) (same t)) m)
