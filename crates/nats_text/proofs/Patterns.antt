-- What the walks over two patterns find.
use Rattle.std.proofs.Common.{◌≡◌, inl, inr, ℕ, List, [], ◌∷◌, true, false, ◌&&◌, ◌||◌, not, refl, sym, ap, ◌∙◌, subst}
use Rattle.std.specs.List.{list_all}
use Rattle.std.specs.Str.{bytes_eq}
use Rattle.std.specs.Cmp.Lexicographic.{bytes_decides}
use Rattle.std.proofs.lemmas.Bool.{and_parts, and_from, or_cases, or_left, or_right, not-true, not_from_false, false≢true, both_ways, cases_Bool}
use Rattle.nats_text.specs.Text.{star, tail, is_token, is_literal_token}
use Rattle.nats_text.specs.Matching.{is_tail, match_tokens, meets, overlap_tokens, within_tokens}
use Rattle.nats_text.proofs.Tokens.{takes}

same_bytes : (xs : List ℕ) → bytes_eq xs xs ≡ true
same_bytes xs = (bytes_decides xs xs).1 refl

takes_itself : (p : List ℕ) → takes p p ≡ true
takes_itself p = or_right (bytes_eq p star) (bytes_eq p p) (same_bytes p)

head_from : (p t : List ℕ) (ps ts : List (List ℕ)) → takes p t ≡ true → match_tokens ps ts ≡ true → match_tokens (p ∷ ps) (t ∷ ts) ≡ true
head_from p t ps ts h g = or_right (is_tail p ps) (takes p t && match_tokens ps ts) (and_from (takes p t) (match_tokens ps ts) h g)

tail_from : (p t : List ℕ) (ps ts : List (List ℕ)) → is_tail p ps ≡ true → match_tokens (p ∷ ps) (t ∷ ts) ≡ true
tail_from p t ps ts h = or_left (is_tail p ps) (takes p t && match_tokens ps ts) h

-- a match that isn't by `>`
head_parts : (p t : List ℕ) (ps ts : List (List ℕ)) → is_tail p ps ≡ false → match_tokens (p ∷ ps) (t ∷ ts) ≡ true → (takes p t ≡ true) × (match_tokens ps ts ≡ true)
head_parts p t ps ts none h =
    elim (or_cases (is_tail p ps) (takes p t && match_tokens ps ts) h) [
      | inl e ↦ absurd (both_ways (is_tail p ps) none e)
      | inr e ↦ and_parts (takes p t) (match_tokens ps ts) e
    ]

-- a list of tokens, as a pattern, matches itself
pub matches_itself : (ps : List (List ℕ)) → match_tokens ps ps ≡ true
matches_itself [] = refl
matches_itself (p ∷ ps) = head_from p p ps ps (takes_itself p) (matches_itself ps)

-- ---- overlaps

-- a token that both take
pub meets_found : (p q : List ℕ) → meets p q ≡ true → (t : List ℕ) × (takes p t ≡ true) × (takes q t ≡ true)
meets_found p q h =
    elim (or_cases (bytes_eq p star || bytes_eq q star) (bytes_eq p q) h) [
      | inl e ↦ elim (or_cases (bytes_eq p star) (bytes_eq q star) e) [
        | inl f ↦ (q, or_left (bytes_eq p star) (bytes_eq p q) f, takes_itself q)
        | inr f ↦ (p, takes_itself p, or_left (bytes_eq q star) (bytes_eq q p) f)
      ]
      | inr e ↦ (p, takes_itself p, or_right (bytes_eq q star) (bytes_eq q p) ((bytes_decides q p).1 (sym ((bytes_decides p q).0 e))))
    ]

pub meets_from : (p q t : List ℕ) → takes p t ≡ true → takes q t ≡ true → meets p q ≡ true
meets_from p q t g h =
    elim (or_cases (bytes_eq p star) (bytes_eq p t) g) [
      | inl e ↦ or_left (bytes_eq p star || bytes_eq q star) (bytes_eq p q) (or_left (bytes_eq p star) (bytes_eq q star) e)
      | inr e ↦ elim (or_cases (bytes_eq q star) (bytes_eq q t) h) [
        | inl f ↦ or_left (bytes_eq p star || bytes_eq q star) (bytes_eq p q) (or_right (bytes_eq p star) (bytes_eq q star) f)
        | inr f ↦ or_right (bytes_eq p star || bytes_eq q star) (bytes_eq p q) ((bytes_decides p q).1 ((bytes_decides p t).0 e ∙ sym ((bytes_decides q t).0 f)))
      ]
    ]

pub overlap_found : (ps qs : List (List ℕ)) → overlap_tokens ps qs ≡ true → (ts : List (List ℕ)) × (match_tokens ps ts ≡ true) × (match_tokens qs ts ≡ true)
overlap_found [] [] h = ([], refl, refl)
overlap_found [] (q ∷ qs) h = absurd (false≢true h)
overlap_found (p ∷ ps) [] h = absurd (false≢true h)
overlap_found (p ∷ ps) (q ∷ qs) h =
    elim (or_cases (is_tail p ps || is_tail q qs) (meets p q && overlap_tokens ps qs) h) [
      | inl e ↦ elim (or_cases (is_tail p ps) (is_tail q qs) e) [
        | inl f ↦ (q ∷ qs, tail_from p q ps qs f, matches_itself (q ∷ qs))
        | inr f ↦ (p ∷ ps, matches_itself (p ∷ ps), tail_from q p qs ps f)
      ]
      | inr e ↦
          let parts = and_parts (meets p q) (overlap_tokens ps qs) e in
          let first = meets_found p q parts.0 in
          let rest = overlap_found ps qs parts.1 in
          (first.0 ∷ rest.0, head_from p first.0 ps rest.0 first.1 rest.1, head_from q first.0 qs rest.0 first.2 rest.2)
    ]

pub overlap_from : (ps qs ts : List (List ℕ)) → match_tokens ps ts ≡ true → match_tokens qs ts ≡ true → overlap_tokens ps qs ≡ true
overlap_from [] [] ts g h = refl
overlap_from [] (q ∷ qs) [] g h = h
overlap_from [] (q ∷ qs) (t ∷ ts) g h = g
overlap_from (p ∷ ps) [] [] g h = g
overlap_from (p ∷ ps) [] (t ∷ ts) g h = h
overlap_from (p ∷ ps) (q ∷ qs) [] g h = absurd (false≢true g)
overlap_from (p ∷ ps) (q ∷ qs) (t ∷ ts) g h =
    elim (or_cases (is_tail p ps) (takes p t && match_tokens ps ts) g) [
      | inl e ↦ or_left (is_tail p ps || is_tail q qs) (meets p q && overlap_tokens ps qs) (or_left (is_tail p ps) (is_tail q qs) e)
      | inr e ↦ elim (or_cases (is_tail q qs) (takes q t && match_tokens qs ts) h) [
        | inl f ↦ or_left (is_tail p ps || is_tail q qs) (meets p q && overlap_tokens ps qs) (or_right (is_tail p ps) (is_tail q qs) f)
        | inr f ↦
            let a = and_parts (takes p t) (match_tokens ps ts) e in
            let b = and_parts (takes q t) (match_tokens qs ts) f in
            or_right (is_tail p ps || is_tail q qs) (meets p q && overlap_tokens ps qs)
            (and_from (meets p q) (overlap_tokens ps qs) (meets_from p q t a.0 b.0) (overlap_from ps qs ts a.1 b.1))
      ]
    ]

-- ---- within

pub within_kept : (ps qs : List (List ℕ)) → within_tokens ps qs ≡ true → (ts : List (List ℕ)) → match_tokens ps ts ≡ true → match_tokens qs ts ≡ true
within_kept [] [] h ts g = g
within_kept [] (q ∷ qs) h ts g = absurd (false≢true h)
within_kept (p ∷ ps) [] h ts g = absurd (false≢true h)
within_kept (p ∷ ps) (q ∷ qs) h [] g = g
within_kept (p ∷ ps) (q ∷ qs) h (t ∷ ts) g =
    elim (or_cases (is_tail q qs) (not (is_tail p ps) && takes q p && within_tokens ps qs) h) [
      | inl e ↦ tail_from q t qs ts e
      | inr e ↦
          let parts = and_parts (not (is_tail p ps) && takes q p) (within_tokens ps qs) e in
          let first = and_parts (not (is_tail p ps)) (takes q p) parts.0 in
          let match = head_parts p t ps ts (not-true (is_tail p ps) first.0) g in
          head_from q t qs ts (wider p q t first.1 match.0) (within_kept ps qs parts.1 ts match.1)
    ]
  where
    wider : (p q t : List ℕ) → takes q p ≡ true → takes p t ≡ true → takes q t ≡ true
    wider p q t h g =
        elim (or_cases (bytes_eq q star) (bytes_eq q p) h) [
          | inl e ↦ or_left (bytes_eq q star) (bytes_eq q t) e
          | inr e ↦ subst (λ (x : List ℕ). takes x t ≡ true) (sym ((bytes_decides q p).0 e)) g
        ]

-- a pattern with `>` last isn't within one without
tail_beyond : (p q : List ℕ) (ps qs : List (List ℕ)) → is_tail p ps ≡ true → is_tail q qs ≡ false → ((ts : List (List ℕ)) → match_tokens (p ∷ ps) ts ≡ true → match_tokens (q ∷ qs) ts ≡ true) → ⊥
tail_beyond p q ps [] g h f =
    let two = head_parts q p [] (p ∷ []) h (f (p ∷ p ∷ []) (tail_from p p ps (p ∷ []) g)) in
    false≢true two.1
tail_beyond p q ps (r ∷ rs) g h f =
    let one = head_parts q p (r ∷ rs) [] h (f (p ∷ []) (tail_from p p ps [] g)) in
    false≢true one.1

pub within_found : (ps qs : List (List ℕ)) → ((ts : List (List ℕ)) → match_tokens ps ts ≡ true → match_tokens qs ts ≡ true) → within_tokens ps qs ≡ true
within_found [] [] f = refl
within_found [] (q ∷ qs) f = f [] refl
within_found (p ∷ ps) [] f = f (p ∷ ps) (matches_itself (p ∷ ps))
within_found (p ∷ ps) (q ∷ qs) f =
    elim (cases_Bool (is_tail q qs)) [
      | inl e ↦ or_left (is_tail q qs) (not (is_tail p ps) && takes q p && within_tokens ps qs) e
      | inr e ↦ elim (cases_Bool (is_tail p ps)) [
        | inl g ↦ absurd (tail_beyond p q ps qs g e f)
        | inr g ↦
            let first = head_parts q p qs ps e (f (p ∷ ps) (matches_itself (p ∷ ps))) in
            let rest : (ts : List (List ℕ)) → match_tokens ps ts ≡ true → match_tokens qs ts ≡ true = λ ts h. (head_parts q p qs ts e (f (p ∷ ts) (head_from p p ps ts (takes_itself p) h))).1 in
            or_right (is_tail q qs) (not (is_tail p ps) && takes q p && within_tokens ps qs)
            (and_from (not (is_tail p ps) && takes q p) (within_tokens ps qs)
            (and_from (not (is_tail p ps)) (takes q p) (not_from_false (is_tail p ps) g) first.0)
            (within_found ps qs rest))
      ]
    ]

-- ---- literal patterns

literal_no_tail : (p : List ℕ) (ps : List (List ℕ)) → bytes_eq p tail ≡ false → is_tail p ps ≡ false
literal_no_tail p [] h = h
literal_no_tail p (q ∷ ps) h = refl

pub literal_matches : (ps ts : List (List ℕ)) → list_all is_literal_token ps ≡ true → match_tokens ps ts ≡ true → ts ≡ ps
literal_matches [] [] l h = refl
literal_matches [] (t ∷ ts) l h = absurd (false≢true h)
literal_matches (p ∷ ps) [] l h = absurd (false≢true h)
literal_matches (p ∷ ps) (t ∷ ts) l h =
    let parts = and_parts (is_literal_token p) (list_all is_literal_token ps) l in
    let plain = and_parts (is_token p && not (bytes_eq p star)) (not (bytes_eq p tail)) parts.0 in
    let no_star = not-true (bytes_eq p star) (and_parts (is_token p) (not (bytes_eq p star)) plain.0).1 in
    let match = head_parts p t ps ts (literal_no_tail p ps (not-true (bytes_eq p tail) plain.1)) h in
    let first : t ≡ p = elim (or_cases (bytes_eq p star) (bytes_eq p t) match.0) [ inl e ↦ absurd (both_ways (bytes_eq p star) no_star e) | inr e ↦ sym ((bytes_decides p t).0 e) ] in
    ap (λ x. x ∷ ts) first ∙ ap (λ xs. p ∷ xs) (literal_matches ps ts parts.1 match.1)
