-- Matching, a token at a time.
use Rattle.std.proofs.Common.{◌≡◌, ℕ, List, [], ◌∷◌, Bool, true, false, ◌&&◌, ◌||◌, not, cond, eqb, refl, ap, ◌∙◌}
use Rattle.std.specs.Str.{bytes_eq}
use Rattle.nats_text.specs.Pieces.{onto_first, pieces}
use Rattle.nats_text.specs.Text.{star, tail, tokens}
use Rattle.nats_text.specs.Matching.{match_tokens, matches, meets, overlap_tokens, overlap, within_tokens, is_within}

-- a list that has a first item
pub record HasFirst (parts : List (List ℕ)) : Type 0 where
  pub first : List ℕ
  pub others : List (List ℕ)
  pub is : parts ≡ first ∷ others

onto_first_first : (b : ℕ) (parts : List (List ℕ)) → HasFirst (onto_first b parts)
onto_first_first b [] = record { first = b ∷ []; others = []; is = refl }
onto_first_first b (part ∷ parts) = record { first = b ∷ part; others = parts; is = refl }

pub pieces_first : (c : ℕ) (bs : List ℕ) → HasFirst (pieces c bs)
pieces_first c [] = record { first = []; others = []; is = refl }
pieces_first c (b ∷ bs) =
    let P : Bool → Type 0 = λ t. HasFirst (cond t ([] ∷ pieces c bs) (onto_first b (pieces c bs))) in
    elim (eqb b c) as P [ true ↦ record { first = []; others = pieces c bs; is = refl } | false ↦ onto_first_first b (pieces c bs) ]

and_false : (x : Bool) → (x && false) ≡ false
and_false true = refl
and_false false = refl

or_false : (x : Bool) → (x || false) ≡ x
or_false true = refl
or_false false = refl

-- whether a token of a pattern takes a token
abbrev pub takes : List ℕ → List ℕ → Bool
takes p t = bytes_eq p star || bytes_eq p t

first_of : (p t : List ℕ) (ps ts : List (List ℕ)) → HasFirst ps → match_tokens (p ∷ ps) (t ∷ ts) ≡ (takes p t && match_tokens ps ts)
first_of p t ps ts h = rw h.is refl

none_left : (ps : List (List ℕ)) → HasFirst ps → match_tokens ps [] ≡ false
none_left ps h = rw h.is refl

-- both texts go on
pub matches_more : (w r p t w' r' : List ℕ) → pieces 46 w ≡ p ∷ pieces 46 w' → pieces 46 r ≡ t ∷ pieces 46 r' → matches w r ≡ (takes p t && matches w' r')
matches_more w r p t w' r' e f = rw (e, f) (first_of p t (pieces 46 w') (pieces 46 r') (pieces_first 46 w'))

-- the subject ends before the pattern
pub matches_short : (w r p w' : List ℕ) → pieces 46 w ≡ p ∷ pieces 46 w' → pieces 46 r ≡ r ∷ [] → matches w r ≡ false
matches_short w r p w' e f =
    rw (e, f) (first_of p r (pieces 46 w') [] (pieces_first 46 w') ∙ (ap (λ b. takes p r && b) (none_left (pieces 46 w') (pieces_first 46 w')) ∙ and_false (takes p r)))

-- the pattern ends before the subject
pub last_short : (p r t r' : List ℕ) → pieces 46 r ≡ t ∷ pieces 46 r' → match_tokens (p ∷ []) (tokens r) ≡ bytes_eq p tail
last_short p r t r' e =
    let h = pieces_first 46 r' in
    rw (e, h.is) (ap (λ b. bytes_eq p tail || b) (and_false (takes p t)) ∙ or_false (bytes_eq p tail))

-- ---- two patterns

-- neither text is at its end
overlap_first : (p q : List ℕ) (ps qs : List (List ℕ)) → HasFirst ps → HasFirst qs → overlap_tokens (p ∷ ps) (q ∷ qs) ≡ (meets p q && overlap_tokens ps qs)
overlap_first p q ps qs h g = rw (h.is, g.is)

pub overlap_more : (a b p q a' b' : List ℕ) → pieces 46 a ≡ p ∷ pieces 46 a' → pieces 46 b ≡ q ∷ pieces 46 b' → overlap a b ≡ (meets p q && overlap a' b')
overlap_more a b p q a' b' e f = rw (e, f) (overlap_first p q (pieces 46 a') (pieces 46 b') (pieces_first 46 a') (pieces_first 46 b'))

overlap_last : (p q : List ℕ) (ps : List (List ℕ)) → HasFirst ps → overlap_tokens (p ∷ ps) (q ∷ []) ≡ bytes_eq q tail
overlap_last p q ps h = rw h.is (ap (λ b. bytes_eq q tail || b) (and_false (meets p q)) ∙ or_false (bytes_eq q tail))

-- the second text is at its end
pub overlap_short : (a b p a' : List ℕ) → pieces 46 a ≡ p ∷ pieces 46 a' → pieces 46 b ≡ b ∷ [] → overlap a b ≡ bytes_eq b tail
overlap_short a b p a' e f = rw (e, f) (overlap_last p b (pieces 46 a') (pieces_first 46 a'))

-- the first text is at its end
pub overlap_ended : (p b q b' : List ℕ) → pieces 46 b ≡ q ∷ pieces 46 b' → overlap_tokens (p ∷ []) (tokens b) ≡ bytes_eq p tail
overlap_ended p b q b' e =
    let h = pieces_first 46 b' in
    rw (e, h.is) (ap (λ t. (bytes_eq p tail || false) || t) (and_false (meets p q)) ∙ (or_false (bytes_eq p tail || false) ∙ or_false (bytes_eq p tail)))

within_first : (p q : List ℕ) (ps qs : List (List ℕ)) → HasFirst ps → HasFirst qs → within_tokens (p ∷ ps) (q ∷ qs) ≡ (takes q p && within_tokens ps qs)
within_first p q ps qs h g = rw (h.is, g.is)

pub within_more : (a b p q a' b' : List ℕ) → pieces 46 a ≡ p ∷ pieces 46 a' → pieces 46 b ≡ q ∷ pieces 46 b' → is_within a b ≡ (takes q p && is_within a' b')
within_more a b p q a' b' e f = rw (e, f) (within_first p q (pieces 46 a') (pieces 46 b') (pieces_first 46 a') (pieces_first 46 b'))

within_last : (p q : List ℕ) (ps : List (List ℕ)) → HasFirst ps → within_tokens (p ∷ ps) (q ∷ []) ≡ bytes_eq q tail
within_last p q ps h = rw h.is (ap (λ b. bytes_eq q tail || b) (and_false (takes q p)) ∙ or_false (bytes_eq q tail))

pub within_short : (a b p a' : List ℕ) → pieces 46 a ≡ p ∷ pieces 46 a' → pieces 46 b ≡ b ∷ [] → is_within a b ≡ bytes_eq b tail
within_short a b p a' e f = rw (e, f) (within_last p b (pieces 46 a') (pieces_first 46 a'))

pub within_ended : (p b q b' : List ℕ) → pieces 46 b ≡ q ∷ pieces 46 b' → within_tokens (p ∷ []) (tokens b) ≡ false
within_ended p b q b' e =
    let h = pieces_first 46 b' in
    rw (e, h.is) (and_false (not (bytes_eq p tail) && takes q p))
