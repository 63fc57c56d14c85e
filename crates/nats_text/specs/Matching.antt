-- Which subjects a pattern takes, by their tokens.
use Rattle.std.specs.Prelude.{ℕ, List, [], ◌∷◌, Bool, true, false, ◌&&◌, ◌||◌, not, IsTrue}
use Rattle.std.specs.Str.{bytes_eq}
use Rattle.nats_text.specs.Text.{tokens, star, tail}

-- the pattern is the one token `>`
abbrev pub is_tail : List ℕ → List (List ℕ) → Bool
is_tail p [] = bytes_eq p tail
is_tail p (q ∷ ps) = false

-- Both are empty; or the pattern is the one token `>` and there is a token; or the pattern begins
-- with `*` or with the first token, and the rest of it matches the rest.
abbrev pub match_tokens : List (List ℕ) → List (List ℕ) → Bool
match_tokens [] [] = true
match_tokens [] (t ∷ ts) = false
match_tokens (p ∷ ps) [] = false
match_tokens (p ∷ ps) (t ∷ ts) = is_tail p ps || ((bytes_eq p star || bytes_eq p t) && match_tokens ps ts)

-- the pattern matches the subject
abbrev pub matches : List ℕ → List ℕ → Bool
matches pattern subject = match_tokens (tokens pattern) (tokens subject)

-- some token is taken by both tokens of patterns
abbrev pub meets : List ℕ → List ℕ → Bool
meets p q = bytes_eq p star || bytes_eq q star || bytes_eq p q

-- Two patterns overlap: both are empty; or one of them is the token `>` and the other isn't empty;
-- or their first tokens meet, and their rests overlap.
abbrev pub overlap_tokens : List (List ℕ) → List (List ℕ) → Bool
overlap_tokens [] [] = true
overlap_tokens [] (q ∷ qs) = false
overlap_tokens (p ∷ ps) [] = false
overlap_tokens (p ∷ ps) (q ∷ qs) = is_tail p ps || is_tail q qs || (meets p q && overlap_tokens ps qs)

-- two patterns overlap, by their tokens
abbrev pub overlap : List ℕ → List ℕ → Bool
overlap a b = overlap_tokens (tokens a) (tokens b)

-- One pattern is within another: both are empty; or the other is the token `>` and the one isn't
-- empty; or the one isn't `>`, the other begins with `*` or with the same token, and the rest of the
-- one is within the rest of the other.
abbrev pub within_tokens : List (List ℕ) → List (List ℕ) → Bool
within_tokens [] [] = true
within_tokens [] (q ∷ qs) = false
within_tokens (p ∷ ps) [] = false
within_tokens (p ∷ ps) (q ∷ qs) = is_tail q qs || (not (is_tail p ps) && (bytes_eq q star || bytes_eq q p) && within_tokens ps qs)

-- a pattern is within another one, by their tokens
abbrev pub is_within : List ℕ → List ℕ → Bool
is_within a b = within_tokens (tokens a) (tokens b)

-- some list of tokens matches both
abbrev pub Overlap : List ℕ → List ℕ → Type 0
Overlap a b = (ts : List (List ℕ)) × IsTrue (match_tokens (tokens a) ts) × IsTrue (match_tokens (tokens b) ts)

-- every list of tokens that matches `a` matches `b`
abbrev pub IsWithin : List ℕ → List ℕ → Type 0
IsWithin a b = (ts : List (List ℕ)) → IsTrue (match_tokens (tokens a) ts) → IsTrue (match_tokens (tokens b) ts)
