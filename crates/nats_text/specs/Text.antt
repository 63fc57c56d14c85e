-- What a name, a subject and a pattern are.
use Rattle.std.specs.Prelude.{ℕ, List, [], ◌∷◌, length, Bool, true, ◌&&◌, not, ◌==◌, nat_lt, nat_le}
use Rattle.std.specs.List.{list_all}
use Rattle.std.specs.Str.{is_utf8, bytes_eq}
use Rattle.nats_text.specs.Pieces.{pieces}

-- a byte of a name: from 33 to 126, and none of . * > / and \
abbrev pub is_name_byte : ℕ → Bool
is_name_byte b = nat_lt 32 b && nat_lt b 127 && not (b == 46) && not (b == 42) && not (b == 62) && not (b == 47) && not (b == 92)

-- a name: 1 to 64 such bytes
abbrev pub is_name : List ℕ → Bool
is_name bs = nat_lt 0 (length bs) && nat_le (length bs) 64 && list_all is_name_byte bs

-- the tokens of a text: its parts between the dots
abbrev pub tokens : List ℕ → List (List ℕ)
tokens bs = pieces 46 bs

-- a byte of a subject: above the space, and not DEL
abbrev pub is_subject_byte : ℕ → Bool
is_subject_byte b = nat_lt 32 b && not (b == 127)

-- a token: not empty
abbrev pub is_token : List ℕ → Bool
is_token t = nat_lt 0 (length t) && list_all is_subject_byte t

-- the wildcard `*`, which takes one token
abbrev pub star : List ℕ
star = 42 ∷ []

-- the wildcard `>`, which takes one token or more
abbrev pub tail : List ℕ
tail = 62 ∷ []

-- a token that is no wildcard
abbrev pub is_literal_token : List ℕ → Bool
is_literal_token t = is_token t && not (bytes_eq t star) && not (bytes_eq t tail)

-- a subject: up to 1,024 bytes of UTF-8, all of whose tokens are literal
abbrev pub is_subject : List ℕ → Bool
is_subject bs = nat_le (length bs) 1024 && is_utf8 bs && list_all is_literal_token (tokens bs)

-- tokens with wildcards: `*` anywhere, `>` only last
abbrev pub are_pattern_tokens : List (List ℕ) → Bool
are_pattern_tokens [] = true
are_pattern_tokens (t ∷ []) = is_token t
are_pattern_tokens (t ∷ u ∷ ts) = is_token t && not (bytes_eq t tail) && are_pattern_tokens (u ∷ ts)

-- a pattern: as a subject, but with wildcards
abbrev pub is_pattern : List ℕ → Bool
is_pattern bs = nat_le (length bs) 1024 && is_utf8 bs && are_pattern_tokens (tokens bs)
