-- What the parts of a destination give, of the tokens that the wildcards of a source took.
use Rattle.std.specs.Prelude.{ℕ, ◌+◌, ◌-◌, ◌%◌, suc, zero, List, [], ◌∷◌, ◌++◌, length, map, Bool, true, false, ◌&&◌, ◌||◌, not, ◌==◌, nat_lt, if◌then◌else◌, count_by, decimal}
use Rattle.std.specs.Int.{is_in_range}
use Rattle.std.specs.List.{starts_with, join_with_byte, concat}
use Rattle.std.specs.Str.{bytes_eq}
use Rattle.nats_text.specs.Hash.{fnv1a}
use Rattle.nats_text.specs.Pieces.{onto_first}
use Rattle.nats_text.specs.Text.{star, tail}
use Rattle.subject_transform.specs.declared.function.Dots.{Dots}
use Rattle.subject_transform.specs.declared.function.Dots.TheVariants.{SplitFromLeft, SplitFromRight, SliceFromLeft, SliceFromRight}
use Rattle.subject_transform.specs.Parts.{Part, literal, rest, token, partition, split, dotted}

-- the token that the `*` of this number took, counted from 1, of the tokens of a source and of a subject
abbrev pub taken : List (List ℕ) → List (List ℕ) → ℕ → List ℕ
taken [] ts n = []
taken (p ∷ ps) [] n = []
taken (p ∷ ps) (t ∷ ts) n = if bytes_eq p star then (if n == 1 then t else taken ps ts (n - 1)) else taken ps ts n

-- the tokens that the last token of a source took
abbrev pub last_taken : List (List ℕ) → List (List ℕ) → List (List ℕ)
last_taken [] ts = []
last_taken (p ∷ []) ts = ts
last_taken (p ∷ q ∷ ps) [] = []
last_taken (p ∷ q ∷ ps) (t ∷ ts) = last_taken (q ∷ ps) ts

-- a byte of a character in UTF-8 behind its first (the Unicode Standard, table 3-7)
abbrev pub is_later_byte : ℕ → Bool
is_later_byte b = is_in_range 0x80 0xBF b

-- how many characters a text in UTF-8 has: as many as first bytes
abbrev pub characters : List ℕ → ℕ
characters bs = count_by (λ b. not (is_later_byte b)) bs

-- whether a dot stands before the character at a place, counted from 0, of so many: a split has k
-- characters before or behind its dot, and a slice is k characters
abbrev pub has_dot : Dots → ℕ → ℕ → ℕ → Bool
has_dot SplitFromLeft k count at = nat_lt 0 at && at == k
has_dot SplitFromRight k count at = nat_lt 0 at && count - at == k
has_dot SliceFromLeft k count at = nat_lt 0 at && at % k == 0
has_dot SliceFromRight k count at = nat_lt 0 at && (count - at) % k == 0

-- the first byte of a character, behind a dot where it has one
abbrev pub dot_before : Bool → ℕ → List ℕ
dot_before has b = if has then 46 ∷ b ∷ [] else b ∷ []

-- the bytes from a character's place on, with a dot before each character that has one
abbrev pub with_dots : (ℕ → Bool) → ℕ → List ℕ → List ℕ
with_dots has at [] = []
with_dots has at (b ∷ bs) = if is_later_byte b then b ∷ with_dots has at bs else dot_before (has at) b ++ with_dots has (at + 1) bs

-- a token with the dots of a split or a slice by length
abbrev pub dotted_by : Dots → ℕ → List ℕ → List ℕ
dotted_by dots k t = with_dots (has_dot dots k (characters t)) 0 t

-- the parts between the occurrences of a separator, found from the left; the first bytes, so many,
-- belong to one that was found
abbrev pub parts_behind : List ℕ → ℕ → List ℕ → List (List ℕ)
parts_behind separator n [] = [] ∷ []
parts_behind separator zero (b ∷ bs) = if starts_with ◌==◌ (b ∷ bs) separator then [] ∷ parts_behind separator (length separator - 1) bs else onto_first b (parts_behind separator zero bs)
parts_behind separator (suc n) (b ∷ bs) = parts_behind separator n bs

-- the texts that aren't empty
abbrev pub not_empty : List (List ℕ) → List (List ℕ)
not_empty [] = []
not_empty (t ∷ ts) = if length t == 0 then not_empty ts else t ∷ not_empty ts

-- the parts that aren't empty, with a dot between each two
abbrev pub split_by : List ℕ → List ℕ → List ℕ
split_by separator t = join_with_byte 46 (not_empty (parts_behind separator 0 t))

-- the number of a partition, of so many, for these tokens put together
abbrev pub partition_of : ℕ → List (List ℕ) → ℕ
partition_of n ts = fnv1a (concat ts) % n

-- what a part gives
abbrev pub value : List (List ℕ) → List (List ℕ) → Part → List ℕ
value ps ts (literal t) = t
value ps ts rest = join_with_byte 46 (last_taken ps ts)
value ps ts (token i) = taken ps ts i
value ps ts (partition n is) = decimal (partition_of n (map (taken ps ts) is))
value ps ts (split i separator) = split_by separator (taken ps ts i)
value ps ts (dotted dots i k) = dotted_by dots k (taken ps ts i)

-- what a part that isn't empty adds behind others, or as the first
abbrev pub added : Bool → List ℕ → List ℕ
added are_others t = if length t == 0 then [] else (if are_others then 46 ∷ t else t)
