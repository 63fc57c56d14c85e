-- The fields of a line.
use Rattle.std.specs.Prelude.{ℕ, ◌-◌, ◌==◌, List, [], ◌∷◌, length, take, drop, slice_index, Bool, ◌&&◌, nat_lt, nat_le, if◌then◌else◌, Option, None, Some}
use Rattle.nats_text.specs.Headers.{is_blank, trim_start, trimmed}
use Rattle.nats_text.specs.Numbers.{number_of}
use Rattle.nats_text.specs.Pieces.{onto_first}

-- what stands between spaces and tabs, empty where two stand side by side
abbrev pub parts : List ℕ → List (List ℕ)
parts [] = [] ∷ []
parts (b ∷ bs) = if is_blank b then [] ∷ parts bs else onto_first b (parts bs)

-- a part before others, unless it is empty
abbrev pub onto_filled : List ℕ → List (List ℕ) → List (List ℕ)
onto_filled [] others = others
onto_filled (b ∷ bs) others = (b ∷ bs) ∷ others

-- the parts that aren't empty
abbrev pub filled : List (List ℕ) → List (List ℕ)
filled [] = []
filled (part ∷ others) = onto_filled part (filled others)

-- the fields of a line, which are separated by one or more spaces and tabs
abbrev pub fields : List ℕ → List (List ℕ)
fields line = filled (parts line)

-- what stands from the first blank on
abbrev pub from_blank : List ℕ → List ℕ
from_blank [] = []
from_blank (b ∷ bs) = if is_blank b then b ∷ bs else from_blank bs

-- what stands behind the first field, without the blanks at both ends
abbrev pub argument : List ℕ → List ℕ
argument line = trimmed (from_blank (trim_start line))

-- the number that 1 to 9 digits write
abbrev pub size_of : List ℕ → Option ℕ
size_of digits = if nat_lt (length digits) 10 then number_of digits else None

-- a queue or a sid: not too long, and a field is never empty
abbrev pub is_short : List ℕ → Bool
is_short field = nat_le (length field) 100

-- a text in single quotes, without them
abbrev pub quoted : List ℕ → Option (List ℕ)
quoted text =
    if nat_lt 1 (length text) && slice_index text 0 == 39 && slice_index text (length text - 1) == 39
    then Some (take (length text - 2) (drop 1 text)) else None
