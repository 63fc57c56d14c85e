-- What the tokens of a destination are: literal tokens, a `>` at the end, and functions.
use Rattle.std.specs.Prelude.{ℕ, ◌+◌, ◌-◌, ◌^◌, List, [], ◌∷◌, length, take, drop, map, Bool, true, false, ◌&&◌, ◌||◌, not, ◌==◌, nat_lt, nat_le, if◌then◌else◌, Option, None, Some, is_some, Result, Ok, Err, codes}
use Rattle.std.specs.List.{list_all, starts_with, ends_with, join_with_byte}
use Rattle.std.specs.Option.{unwrap_or}
use Rattle.std.specs.Str.{is_utf8, bytes_eq, str_eq_ignore_ascii_case}
use Rattle.nats_text.specs.Numbers.{number_of, is_digit}
use Rattle.nats_text.specs.Pieces.{pieces}
use Rattle.nats_text.specs.Text.{star, tail}
use Rattle.subject_transform.specs.declared.fault.TransformKind.{TransformKind}
use Rattle.subject_transform.specs.declared.fault.TransformKind.TheVariants.{BadDest, BadFunction, BadIndex, BadNumber}
use Rattle.subject_transform.specs.declared.function.Dots.{Dots}
use Rattle.subject_transform.specs.declared.function.Dots.TheVariants.{SplitFromLeft, SplitFromRight, SliceFromLeft, SliceFromRight}
use Rattle.subject_transform.specs.declared.function.Function.{Function}
use Rattle.subject_transform.specs.declared.function.Function.TheVariants.{Wildcard, Partition, Split, Dotted}

-- one token of a destination, as it is read; an index is the number, from 1, of a `*` of the source
pub data Part : Type 0 where
  literal : List ℕ → Part
  rest : Part
  token : ℕ → Part
  partition : ℕ → List ℕ → Part
  split : ℕ → List ℕ → Part
  dotted : Dots → ℕ → ℕ → Part

-- the number that a text of 1 to 10 digits writes
abbrev pub short_number : List ℕ → Option ℕ
short_number t = if nat_le (length t) 10 then number_of t else None

-- whether a text is 1 to 10 digits
abbrev pub is_number : List ℕ → Bool
is_number t = is_some (short_number t)

-- the number that an argument writes
abbrev pub number : List ℕ → ℕ
number t = unwrap_or (short_number t) 0

-- the source has a `*` of this number
abbrev pub is_index : ℕ → List ℕ → Bool
is_index stars t = nat_lt 0 (number t) && nat_le (number t) stars

-- a byte of a separator: above the space, and none of `,` `.` `(` `)`
abbrev pub is_separator_byte : ℕ → Bool
is_separator_byte b = nat_lt 32 b && not (b == 44) && not (b == 46) && not (b == 40) && not (b == 41)

-- a separator: one such byte or more
abbrev pub is_separator : List ℕ → Bool
is_separator t = nat_lt 0 (length t) && list_all is_separator_byte t

-- a number of partitions: from 1 to 2^32 - 1
abbrev pub is_count : ℕ → Bool
is_count n = nat_lt 0 n && nat_lt n (2 ^ 32)

-- the length that a function takes: a slice has 1 character or more
abbrev pub is_length : Dots → ℕ → Bool
is_length SplitFromLeft k = true
is_length SplitFromRight k = true
is_length SliceFromLeft k = nat_lt 0 k
is_length SliceFromRight k = nat_lt 0 k

-- the part, where the index is that of a `*`
abbrev pub if_indexed : Bool → Part → Result Part TransformKind
if_indexed is_there part = if is_there then Ok part else Err BadIndex

-- the part, where the numbers are such and the index is that of a `*`
abbrev pub if_numbered : Bool → Bool → Part → Result Part TransformKind
if_numbered are_numbers is_there part = if are_numbers then if_indexed is_there part else Err BadNumber

-- `wildcard(i)`, and `$i`
abbrev pub read_wildcard : ℕ → List (List ℕ) → Result Part TransformKind
read_wildcard stars [] = Err BadFunction
read_wildcard stars (i ∷ []) = if length i == 0 then Err BadFunction else if_numbered (is_number i) (is_index stars i) (token (number i))
read_wildcard stars (i ∷ j ∷ ts) = Err BadFunction

-- `partition(n,i,..)`
abbrev pub read_partition : ℕ → List (List ℕ) → Result Part TransformKind
read_partition stars [] = Err BadFunction
read_partition stars (n ∷ []) = Err BadFunction
read_partition stars (n ∷ i ∷ is) = if_numbered (is_number n && is_count (number n) && list_all is_number (i ∷ is)) (list_all (is_index stars) (i ∷ is)) (partition (number n) (map number (i ∷ is)))

-- two arguments
abbrev pub read_two : (List ℕ → List ℕ → Result Part TransformKind) → List (List ℕ) → Result Part TransformKind
read_two read [] = Err BadFunction
read_two read (t ∷ []) = Err BadFunction
read_two read (t ∷ u ∷ []) = read t u
read_two read (t ∷ u ∷ v ∷ vs) = Err BadFunction

-- `split(i,separator)`
abbrev pub read_split : ℕ → List ℕ → List ℕ → Result Part TransformKind
read_split stars i separator = if is_separator separator then if_numbered (is_number i) (is_index stars i) (split (number i) separator) else Err BadFunction

-- `splitfromleft(i,k)`, `splitfromright(i,k)`, `slicefromleft(i,k)` and `slicefromright(i,k)`
abbrev pub read_dotted : ℕ → Dots → List ℕ → List ℕ → Result Part TransformKind
read_dotted stars dots i k = if_numbered (is_number i && is_number k && is_length dots (number k)) (is_index stars i) (dotted dots (number i) (number k))

-- the function of this name, without regard to ASCII case
abbrev pub function_named : List ℕ → Option Function
function_named name = if str_eq_ignore_ascii_case name (codes "wildcard") then Some Wildcard
    else (if str_eq_ignore_ascii_case name (codes "partition") then Some Partition
    else (if str_eq_ignore_ascii_case name (codes "split") then Some Split
    else (if str_eq_ignore_ascii_case name (codes "splitfromleft") then Some (Dotted SplitFromLeft)
    else (if str_eq_ignore_ascii_case name (codes "splitfromright") then Some (Dotted SplitFromRight)
    else (if str_eq_ignore_ascii_case name (codes "slicefromleft") then Some (Dotted SliceFromLeft)
    else (if str_eq_ignore_ascii_case name (codes "slicefromright") then Some (Dotted SliceFromRight) else None))))))

-- a function with its arguments
abbrev pub read_function : ℕ → Option Function → List (List ℕ) → Result Part TransformKind
read_function stars None arguments = Err BadFunction
read_function stars (Some Wildcard) arguments = read_wildcard stars arguments
read_function stars (Some Partition) arguments = read_partition stars arguments
read_function stars (Some Split) arguments = read_two (read_split stars) arguments
read_function stars (Some (Dotted dots)) arguments = read_two (read_dotted stars dots) arguments

-- a name, and behind its `(` the arguments and a `)`
abbrev pub read_closed : ℕ → List ℕ → List ℕ → Result Part TransformKind
read_closed stars name behind = if ends_with ◌==◌ behind (codes ")") then read_function stars (function_named name) (pieces 44 (take (length behind - 1) behind)) else Err BadFunction

-- a text that was cut at each `(`: the first one stands behind the name
abbrev pub read_opened : ℕ → List (List ℕ) → Result Part TransformKind
read_opened stars [] = Err BadFunction
read_opened stars (name ∷ []) = Err BadFunction
read_opened stars (name ∷ part ∷ parts) = read_closed stars name (join_with_byte 40 (part ∷ parts))

-- a token between `{{` and `}}`
abbrev pub is_braced : List ℕ → Bool
is_braced t = nat_le 4 (length t) && starts_with ◌==◌ t (codes "{{") && ends_with ◌==◌ t (codes "}}")

-- what stands between the braces
abbrev pub unbraced : List ℕ → List ℕ
unbraced t = take (length t - 2 - 2) (drop 2 t)

-- a token of `$` and digits
abbrev pub is_dollar : List ℕ → Bool
is_dollar t = nat_lt 1 (length t) && starts_with ◌==◌ t (codes "$") && list_all is_digit (drop 1 t)

-- a token that no destination may have, whatever the others are
abbrev pub is_bad_token : Bool → List ℕ → Bool
is_bad_token is_last t = length t == 0 || not (is_utf8 t) || bytes_eq t star || (bytes_eq t tail && not is_last)

-- a token of a destination for a source with so many `*`
abbrev pub read_part : ℕ → Bool → List ℕ → Result Part TransformKind
read_part stars is_last t = if is_bad_token is_last t then Err BadDest
    else (if bytes_eq t tail then Ok rest
    else (if is_dollar t then read_wildcard stars (drop 1 t ∷ [])
    else (if is_braced t then read_opened stars (pieces 40 (unbraced t)) else Ok (literal t))))
