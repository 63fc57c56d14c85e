-- What single members may be, and the members that no table names.
use Rattle.std.specs.Prelude.{ℕ, zero, suc, ◌^◌, List, [], ◌∷◌, Bool, true, false, ◌||◌, not, ◌==◌, nat_lt, if◌then◌else◌, Option, None, Some, is_some, ℤ, pos, negsuc, codes, option_and_then, option_map}
use Rattle.std.specs.List.{list_any}
use Rattle.std.specs.Option.{option_map_or}
use Rattle.std.specs.Str.{bytes_eq}
use Rattle.serde_json.specs.Data.{Num, Data, null, boolean, number, string, array, object, Items, no_items, item, Members, no_members, member}
use Rattle.serde_json.specs.Find.{as_null, as_number, as_str, as_i64, as_u64, as_object}
use Rattle.nats_text.specs.Text.{is_name, is_pattern}

-- an absent member counts as this, and another one has to be read
abbrev pub absent_or : {T : Type 0} → T → (Data → Option T) → Option Data → Option T
absent_or absent read None = Some absent
absent_or absent read (Some d) = read d

-- a member that may be absent
abbrev pub maybe : {T : Type 0} → (Data → Option T) → Option Data → Option (Option T)
maybe read None = Some None
maybe read (Some d) = option_map (λ value. Some value) (read d)

-- a member that is absent or passes a test
abbrev pub absent_or_is : (Data → Bool) → Option Data → Bool
absent_or_is test None = true
absent_or_is test (Some d) = test d

-- a name
abbrev pub name_of : Data → Option (List ℕ)
name_of d = option_and_then (λ t. if is_name t then Some t else None) (as_str d)

-- a pattern
abbrev pub pattern_of : Data → Option (List ℕ)
pattern_of d = option_and_then (λ t. if is_pattern t then Some t else None) (as_str d)

-- patterns
abbrev pub patterns_of : Items → Option (List (List ℕ))
patterns_of no_items = Some []
patterns_of (item d ds) = option_and_then (λ p. option_map (λ ps. p ∷ ps) (patterns_of ds)) (pattern_of d)

-- this very word
abbrev pub is_word : List ℕ → Data → Bool
is_word word d = option_map_or (λ t. bytes_eq t word) (as_str d) false

-- a whole number of 64 bits, written without a fraction and an exponent
abbrev pub whole_of : Data → Option ℕ
whole_of d = option_and_then as_u64 (as_number d)

-- a number below 2^63
abbrev pub number_of : Data → Option ℕ
number_of d = option_and_then (λ n. if nat_lt n (2 ^ 63) then Some n else None) (whole_of d)

-- a limit below 2^63, which is none at 0 and at -1
abbrev pub limit_from : ℤ → Option ℕ
limit_from (pos n) = if nat_lt n (2 ^ 63) then Some n else None
limit_from (negsuc zero) = Some 0
limit_from (negsuc (suc n)) = None

-- a limit: -1, or a number below 2^63
abbrev pub limit_of : Data → Option ℕ
limit_of d = option_and_then limit_from (option_and_then as_i64 (as_number d))

-- no null
abbrev pub is_no_null : Data → Bool
is_no_null d = not (is_some (as_null d))

-- ---- members that no table names

-- 0 or -1
abbrev pub is_nothing : ℤ → Bool
is_nothing (pos n) = n == 0
is_nothing (negsuc n) = n == 0

-- the number 0 or -1, written without a fraction and an exponent
abbrev pub is_no_number : Num → Bool
is_no_number n = option_map_or is_nothing (as_i64 n) false

-- no items
abbrev pub has_no_items : Items → Bool
has_no_items no_items = true
has_no_items (item d ds) = false

-- no members
abbrev pub has_no_members : Members → Bool
has_no_members no_members = true
has_no_members (member k d ms) = false

-- what counts as an absent member: null, false, 0, -1, "", "none", [] and {}
abbrev pub counts_as_absent : Data → Bool
counts_as_absent null = true
counts_as_absent (boolean b) = not b
counts_as_absent (number n) = is_no_number n
counts_as_absent (string s) = bytes_eq s [] || bytes_eq s (codes "none")
counts_as_absent (array ds) = has_no_items ds
counts_as_absent (object ms) = has_no_members ms

-- the first member that has none of these names and doesn't count as absent; the members of JSON's
-- data stand in byte order
abbrev pub first_other : List (List ℕ) → Members → Option (List ℕ)
first_other known no_members = None
first_other known (member k d ms) = if list_any (bytes_eq k) known || counts_as_absent d then first_other known ms else Some k

-- the first of an object
abbrev pub other_in : List (List ℕ) → Data → Option (List ℕ)
other_in known d = option_and_then (first_other known) (as_object d)
