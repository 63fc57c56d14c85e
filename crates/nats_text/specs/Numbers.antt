-- Numbers in decimal digits.
use Rattle.std.specs.Prelude.{ℕ, ◌+◌, ◌*◌, ◌-◌, ◌^◌, List, [], ◌∷◌, length, Bool, ◌&&◌, nat_le, nat_lt, if◌then◌else◌, Option, None, Some}
use Rattle.std.specs.List.{list_all}

-- a decimal digit in ASCII
abbrev pub is_digit : ℕ → Bool
is_digit b = nat_le 48 b && nat_le b 57

-- the value of a number with these digits behind its own
abbrev pub value_after : ℕ → List ℕ → ℕ
value_after n [] = n
value_after n (b ∷ bs) = value_after (n * 10 + (b - 48)) bs

-- the number with these digits behind its own, where they are digits and it is below 2^63
abbrev pub number_after : ℕ → List ℕ → Option ℕ
number_after n bs = if list_all is_digit bs && nat_lt (value_after n bs) (2 ^ 63) then Some (value_after n bs) else None

-- the number that a text of 1 to 19 digits writes
abbrev pub number_of : List ℕ → Option ℕ
number_of bs = if nat_lt 0 (length bs) && nat_lt (length bs) 20 then number_after 0 bs else None
