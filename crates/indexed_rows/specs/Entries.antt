-- Values under rising numbers, as a list.
use Rattle.std.specs.Prelude.{ℕ, List, [], ◌∷◌, ◌++◌, Bool, ◌==◌, nat_le, if◌then◌else◌, Option, Some, None, refl}
use Rattle.std.specs.Coded.{Coded, code_by, coded×, coded_ℕ, coded_bool, coded_list}
use Rattle.stream_fold.specs.Histories.{either}

-- the values with their numbers, and whether one more takes no memory
pub record Entries (V : Type 0) : Type 0 where
  pub items : List (ℕ × V)
  pub has_room : Bool

abbrev pub entries_code : {V : Type 0} → Coded V → Coded (Entries V)
entries_code {V} c = code_by (List (ℕ × V) × Bool) (coded× (coded_list (coded× coded_ℕ c)) coded_bool) (λ e. (e.items, e.has_room)) (λ p. record { items = p.0; has_room = p.1 }) (λ _. refl)

module _ {V : Type 0} where
  -- the values, and behind them the newest, where one stands apart
  abbrev pub with_newest : List (ℕ × V) → Option (ℕ × V) → List (ℕ × V)
  with_newest older None = older
  with_newest older (Some e) = older ++ e ∷ []

  -- the value under a number
  abbrev pub value_at : ℕ → List (ℕ × V) → Option V
  value_at number [] = None
  value_at number (e ∷ es) = if e.0 == number then Some e.1 else value_at number es

  -- the first number
  abbrev pub first_number : List (ℕ × V) → Option ℕ
  first_number [] = None
  first_number (e ∷ es) = Some e.0

  -- the last number
  abbrev pub last_number : List (ℕ × V) → Option ℕ
  last_number [] = None
  last_number (e ∷ es) = either (last_number es) (Some e.0)

  -- the first value at a number or behind it
  abbrev pub entry_from : ℕ → List (ℕ × V) → Option (ℕ × V)
  entry_from number [] = None
  entry_from number (e ∷ es) = if nat_le number e.0 then Some e else entry_from number es

  -- the first number from this one on
  abbrev pub number_from : ℕ → List (ℕ × V) → Option ℕ
  number_from number [] = None
  number_from number (e ∷ es) = if nat_le number e.0 then Some e.0 else number_from number es
