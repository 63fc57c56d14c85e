-- The text of a moment, `YYYY-MM-DDTHH:MM:SS.nnnnnnnnnZ`, and the moment that a text is (RFC 3339).
use Rattle.std.specs.Prelude.{◌≡◌, ◌<◌, ◌^◌, ℕ, zero, suc, ◌+◌, ◌-◌, ◌/◌, ◌%◌, List, [], ◌∷◌, ◌++◌, nat_lt, if◌then◌else◌, Option, None, Some, Result, Ok, Err, ℤ, pos, negsuc}
use Rattle.jiff_core.specs.Calendar.{days_in_year, days_in_month}
use Rattle.jiff_core.specs.declared.error.Error.{Error}
use Rattle.jiff_fmt.specs.Temporal.{parse_timestamp}
use Rattle.jiff_fmt.specs.Text.{pad2, pad4, places}

-- the year of the day that comes so many days behind the first day of a year, and how many days of
-- that year come before it; the first number bounds the years that are passed
abbrev pub year_of : ℕ → ℕ → ℕ → ℕ × ℕ
year_of zero year day = (year, day)
year_of (suc n) year day =
    if nat_lt day (days_in_year (pos year)) then (year, day) else year_of n (suc year) (day - days_in_year (pos year))

-- the same of a month of a year
abbrev pub month_of : ℕ → ℕ → ℕ → ℕ → ℕ × ℕ
month_of zero year month day = (month, day)
month_of (suc n) year month day =
    if nat_lt day (days_in_month (pos year) month) then (month, day) else month_of n year (suc month) (day - days_in_month (pos year) month)

-- the text of a month and of a day in it
abbrev pub month_text : ℕ × ℕ → List ℕ
month_text (month, day) = pad2 month ++ 45 ∷ pad2 (day + 1)

-- the text of a year and of a day in it
abbrev pub year_text : ℕ × ℕ → List ℕ
year_text (year, day) = pad4 year ++ 45 ∷ month_text (month_of 12 year 1 day)

-- the date of the day that comes so many days behind the first of January 1970
unfoldable pub date_text : ℕ → List ℕ
date_text day = year_text (year_of day 1970 day)

-- the time of day, so many nanoseconds behind midnight
unfoldable pub time_text : ℕ → List ℕ
time_text n =
    let second = n / 1_000_000_000 in
    pad2 (second / 3600) ++ 58 ∷ pad2 (second / 60 % 60) ++ 58 ∷ pad2 (second % 60) ++ 46 ∷ places 9 1_000_000_000 (n % 1_000_000_000)

-- the moment so many nanoseconds behind the beginning of 1970
abbrev pub moment_text : ℕ → List ℕ
moment_text n = date_text (n / 86_400_000_000_000) ++ 84 ∷ time_text (n % 86_400_000_000_000) ++ 90 ∷ []

-- ---- reading

-- a moment from 1970 on, below 2^64 nanoseconds
abbrev pub natural_of : Result ℤ Error → Option ℕ
natural_of (Ok (pos n)) = if nat_lt n (2 ^ 64) then Some n else None
natural_of (Ok (negsuc n)) = None
natural_of (Err e) = None

-- the moment that a text is, in nanoseconds behind the beginning of 1970
abbrev pub moment_of : List ℕ → Option ℕ
moment_of text = natural_of (parse_timestamp text)

-- each moment is that of its text
abbrev pub TextsAreRead : Type 0
TextsAreRead = (n : ℕ) → n < 2 ^ 64 → moment_of (moment_text n) ≡ Some n
