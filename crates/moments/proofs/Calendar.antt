-- The text of a moment is what a clock in UTC shows.
use Rattle.std.proofs.Common.{◌≡◌, ℕ, zero, suc, ◌+◌, ◌-◌, ◌*◌, ◌/◌, ◌%◌, ◌^◌, ◌<◌, ◌≤◌, ◌⊎◌, inl, inr, List, [], ◌∷◌, ◌++◌, Bool, true, false, nat_lt, Option, Some, refl, sym, ap, ◌∙◌, subst, arith, lt-ltb, ℤ, pos, neg_ℤ, ◌+ℤ◌, ◌*ℤ◌, ◌≤ℤ◌}
use Rattle.std.proofs.lemmas.Bool.{cases_lt}
use Rattle.std.proofs.lemmas.Bool.Decides.{nat_tests}
use Rattle.jiff_core.specs.Calendar.{days_in_year, days_in_month, days_of_months, day_of_year, day_count, IsYear, IsCivilDate}
use Rattle.jiff_core.specs.Date.{epoch_day}
use Rattle.jiff_core.specs.DateTime.{civil_nanos}
use Rattle.jiff_core.specs.Time.{time_nanos}
use Rattle.jiff_core.specs.declared.civil.date.Date.{Date}
use Rattle.jiff_core.specs.declared.civil.time.Time.{Time}
use Rattle.jiff_core.specs.declared.civil.datetime.DateTime.{DateTime}
use Rattle.jiff_core.proofs.CalendarLemmas.{day_count-epoch, days_from_civil-day_count, days_in_year_bounds, days_of_months-zero, days_of_months_more, days_of_months_all, days_of_months_mono, day_of_year_before, day_count-day_of_year, day_count-next_year, day_count-year_is}
use Rattle.jiff_core.proofs.DateTimeLemmas.{civil_nanos-parts, time_nanos_bound}
use Rattle.jiff_core.proofs.SignedLemmas.{signed_arith}
use Rattle.jiff_fmt.specs.Text as Text
use Rattle.moments.specs.Moments.{year_of, month_of, date_text, time_text, moment_text}

not_below : (a b : ℕ) → b ≤ a → nat_lt a b ≡ false
not_below a b h = grind (arith, nat_tests)

-- ---- years

-- a year and a day in it come so many days behind the first day of a year
pub record IsYearDay (year day : ℕ) (p : ℕ × ℕ) : Type 0 where
  pub within : p.1 < days_in_year (pos p.0)
  pub count : day_count (pos p.0) 1 1 + p.1 ≡ day_count (pos year) 1 1 + day
  pub bound : 365 * p.0 + p.1 ≤ 365 * year + day

next_year : (year : ℕ) → day_count (pos (suc year)) 1 1 ≡ day_count (pos year) 1 1 + days_in_year (pos year)
next_year year = day_count-next_year (pos year) (pos (suc year)) (omega (arith, signed_arith)) (omega (arith, signed_arith))

year_back : (year day length : ℕ) (first second : ℕ) (p : ℕ × ℕ) → 365 ≤ length → length ≤ day → second ≡ first + length
    → day_count (pos p.0) 1 1 + p.1 ≡ second + (day - length) → day_count (pos p.0) 1 1 + p.1 ≡ first + day
year_back year day length first second p long before next e = omega (arith, long, before, next, e)

bound_back : (year day length y d : ℕ) → 365 ≤ length → length ≤ day → 365 * y + d ≤ 365 * suc year + (day - length) → 365 * y + d ≤ 365 * year + day
bound_back year day length y d long before e = omega (arith, long, before, e)

pub year_is : (n year day : ℕ) → day < 365 * suc n → IsYearDay year day (year_of n year day)
year_is zero year day h = record {
  within = omega (arith, h, (days_in_year_bounds (pos year)).1);
  count = refl;
  bound = omega arith;
}
year_is (suc n) year day h =
    let long = days_in_year (pos year) in
    let least : 365 ≤ days_in_year (pos year) = (days_in_year_bounds (pos year)).1 in
    elim (cases_lt day (days_in_year (pos year))) [
      | inl low ↦
          let e : nat_lt day (days_in_year (pos year)) ≡ true = lt-ltb day (days_in_year (pos year)) low in
          let here : year_of (suc n) year day ≡ (year, day) = rw e refl in
          subst (λ p. IsYearDay year day p) (sym here) (record { within = low; count = refl; bound = omega arith })
      | inr high ↦
          let e : nat_lt day (days_in_year (pos year)) ≡ false = not_below day (days_in_year (pos year)) high in
          let there : year_of (suc n) year day ≡ year_of n (suc year) (day - long) = rw e refl in
          let i = year_is n (suc year) (day - long) (omega (arith, h, least, high)) in
          let p = year_of n (suc year) (day - long) in
          subst (λ q. IsYearDay year day q) (sym there) (record {
            within = i.within;
            count = year_back year day long (day_count (pos year) 1 1) (day_count (pos (suc year)) 1 1) p least high (next_year year) i.count;
            bound = bound_back year day long p.0 p.1 least high i.bound;
          })
    ]

-- ---- months

-- a month and a day in it come so many days behind the first day of a month
pub record IsMonthDay (y : ℤ) (month day : ℕ) (p : ℕ × ℕ) : Type 0 where
  pub within : p.1 < days_in_month y p.0
  pub count : days_of_months y (p.0 - 1) + p.1 ≡ days_of_months y (month - 1) + day
  pub some : 1 ≤ p.0

pub month_is : (n year month day : ℕ) → 1 ≤ month → month + n ≡ 13 → days_of_months (pos year) (month - 1) + day < days_in_year (pos year) → IsMonthDay (pos year) month day (month_of n year month day)
month_is zero year month day some all h =
    let last : month - 1 ≡ 12 = omega (arith, all) in
    let whole : days_of_months (pos year) (month - 1) ≡ days_in_year (pos year) = ap (days_of_months (pos year)) last ∙ days_of_months_all (pos year) in
    absurd (omega (arith, whole, h))
month_is (suc n) year month day some all h =
    let long = days_in_month (pos year) month in
    elim (cases_lt day (days_in_month (pos year) month)) [
      | inl low ↦
          let e : nat_lt day (days_in_month (pos year) month) ≡ true = lt-ltb day (days_in_month (pos year) month) low in
          let here : month_of (suc n) year month day ≡ (month, day) = rw e refl in
          subst (λ p. IsMonthDay (pos year) month day p) (sym here) (record { within = low; count = refl; some = some })
      | inr high ↦
          let e : nat_lt day (days_in_month (pos year) month) ≡ false = not_below day (days_in_month (pos year) month) high in
          let there : month_of (suc n) year month day ≡ month_of n year (suc month) (day - long) = rw e refl in
          let back : suc month - 1 ≡ month = omega arith in
          let grows : days_of_months (pos year) month ≡ days_of_months (pos year) (month - 1) + long = days_of_months_more (pos year) month some in
          let same : days_of_months (pos year) (suc month - 1) ≡ days_of_months (pos year) (month - 1) + long = ap (days_of_months (pos year)) back ∙ grows in
          let i = month_is n year (suc month) (day - long) (omega arith) (omega (arith, all)) (omega (arith, same, high, h)) in
          let p = month_of n year (suc month) (day - long) in
          subst (λ q. IsMonthDay (pos year) month day q) (sym there) (record {
            within = i.within;
            count = month_back (days_of_months (pos year) (p.0 - 1) + p.1) (days_of_months (pos year) (suc month - 1)) (days_of_months (pos year) (month - 1)) day long high same i.count;
            some = i.some;
          })
    ]
  where
    month_back : (all second first day length : ℕ) → length ≤ day → second ≡ first + length → all ≡ second + (day - length) → all ≡ first + day
    month_back all second first day length before next e = omega (arith, before, next, e)

same_month : (y : ℤ) (m d month rest : ℕ) → 1 ≤ m → 1 ≤ d → d ≤ days_in_month y m → 1 ≤ month → rest < days_in_month y month
    → days_of_months y (m - 1) + d ≡ days_of_months y (month - 1) + rest + 1 → m ≡ month
same_month y m d month rest some first fits most within e = elim (cases_lt m month) [
  | inl less ↦
      let near : m ≤ month - 1 = omega (arith, less) in
      let before : day_of_year y m d ≤ days_of_months y (month - 1) = day_of_year_before y m d (month - 1) some fits near in
      absurd (omega (arith, before, e))
  | inr least ↦ elim (cases_lt month m) [
    | inl more ↦
        let near : month ≤ m - 1 = omega (arith, more) in
        let after : days_of_months y month ≤ days_of_months y (m - 1) = days_of_months_mono y month (m - 1) near in
        let grows : days_of_months y month ≡ days_of_months y (month - 1) + days_in_month y month = days_of_months_more y month most in
        absurd (omega (arith, after, grows, within, first, e))
    | inr most' ↦ omega (arith, least, most')
  ]
]

-- ---- dates and times

-- the date of a day number
record IsDateOf (n : ℕ) (y : ℤ) (m d : ℕ) : Type 0 where
  year : y ≡ pos (year_of n 1970 n).0
  month : m ≡ (month_of 12 (year_of n 1970 n).0 1 (year_of n 1970 n).1).0
  day : d ≡ (month_of 12 (year_of n 1970 n).0 1 (year_of n 1970 n).1).1 + 1

date_is : (n : ℕ) (y : ℤ) (m d : ℕ) → n < 300000 → IsCivilDate y m d → day_count y m d ≡ 4_371_953 + n → IsDateOf n y m d
date_is n y m d small civil e =
    let p = year_of n 1970 n in
    let yd = year_is n 1970 n (omega arith) in
    let sum : day_count (pos p.0) 1 1 + p.1 ≡ 4_371_953 + n = yd.count ∙ ap (λ k. k + n) day_count-epoch in
    let low : day_count (pos p.0) 1 1 ≤ day_count y m d = omega (arith, sum, e) in
    let high : day_count y m d < day_count (pos p.0) 1 1 + days_in_year (pos p.0) = omega (arith, sum, e, yd.within) in
    let few : p.0 ≤ 9999 = omega (arith, yd.bound, small) in
    let legal : IsYear (pos p.0) = (omega (arith, signed_arith), omega (arith, signed_arith, few)) in
    let same : y ≡ pos p.0 = day_count-year_is (pos p.0) y m d legal civil low high in
    let first : day_count y 1 1 ≡ day_count (pos p.0) 1 1 = ap (λ z. day_count z 1 1) same in
    let place : day_count y m d + 1 ≡ day_count y 1 1 + day_of_year y m d = day_count-day_of_year y m d civil.2.0 in
    let ordinal : days_of_months y (m - 1) + d ≡ p.1 + 1 = omega (arith, sum, e, first, place) in
    let start : days_of_months (pos p.0) (1 - 1) ≡ 0 = days_of_months-zero (pos p.0) in
    let md = month_is 12 p.0 1 p.1 (omega arith) (omega arith) (omega (arith, start, yd.within)) in
    let q = month_of 12 p.0 1 p.1 in
    let at : days_of_months (pos p.0) (q.0 - 1) + q.1 ≡ p.1 = md.count ∙ (ap (λ k. k + p.1) start ∙ Rattle.std.proofs.Common.zero-add p.1) in
    let ordinal' : days_of_months (pos p.0) (m - 1) + d ≡ days_of_months (pos p.0) (q.0 - 1) + q.1 + 1 = ap (λ z. days_of_months z (m - 1) + d) (sym same) ∙ (ordinal ∙ ap (λ k. k + 1) (sym at)) in
    let fits : d ≤ days_in_month (pos p.0) m = subst (λ z. d ≤ days_in_month z m) same civil.2.1 in
    let month : m ≡ q.0 = same_month (pos p.0) m d q.0 q.1 civil.1.0 civil.2.0 fits md.some md.within ordinal' in
    let there : days_of_months (pos p.0) (m - 1) ≡ days_of_months (pos p.0) (q.0 - 1) = ap (λ k. days_of_months (pos p.0) (k - 1)) month in
    record { year = same; month = month; day = omega (arith, ordinal', there) }

date_shown : (n : ℕ) (d : Date) → IsDateOf n d.year d.month d.day → Text.date_text d ≡ date_text n
unfolding date_text
date_shown n d is = rw (is.year, is.month, is.day) refl

time_shown : (n : ℕ) (t : Time) → time_nanos t ≡ n → Text.time_text (Some 9) t ≡ time_text n
unfolding time_text
time_shown n t e =
    let hour : t.hour ≡ n / 1_000_000_000 / 3600 = omega (arith, e, t.hour_in, t.minute_in, t.second_in, t.subsec_in) in
    let minute : t.minute ≡ n / 1_000_000_000 / 60 % 60 = omega (arith, e, t.hour_in, t.minute_in, t.second_in, t.subsec_in) in
    let second : t.second ≡ n / 1_000_000_000 % 60 = omega (arith, e, t.hour_in, t.minute_in, t.second_in, t.subsec_in) in
    let rest : t.subsec_nanosecond ≡ n % 1_000_000_000 = omega (arith, e, t.hour_in, t.minute_in, t.second_in, t.subsec_in) in
    rw (hour, minute, second, rest) refl

-- what a printer of nine places writes of a moment
pub moment_shown : (n : ℕ) (dt : DateTime) → n < 2 ^ 64 → civil_nanos dt ≡ pos n → Text.datetime_text false 84 (Some 9) dt ++ Text.zulu_text false ≡ moment_text n
moment_shown n dt small e =
    let day : epoch_day dt.date ≡ pos (n / 86_400_000_000_000) = omega (arith, signed_arith, e, civil_nanos-parts dt, time_nanos_bound dt.time) in
    let time : time_nanos dt.time ≡ n % 86_400_000_000_000 = omega (arith, signed_arith, e, civil_nanos-parts dt, time_nanos_bound dt.time) in
    let k = n / 86_400_000_000_000 in
    let count : day_count dt.date.year dt.date.month dt.date.day ≡ 4_371_953 + k = omega (arith, signed_arith, day, days_from_civil-day_count dt.date.year dt.date.month dt.date.day) in
    let date = date_is k dt.date.year dt.date.month dt.date.day (omega (arith, small)) (dt.date.year_in, dt.date.month_in, dt.date.day_in) count in
    let first = date_shown k dt.date date in
    let second = time_shown (n % 86_400_000_000_000) dt.time time in
    ap (λ (a : List ℕ). (a ++ 84 ∷ Text.time_text (Some 9) dt.time) ++ 90 ∷ []) first ∙ ap (λ (b : List ℕ). (date_text k ++ 84 ∷ b) ++ 90 ∷ []) second
