-- The text of a moment is read as the moment.
use Rattle.std.proofs.Common.{◌≡◌, ℕ, zero, suc, ◌+◌, ◌-◌, ◌*◌, ◌/◌, ◌%◌, ◌^◌, ◌<◌, ◌≤◌, ◌==◌, min, take_at, drop_at, List, [], ◌∷◌, ◌++◌, true, false, cond, Some, None, Ok, refl, sym, ap, ◌∙◌, arith, append_assoc, IsUtf8, ℤ, pos, ◌-ℤ◌, lt-ltb, inl, inr}
use Rattle.std.specs.Char.{is_ascii_digit}
use Rattle.std.specs.List.{prefix_len}
use Rattle.std.specs.Str.{IsAscii}
use Rattle.std.proofs.lemmas.Bool.{cases_lt}
use Rattle.std.proofs.lemmas.Bool.Decides.{nat_tests}
use Rattle.std.proofs.lemmas.Str.{IsUtf8-from_ascii, IsUtf8-append}
use Rattle.jiff_core.specs.declared.civil.date.Date.{Date}
use Rattle.jiff_core.specs.declared.civil.time.Time.{Time}
use Rattle.jiff_core.specs.declared.civil.datetime.DateTime.{DateTime}
use Rattle.jiff_core.specs.declared.error.Syntax.TheVariants as Syntax
use Rattle.jiff_core.specs.declared.error.Bound.TheVariants as Bd
use Rattle.jiff_core.specs.Calendar.{days_in_month, days_of_months, day_of_year, day_count, IsYear}
use Rattle.jiff_core.specs.Date.{epoch_day}
use Rattle.jiff_core.specs.DateTime.{civil_nanos}
use Rattle.jiff_core.specs.Time.{time_nanos}
use Rattle.jiff_core.specs.Timestamp.{IsTimestampNanos, nanos_of_seconds}
use Rattle.jiff_core.proofs.CalendarLemmas.{day_count-epoch, days_from_civil-day_count, days_in_month_bounds, days_of_months-zero, days_of_months_all, days_of_months_mono, day_count-day_of_year}
use Rattle.jiff_core.proofs.DateTimeLemmas.{civil_nanos-parts}
use Rattle.jiff_core.proofs.SignedLemmas.{signed_arith}
use Rattle.jiff_fmt.specs.Reader.{nanoseconds, temporal_fraction, fraction_value}
use Rattle.jiff_fmt.specs.Temporal as spec
use Rattle.jiff_fmt.specs.Temporal.{date_spec, date_parts, time_spec, time_parts, temporal_datetime, parse_timestamp}
use Rattle.jiff_fmt.specs.Text.{pad2, pad4, places, fraction_part, date_text, time_text, datetime_text, zulu_text}
use Rattle.jiff_fmt.proofs.RoundTrip.{Stops, field-pad2, date_spec-text, annotations-empty, offset-zulu}
use Rattle.jiff_fmt.proofs.TemporalLemmas.{instant-ok}
use Rattle.jiff_fmt.proofs.TextLemmas.{places-read}
use Rattle.moments.specs.Moments as Moments
use Rattle.moments.specs.Moments.{year_of, month_of, moment_text, moment_of, natural_of}
use Rattle.moments.proofs.Calendar.{year_is, month_is, moment_shown}

-- ---- the fraction of nine places

stops_digit : (rest : List ℕ) → Stops rest → prefix_len is_ascii_digit rest ≡ 0
stops_digit [] s = refl
stops_digit (c ∷ rest) s =
    let not_digit : is_ascii_digit c ≡ false = grind (arith, nat_tests, s) in
    rw not_digit

nine_read : (n : ℕ) (rest : List ℕ) → n < 1_000_000_000 → Stops rest → nanoseconds (places 9 1_000_000_000 n ++ rest) ≡ Ok (n, rest)
unfolding nanoseconds
nine_read n rest high s =
    let facts = places-read 9 9 n rest (omega arith) high in
    let count : min (prefix_len is_ascii_digit (places 9 1_000_000_000 n ++ rest)) 9 ≡ 9 = omega (arith, facts.0, stops_digit rest s) in
    let value : fraction_value 9 (places 9 1_000_000_000 n) ≡ n = omega (arith, facts.2) in
    rw (count, take_at (places 9 1_000_000_000 n) rest 9 facts.1, drop_at (places 9 1_000_000_000 n) rest 9 facts.1, value)

fraction_read : (n : ℕ) (rest : List ℕ) → n < 1_000_000_000 → Stops rest → temporal_fraction (fraction_part (Some 9) n ++ rest) ≡ Ok (Some n, rest)
unfolding temporal_fraction
fraction_read n rest high s = rw (nine_read n rest high s)

-- ---- the time and the moment

time_read : (t : Time) (rest : List ℕ) → Stops rest → time_spec (time_text (Some 9) t ++ rest) ≡ Ok ((time_parts t, true), rest)
unfolding time_spec
time_read t rest s =
    let fraction = fraction_read t.subsec_nanosecond rest t.subsec_in s in
    let fraction_text = fraction_part (Some 9) t.subsec_nanosecond ++ rest in
    let after_minute = 58 ∷ pad2 t.second ++ fraction_text in
    let after_hour = 58 ∷ pad2 t.minute ++ after_minute in
    let shape : time_text (Some 9) t ++ rest ≡ pad2 t.hour ++ after_hour = simp append_assoc refl in
    let hour = field-pad2 Syntax.Hour 0 23 Bd.Hour t.hour after_hour (omega arith) (omega (arith, t.hour_in)) (omega (arith, t.hour_in)) in
    let minute = field-pad2 Syntax.Minute 0 59 Bd.Minute t.minute after_minute (omega arith) (omega (arith, t.minute_in)) (omega (arith, t.minute_in)) in
    let second = field-pad2 Syntax.Second 0 60 Bd.LeapSecond t.second fraction_text (omega arith) (omega (arith, t.second_in)) (omega (arith, t.second_in)) in
    let no_leap : (t.second == 60) ≡ false = grind (arith, nat_tests, t.second_in) in
    rw (shape, hour, minute, second, no_leap, fraction)

date_read : (dt : DateTime) (rest : List ℕ) → date_spec (datetime_text false 84 (Some 9) dt ++ rest) ≡ Ok (date_parts dt.date, 84 ∷ time_text (Some 9) dt.time ++ rest)
date_read dt rest =
    let shape : datetime_text false 84 (Some 9) dt ++ rest ≡ date_text dt.date ++ (84 ∷ time_text (Some 9) dt.time ++ rest) = append_assoc (date_text dt.date) (84 ∷ time_text (Some 9) dt.time) rest in
    rw shape (date_spec-text dt.date (84 ∷ time_text (Some 9) dt.time ++ rest))

parsed : (dt : DateTime) (n : ℕ) → n < 2 ^ 64 → civil_nanos dt ≡ pos n → parse_timestamp (datetime_text false 84 (Some 9) dt ++ zulu_text false) ≡ Ok (pos n)
unfolding temporal_datetime civil_nanos
parsed dt n small e =
    let stop : Stops (90 ∷ []) = refl in
    let read = date_read dt (90 ∷ []) in
    let clock = time_read dt.time (90 ∷ []) stop in
    let value : spec.parts_nanos (date_parts dt.date) (time_parts dt.time) -ℤ nanos_of_seconds (pos 0) ≡ pos n = omega (arith, signed_arith, e) in
    let within : IsTimestampNanos (pos n) = (omega (arith, signed_arith), omega (arith, signed_arith, small)) in
    rw (read, clock, offset-zulu, annotations-empty, value, instant-ok (pos n) within)

-- ---- each moment has a date and a time

record DateOf (n : ℕ) : Type 0 where
  date : Date
  day : epoch_day date ≡ pos n

low_month : (y : ℤ) (month rest total : ℕ) → days_of_months y (month - 1) + rest ≡ total → total < days_of_months y 12 → month ≤ 12
low_month y month rest total e h = elim (cases_lt month 13) [
  | inl low ↦ omega (arith, low)
  | inr high ↦
      let near : 12 ≤ month - 1 = omega (arith, high) in
      let more : days_of_months y 12 ≤ days_of_months y (month - 1) = days_of_months_mono y 12 (month - 1) near in
      absurd (omega (arith, more, e, h))
]

date_of : (n : ℕ) → n < 300000 → DateOf n
date_of n small =
    let p = year_of n 1970 n in
    let yd = year_is n 1970 n (omega arith) in
    let sum : day_count (pos p.0) 1 1 + p.1 ≡ 4_371_953 + n = yd.count ∙ ap (λ k. k + n) day_count-epoch in
    let few : p.0 ≤ 9999 = omega (arith, yd.bound, small) in
    let legal : IsYear (pos p.0) = (omega (arith, signed_arith), omega (arith, signed_arith, few)) in
    let start : days_of_months (pos p.0) (1 - 1) ≡ 0 = days_of_months-zero (pos p.0) in
    let md = month_is 12 p.0 1 p.1 (omega arith) (omega arith) (omega (arith, start, yd.within)) in
    let q = month_of 12 p.0 1 p.1 in
    let at : days_of_months (pos p.0) (q.0 - 1) + q.1 ≡ p.1 = omega (arith, md.count, start) in
    let year_long = days_of_months_all (pos p.0) in
    let last : q.0 ≤ 12 = low_month (pos p.0) q.0 q.1 p.1 at (omega (arith, year_long, yd.within)) in
    let some : 1 ≤ q.1 + 1 = omega arith in
    let fits : q.1 + 1 ≤ days_in_month (pos p.0) q.0 = omega (arith, md.within) in
    let place : day_count (pos p.0) q.0 (q.1 + 1) + 1 ≡ day_count (pos p.0) 1 1 + day_of_year (pos p.0) q.0 (q.1 + 1) = day_count-day_of_year (pos p.0) q.0 (q.1 + 1) some in
    let count : day_count (pos p.0) q.0 (q.1 + 1) ≡ 4_371_953 + n = omega (arith, place, sum, at) in
    record {
      date = record { year = pos p.0; month = q.0; day = q.1 + 1; year_in = legal; month_in = (md.some, last); day_in = (some, fits) };
      day = omega (arith, signed_arith, count, days_from_civil-day_count (pos p.0) q.0 (q.1 + 1));
    }

record TimeOf (n : ℕ) : Type 0 where
  time : Time
  nanos : time_nanos time ≡ n

time_of : (n : ℕ) → n < 86_400_000_000_000 → TimeOf n
time_of n h = record {
  time = record {
    hour = n / 1_000_000_000 / 3600;
    minute = n / 1_000_000_000 / 60 % 60;
    second = n / 1_000_000_000 % 60;
    subsec_nanosecond = n % 1_000_000_000;
    hour_in = omega (arith, h);
    minute_in = omega arith;
    second_in = omega arith;
    subsec_in = omega arith;
  };
  nanos = omega arith;
}

record ClockOf (n : ℕ) : Type 0 where
  clock : DateTime
  nanos : civil_nanos clock ≡ pos n

clock_of : (n : ℕ) → n < 2 ^ 64 → ClockOf n
clock_of n small =
    let d = date_of (n / 86_400_000_000_000) (omega (arith, small)) in
    let t = time_of (n % 86_400_000_000_000) (omega arith) in
    let dt : DateTime = record { date = d.date; time = t.time } in
    let whole : n / 86_400_000_000_000 * 86_400_000_000_000 + n % 86_400_000_000_000 ≡ n = omega arith in
    record { clock = dt; nanos = omega (arith, signed_arith, civil_nanos-parts dt, d.day, t.nanos, whole) }

pub moment_read : (n : ℕ) → n < 2 ^ 64 → moment_of (moment_text n) ≡ Some n
moment_read n small =
    let c = clock_of n small in
    let text = moment_shown n c.clock small c.nanos in
    ap (λ t. natural_of (parse_timestamp t)) (sym text) ∙ (ap natural_of (parsed c.clock n small c.nanos) ∙ ap (λ b. cond b (Some n) None) (lt-ltb n (2 ^ 64) small))

-- ---- the text of a moment is text

one_byte : (b : ℕ) → b < 128 → IsAscii (b ∷ [])
one_byte b h zero = h
one_byte b h (suc i) = omega arith

byte_text : (b : ℕ) → b < 128 → IsUtf8 (b ∷ [])
byte_text b h = IsUtf8-from_ascii (b ∷ []) (one_byte b h)

pad2_text : (n : ℕ) → n < 100 → IsUtf8 (pad2 n)
pad2_text n h = IsUtf8-append ((48 + n / 10) ∷ []) ((48 + n % 10) ∷ []) (byte_text (48 + n / 10) (omega arith)) (byte_text (48 + n % 10) (omega arith))

then_text : (b : ℕ) (rest : List ℕ) → b < 128 → IsUtf8 rest → IsUtf8 (b ∷ rest)
then_text b rest h u = IsUtf8-append (b ∷ []) rest (byte_text b h) u

nine_text : (n : ℕ) → n < 1_000_000_000 → IsUtf8 (places 9 1_000_000_000 n)
unfolding places
nine_text n h =
    let a1 : ℕ = n % 100_000_000 in
    let a2 : ℕ = n % 100_000_000 % 10_000_000 in
    let a3 : ℕ = n % 100_000_000 % 10_000_000 % 1_000_000 in
    let a4 : ℕ = n % 100_000_000 % 10_000_000 % 1_000_000 % 100_000 in
    let a5 : ℕ = n % 100_000_000 % 10_000_000 % 1_000_000 % 100_000 % 10_000 in
    let a6 : ℕ = n % 100_000_000 % 10_000_000 % 1_000_000 % 100_000 % 10_000 % 1_000 in
    let a7 : ℕ = n % 100_000_000 % 10_000_000 % 1_000_000 % 100_000 % 10_000 % 1_000 % 100 in
    let a8 : ℕ = n % 100_000_000 % 10_000_000 % 1_000_000 % 100_000 % 10_000 % 1_000 % 100 % 10 in
    let t9 = then_text (48 + a8 / 1) [] (omega arith) (IsUtf8-from_ascii [] (λ i. omega arith)) in
    let t8 = then_text (48 + a7 / 10) _ (omega arith) t9 in
    let t7 = then_text (48 + a6 / 100) _ (omega arith) t8 in
    let t6 = then_text (48 + a5 / 1_000) _ (omega arith) t7 in
    let t5 = then_text (48 + a4 / 10_000) _ (omega arith) t6 in
    let t4 = then_text (48 + a3 / 100_000) _ (omega arith) t5 in
    let t3 = then_text (48 + a2 / 1_000_000) _ (omega arith) t4 in
    let t2 = then_text (48 + a1 / 10_000_000) _ (omega arith) t3 in
    then_text (48 + n / 100_000_000) _ (omega (arith, h)) t2

time_utf8 : (n : ℕ) → n < 86_400_000_000_000 → IsUtf8 (Moments.time_text n)
unfolding Moments.time_text
time_utf8 n h =
    let second : ℕ = n / 1_000_000_000 in
    let hour = pad2_text (n / 1_000_000_000 / 3600) (omega (arith, h)) in
    let minute = pad2_text (n / 1_000_000_000 / 60 % 60) (omega arith) in
    let last = pad2_text (n / 1_000_000_000 % 60) (omega arith) in
    let rest = nine_text (n % 1_000_000_000) (omega arith) in
    IsUtf8-append ((pad2 (second / 3600) ++ 58 ∷ pad2 (second / 60 % 60)) ++ 58 ∷ pad2 (second % 60)) (46 ∷ places 9 1_000_000_000 (n % 1_000_000_000))
    (IsUtf8-append (pad2 (second / 3600) ++ 58 ∷ pad2 (second / 60 % 60)) (58 ∷ pad2 (second % 60))
    (IsUtf8-append (pad2 (second / 3600)) (58 ∷ pad2 (second / 60 % 60)) hour (then_text 58 (pad2 (second / 60 % 60)) (omega arith) minute))
    (then_text 58 (pad2 (second % 60)) (omega arith) last))
    (then_text 46 (places 9 1_000_000_000 (n % 1_000_000_000)) (omega arith) rest)

record DateBounds (n : ℕ) : Type 0 where
  few : (year_of n 1970 n).0 ≤ 9999
  last : (month_of 12 (year_of n 1970 n).0 1 (year_of n 1970 n).1).0 ≤ 12
  fits : (month_of 12 (year_of n 1970 n).0 1 (year_of n 1970 n).1).1 < 31

date_bounds : (n : ℕ) → n < 300000 → DateBounds n
date_bounds n small =
    let p = year_of n 1970 n in
    let yd = year_is n 1970 n (omega arith) in
    let few : p.0 ≤ 9999 = omega (arith, yd.bound, small) in
    let start : days_of_months (pos p.0) (1 - 1) ≡ 0 = days_of_months-zero (pos p.0) in
    let md = month_is 12 p.0 1 p.1 (omega arith) (omega arith) (omega (arith, start, yd.within)) in
    let q = month_of 12 p.0 1 p.1 in
    let at : days_of_months (pos p.0) (q.0 - 1) + q.1 ≡ p.1 = omega (arith, md.count, start) in
    let year_long = days_of_months_all (pos p.0) in
    let last : q.0 ≤ 12 = low_month (pos p.0) q.0 q.1 p.1 at (omega (arith, year_long, yd.within)) in
    let long = (days_in_month_bounds (pos p.0) q.0).0 in
    record { few = few; last = last; fits = omega (arith, long, md.within) }

date_utf8 : (n : ℕ) → n < 300000 → IsUtf8 (Moments.date_text n)
unfolding Moments.date_text
date_utf8 n small =
    let b = date_bounds n small in
    let p = year_of n 1970 n in
    let q = month_of 12 p.0 1 p.1 in
    let y1 = pad2_text (p.0 / 100) (omega (arith, b.few)) in
    let y2 = pad2_text (p.0 % 100) (omega arith) in
    let m = pad2_text q.0 (omega (arith, b.last)) in
    let d = pad2_text (q.1 + 1) (omega (arith, b.fits)) in
    IsUtf8-append (pad4 p.0) (45 ∷ (pad2 q.0 ++ 45 ∷ pad2 (q.1 + 1))) (IsUtf8-append (pad2 (p.0 / 100)) (pad2 (p.0 % 100)) y1 y2)
    (then_text 45 (pad2 q.0 ++ 45 ∷ pad2 (q.1 + 1)) (omega arith) (IsUtf8-append (pad2 q.0) (45 ∷ pad2 (q.1 + 1)) m (then_text 45 (pad2 (q.1 + 1)) (omega arith) d)))

pub moment_utf8 : (n : ℕ) → n < 2 ^ 64 → IsUtf8 (moment_text n)
moment_utf8 n small =
    let k : ℕ = n / 86_400_000_000_000 in
    let m : ℕ = n % 86_400_000_000_000 in
    let date = date_utf8 (n / 86_400_000_000_000) (omega (arith, small)) in
    let time = time_utf8 (n % 86_400_000_000_000) (omega arith) in
    IsUtf8-append (Moments.date_text k ++ 84 ∷ Moments.time_text m) (90 ∷ [])
    (IsUtf8-append (Moments.date_text k) (84 ∷ Moments.time_text m) date (then_text 84 (Moments.time_text m) (omega arith) time)) (byte_text 90 (omega arith))
