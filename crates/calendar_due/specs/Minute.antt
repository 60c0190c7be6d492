-- The civil minute that a clock shows, on the Gregorian calendar.
use Rattle.std.specs.Prelude.{◌≤◌, ◌<◌, ℕ, zero, suc, ◌+◌, ◌-◌, ◌/◌, ◌%◌, ℤ, pos, ◌-ℤ◌, nat_le, if◌then◌else◌, unsigned_abs}
use Rattle.std.specs.Int.{int_div_euclid, int_rem_euclid}
use Rattle.jiff_core.specs.Calendar.{days_in_month, days_of_months, days_from_civil, weekday_number}
use Rattle.jiff_tz.specs.Year.{year_of_day}
use Rattle.history_model.specs.declared.CivilMinute.{CivilMinute}

-- the most months, at most n, that fit in that many days of the year
unfoldable pub months_within : ℤ → ℕ → ℕ → ℕ
months_within y zero days = 0
months_within y (suc n) days =
    if nat_le (days_of_months y (suc n)) days then suc n else months_within y n days

-- the place of a day in its year, from 0
abbrev pub place_in_year : ℤ → ℕ
place_in_year day = unsigned_abs (day -ℤ days_from_civil (year_of_day day) 1 1)

-- the minute in a year, by the place of its day from 0, the whole months before it, the weekday and
-- the second of the day
abbrev pub minute_in_year : ℤ → ℕ → ℕ → ℕ → ℕ → CivilMinute
minute_in_year y place months weekday second = record {
  year = y;
  month = months + 1;
  day = place - days_of_months y months + 1;
  hour = second / 3600;
  minute = second / 60 % 60;
  weekday = weekday;
}

-- the minute of a day, by the second of the day. Day 0 is 1970-01-01, and weekdays count from
-- Sunday as 0
abbrev pub minute_of_day : ℤ → ℕ → CivilMinute
minute_of_day day second =
    minute_in_year (year_of_day day) (place_in_year day)
    (months_within (year_of_day day) 11 (place_in_year day))
    ((weekday_number day + 1) % 7) second

-- what a clock shows, seconds dropped, that many of its seconds after it showed
-- 1970-01-01T00:00:00. Its days have 86,400 seconds
abbrev pub shown_minute : ℤ → CivilMinute
shown_minute seconds =
    minute_of_day (int_div_euclid seconds (pos 86400))
    (unsigned_abs (int_rem_euclid seconds (pos 86400)))

-- a minute of the calendar: a month of the year, a day of that month, an hour and a minute of the
-- day, and a weekday
pub record IsCivil (at : CivilMinute) : Type 0 where
  pub month : (1 ≤ at.month) × (at.month ≤ 12)
  pub day : (1 ≤ at.day) × (at.day ≤ days_in_month at.year at.month)
  pub hour : at.hour < 24
  pub minute : at.minute < 60
  pub weekday : at.weekday < 7
