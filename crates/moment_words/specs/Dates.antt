-- The days of the Gregorian calendar, from 1970 on.
use Rattle.std.specs.Prelude.{ℕ, ◌+◌, ◌-◌, ◌*◌, ◌/◌, ◌==◌, min, nat_le, unsigned_abs, if◌then◌else◌}
use Rattle.history_model.specs.declared.TheConstants.{MAX_WALL}
use Rattle.history_model.specs.declared.CivilMinute.{CivilMinute}

-- How many of the years up to this one are leap years: each fourth is one, but each hundredth is none, but each four hundredth is one.
abbrev pub leap_years_to : ℕ → ℕ
leap_years_to year = year / 4 - year / 100 + year / 400

-- the last year whose leap day may be before the month
abbrev pub last_leap : ℕ → ℕ → ℕ
last_leap year month = if nat_le month 2 then year - 1 else year

-- the days of a common year before the month
abbrev pub days_before : ℕ → ℕ
days_before month =
    if month == 2 then 31
    else if month == 3 then 59
    else if month == 4 then 90
    else if month == 5 then 120
    else if month == 6 then 151
    else if month == 7 then 181
    else if month == 8 then 212
    else if month == 9 then 243
    else if month == 10 then 273
    else if month == 11 then 304
    else if month == 12 then 334
    else 0

-- how many days there are from 1 January 1970 on before the date; up to 1969 there are 477 leap years
abbrev pub days_to : CivilMinute → ℕ
days_to date =
    (unsigned_abs date.year - 1970) * 365 + (leap_years_to (last_leap (unsigned_abs date.year) date.month) - 477)
    + days_before date.month + date.day - 1

-- the first second of the date by UTC, or the last that a clock may show
abbrev pub midnight_by_utc : CivilMinute → ℕ
midnight_by_utc date = min (days_to date * 86_400) MAX_WALL
