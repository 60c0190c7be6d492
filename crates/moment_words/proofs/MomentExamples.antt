-- Worked examples: the days by date(1), the times worked out by a person.
use Rattle.std.specs.Prelude.{◌≡◌, ℕ, Some, None, pos, codes, refl}
use Rattle.history_model.specs.declared.CivilMinute.{CivilMinute}
use Rattle.moment_words.specs.Dates.{days_to}
use Rattle.moment_words.specs.Written.{moment_in}
use Rattle.moment_words.specs.declared.meaning.Moment.TheVariants.{Second, Ago, OfToday, OfYesterday, OfDate}

abbrev pub date : ℕ → ℕ → ℕ → CivilMinute
date year month day = record { year = pos year; month = month; day = day; hour = 0; minute = 0; weekday = 0 }

pub first_day : days_to (date 1970 1 1) ≡ 0
first_day = refl

pub leap_day : days_to (date 2000 2 29) ≡ 11016
leap_day = refl

pub behind_it : days_to (date 2000 3 1) ≡ 11017
behind_it = refl

pub last_of_a_leap_year : days_to (date 2024 12 31) ≡ 20088
last_of_a_leap_year = refl

pub this_day : days_to (date 2026 11 29) ≡ 20786
this_day = refl

pub no_leap_year : days_to (date 2100 3 1) ≡ 47541
no_leap_year = refl

pub seconds : moment_in (codes "-90s") ≡ Some (Ago 90)
seconds = refl

pub minutes : moment_in (codes "-15m") ≡ Some (Ago 900)
minutes = refl

pub hours : moment_in (codes "-2h") ≡ Some (Ago 7_200)
hours = refl

pub days : moment_in (codes "-3d") ≡ Some (Ago 259_200)
days = refl

pub weeks : moment_in (codes "-1w") ≡ Some (Ago 604_800)
weeks = refl

pub no_unit : moment_in (codes "-2x") ≡ None
no_unit = refl

pub a_second : moment_in (codes "1795305600") ≡ Some (Second 1_795_305_600)
a_second = refl

pub a_time : moment_in (codes "14:05") ≡ Some (OfToday (record { hour = 14; minute = 5; second = 0 }))
a_time = refl

pub no_time : moment_in (codes "24:00") ≡ None
no_time = refl

pub a_day_before : moment_in (codes "yesterday 06:30:15") ≡ Some (OfYesterday (record { hour = 6; minute = 30; second = 15 }))
a_day_before = refl

pub a_date : moment_in (codes "2026-11-25T14:00") ≡
    Some (OfDate (record { year = pos 2026; month = 11; day = 25; hour = 0; minute = 0; weekday = 0 }) (record { hour = 14; minute = 0; second = 0 }))
a_date = refl

pub too_early : moment_in (codes "1969-12-31") ≡ None
too_early = refl
