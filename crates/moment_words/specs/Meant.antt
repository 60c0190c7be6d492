-- The second of Unix time that a written moment means, by a clock and at a present second.
use Rattle.std.specs.Prelude.{◌≡◌, ℕ, ◌+◌, ◌-◌, min, Option, Some, None, option_map}
use Rattle.history_model.specs.declared.TheConstants.{MAX_WALL}
use Rattle.history_model.specs.declared.CivilMinute.{CivilMinute}
use Rattle.history_model.specs.Calendar.{Zone}
use Rattle.moment_words.specs.declared.meaning.TheConstants.{REACH}
use Rattle.moment_words.specs.declared.meaning.Time.{Time}
use Rattle.moment_words.specs.declared.meaning.Moment.{Moment}
use Rattle.moment_words.specs.declared.meaning.Moment.TheVariants.{Second, Ago, OfToday, OfYesterday, OfDate}
use Rattle.moment_words.specs.Dates.{midnight_by_utc}
use Rattle.moment_words.specs.Shown.{IsFirstShown}

-- the date of the one, and the time
abbrev pub with_time : CivilMinute → Time → CivilMinute
with_time date time = record date { hour = time.hour; minute = time.minute }

-- the first second, of the three days before and after, at which the clock shows that date, and that minute or a later one; plus
-- the seconds
abbrev pub IsFirstOf : Zone → CivilMinute → ℕ → ℕ → Option ℕ → Type 0
IsFirstOf zone wanted seconds about r =
    (m : Option ℕ) × IsFirstShown zone wanted (about - REACH) (min (about + REACH) MAX_WALL) m
    × (r ≡ option_map (λ minute. minute + seconds) m)

-- the midnight from which on a clock shows that date
abbrev pub IsMidnight : Zone → CivilMinute → ℕ → Option ℕ → Type 0
IsMidnight zone date about r = IsFirstOf zone (record date { hour = 0; minute = 0 }) 0 about r

-- the same time of the day that ends with this midnight
abbrev pub IsOfDayBefore : Zone → Time → Option ℕ → Option ℕ → Type 0
IsOfDayBefore zone time None r = r ≡ None
IsOfDayBefore zone time (Some midnight) r =
    IsFirstOf zone (with_time (zone (midnight - 1)) time) time.second (midnight - 1) r

abbrev pub Means : Zone → ℕ → Moment → Option ℕ → Type 0
Means zone now (Second second) r = r ≡ Some second
Means zone now (Ago seconds) r = r ≡ Some (now - seconds)
Means zone now (OfToday time) r = IsFirstOf zone (with_time (zone now) time) time.second now r
Means zone now (OfYesterday time) r =
    (midnight : Option ℕ) × IsMidnight zone (zone now) now midnight
    × IsOfDayBefore zone time midnight r
Means zone now (OfDate date time) r =
    IsFirstOf zone (with_time date time) time.second (midnight_by_utc date) r
