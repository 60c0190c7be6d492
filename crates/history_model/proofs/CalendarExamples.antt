-- Worked examples of calendar entries and crossed minutes (launchd.plist(5): StartCalendarInterval; crontab(5)). Each is a
-- theorem that computes.
use Rattle.std.specs.Prelude.{◌≡◌, pos, Bool, true, false, List, [], ◌∷◌, map, Some, None, refl}
use Rattle.history_model.specs.declared.Entry.{Entry}
use Rattle.history_model.specs.declared.CivilMinute.{CivilMinute}
use Rattle.history_model.specs.Calendar.{matches, last_before, crossed, calendar_fires}
use Rattle.history_model.proofs.ExampleWords.{utc_that_day}

-- Tuesday 14 November 2023, 22:13
abbrev pub tuesday : CivilMinute
tuesday = record { year = pos 2023; month = 11; day = 14; hour = 22; minute = 13; weekday = 2 }

-- Sunday 3 December 2023, 0:00
abbrev pub sunday : CivilMinute
sunday = record { year = pos 2023; month = 12; day = 3; hour = 0; minute = 0; weekday = 0 }

-- an entry without keys
abbrev pub every_minute : Entry
every_minute = record { minute = None; hour = None; day = None; weekday = None; month = None }

-- the entries that match
abbrev pub matching : CivilMinute → List Entry → List Bool
matching at entries = map (λ entry. matches entry at) entries

-- a key that is absent matches everything
pub no_key : matching tuesday (every_minute ∷ []) ≡ true ∷ []
no_key = refl

-- each key alone, with its value and with others, of which one is that of another key
pub minute_alone : matching tuesday (record every_minute { minute = Some 13 } ∷ record every_minute { minute = Some 14 } ∷ record every_minute { minute = Some 22 } ∷ [])
    ≡ true ∷ false ∷ false ∷ []
minute_alone = refl

pub hour_alone : matching tuesday (record every_minute { hour = Some 22 } ∷ record every_minute { hour = Some 21 } ∷ record every_minute { hour = Some 13 } ∷ [])
    ≡ true ∷ false ∷ false ∷ []
hour_alone = refl

pub day_alone : matching tuesday (record every_minute { day = Some 14 } ∷ record every_minute { day = Some 15 } ∷ record every_minute { day = Some 2 } ∷ record every_minute { day = Some 11 } ∷ [])
    ≡ true ∷ false ∷ false ∷ false ∷ []
day_alone = refl

pub month_alone : matching tuesday (record every_minute { month = Some 11 } ∷ record every_minute { month = Some 12 } ∷ record every_minute { month = Some 14 } ∷ record every_minute { month = Some 2 } ∷ [])
    ≡ true ∷ false ∷ false ∷ false ∷ []
month_alone = refl

pub weekday_alone : matching tuesday (record every_minute { weekday = Some 2 } ∷ record every_minute { weekday = Some 3 } ∷ record every_minute { weekday = Some 0 } ∷ record every_minute { weekday = Some 7 } ∷ [])
    ≡ true ∷ false ∷ false ∷ false ∷ []
weekday_alone = refl

-- both 0 and 7 are Sunday
pub two_sundays : matching sunday (record every_minute { weekday = Some 0 } ∷ record every_minute { weekday = Some 7 } ∷ record every_minute { weekday = Some 1 } ∷ record every_minute { weekday = Some 6 } ∷ [])
    ≡ true ∷ true ∷ false ∷ false ∷ []
two_sundays = refl

-- of a day and a weekday that both are set one suffices, with 7 for Sunday too
pub one_of_two : matching tuesday (
    record every_minute { day = Some 14; weekday = Some 3 } ∷ record every_minute { day = Some 13; weekday = Some 2 } ∷ record every_minute { day = Some 13; weekday = Some 3 }
    ∷ record every_minute { day = Some 14; weekday = Some 2 } ∷ []
    )
    ≡ true ∷ true ∷ false ∷ true ∷ []
one_of_two = refl

pub one_of_two_on_sunday : matching sunday (record every_minute { day = Some 4; weekday = Some 7 } ∷ record every_minute { day = Some 3; weekday = Some 1 } ∷ record every_minute { day = Some 4; weekday = Some 1 } ∷ [])
    ≡ true ∷ true ∷ false ∷ []
one_of_two_on_sunday = refl

-- of the other keys each has to match
abbrev pub each_key : Entry
each_key = record { minute = Some 13; hour = Some 22; day = Some 14; weekday = Some 2; month = Some 11 }

pub all_of_them : matching tuesday (
    each_key ∷ record each_key { minute = Some 12 } ∷ record each_key { hour = Some 23 } ∷ record each_key { month = Some 10 }
    ∷ record each_key { day = Some 1 } ∷ record each_key { weekday = Some 1 } ∷ record each_key { day = Some 1; weekday = Some 1 } ∷ []
    )
    ≡ true ∷ false ∷ false ∷ false ∷ true ∷ true ∷ false ∷ []
all_of_them = refl

-- ---- crossed minutes

-- 1700000040 is a full minute: it is crossed by the clock reading that reaches it, and by none after it
pub one_minute : crossed 1700000000 1700000039 ∷ crossed 1700000000 1700000040 ∷ crossed 1700000039 1700000099 ∷ crossed 1700000040 1700000099 ∷ []
    ≡ [] ∷ (1700000040 ∷ []) ∷ (1700000040 ∷ []) ∷ [] ∷ []
one_minute = refl

-- several, in rising order
pub three_minutes : crossed 1700000039 1700000160 ≡ 1700000040 ∷ 1700000100 ∷ 1700000160 ∷ []
three_minutes = refl

-- none if the wall clock stops, or is set back
pub no_minute : crossed 1700000040 1700000040 ∷ crossed 1700000160 1700000040 ∷ [] ≡ [] ∷ [] ∷ []
no_minute = refl

-- 400 days are 34,560,000 seconds: the minute that lies so far back does not count, the next one does
pub too_far_back : map (last_before 0) (34560059 ∷ 34560060 ∷ 34560119 ∷ 34560120 ∷ []) ≡ 0 ∷ 1 ∷ 1 ∷ 2 ∷ []
too_far_back = refl

-- an entry fires if some entry matches some crossed minute
pub fired : calendar_fires utc_that_day (each_key ∷ record each_key { minute = Some 14 } ∷ []) 1700000000 1700000100
    ≡ true
fired = refl

pub not_fired : calendar_fires utc_that_day (each_key ∷ []) 1700000000 1700000100 ≡ false
not_fired = refl

pub no_entry : calendar_fires utc_that_day [] 1700000000 1700000100 ≡ false
no_entry = refl
