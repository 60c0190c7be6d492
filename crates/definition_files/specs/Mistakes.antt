-- What a definition may say and seldom means, as far as its keys show (launchd.plist(5)).
use Rattle.std.specs.Prelude.{ℕ, Bool, true, false, not, ◌&&◌, ◌||◌, ◌==◌, nat_lt, List, [], ◌∷◌, length, Option, Some, None, is_some, is_none, ◌%◌, if◌then◌else◌}
use Rattle.std.specs.List.{list_any, filter}
use Rattle.history_model.specs.declared.Entry.{Entry}
use Rattle.history_model.specs.Described.{Described}
use Rattle.history_model.specs.Definitions.{has_sockets}
use Rattle.definition_files.specs.declared.check.mistakes.Mistake.{Mistake}
use Rattle.definition_files.specs.declared.check.mistakes.Mistake.TheVariants.{NothingStarts, SeveralConditions, AnyFailure, ShortInterval, LeftOut, NeverMatches, EachMinute, EachHour, ShortMonth, EitherDay, NeverWaited, NeverQueued, HastyQueue, HastyEnd, LongInterval, CrashAlone, OnceKept, NeverKilled, LongEnding, LostOutput}

-- it is set, and true
abbrev pub is_true : Option Bool → Bool
is_true (Some value) = value
is_true None = false

-- there is one at least
abbrev pub has_any : {A : Type 0} → List A → Bool
has_any items = not (length items == 0)

-- `KeepAlive` is true, or one of its conditions may hold before a run
abbrev pub is_kept : Described → Bool
is_kept d = d.keep_alive || is_some d.successful_exit || has_any d.path_state

-- something starts the job but a client; a crash comes after a first run
abbrev pub is_started : Described → Bool
is_started d =
    d.run_at_load || is_kept d || has_any d.watch_paths || has_any d.queue_directories
    || is_some d.start_interval || has_any d.calendar || has_sockets d

-- after any failure, which a crash is too: of these two conditions one adds nothing
abbrev pub is_any_failure : Option Bool → Option Bool → Bool
is_any_failure (Some successful) (Some crashed) = not successful && crashed
is_any_failure _ _ = false

-- two conditions of `KeepAlive` at least
abbrev pub has_several_conditions : Described → Bool
has_several_conditions d =
    nat_lt 1 (length d.path_state)
    || (is_some d.successful_exit && is_some d.crashed
    && not (is_any_failure d.successful_exit d.crashed))
    || (has_any d.path_state && (is_some d.successful_exit || is_some d.crashed))

-- the interval is shorter than the throttle
abbrev pub is_short : Option ℕ → ℕ → Bool
is_short None throttle = false
is_short (Some interval) throttle = nat_lt interval throttle

-- the days of a month, 29 for February
abbrev pub days_of_month : ℕ → ℕ
days_of_month month =
    if month == 2 then 29
    else if month == 4 || month == 6 || month == 9 || month == 11 then 30 else 31

-- the month never has the day
abbrev pub lacks_day : Option ℕ → Option ℕ → Bool
lacks_day (Some month) (Some day) = nat_lt (days_of_month month) day
lacks_day _ _ = false

-- an entry that never matches: its month lacks its day, and no weekday suffices instead
abbrev pub never_matches : Entry → Bool
never_matches entry = is_none entry.weekday && lacks_day entry.month entry.day

-- an entry that matches at some time and has no minute: it matches each minute of its hours
abbrev pub lacks_minute : Entry → Bool
lacks_minute entry = is_none entry.minute && not (never_matches entry)

-- an entry that matches at some time and names days and a minute, but no hour
abbrev pub lacks_hour : Entry → Bool
lacks_hour entry =
    (is_some entry.minute && is_none entry.hour)
    && (is_some entry.day || is_some entry.weekday || is_some entry.month)
    && not (never_matches entry)

-- a day that some months lack
abbrev pub is_late_day : Option ℕ → Bool
is_late_day (Some day) = nat_lt 28 day
is_late_day None = false

-- an entry by a day of the month that some months lack
abbrev pub leaves_months_out : Entry → Bool
leaves_months_out entry =
    is_late_day entry.day && is_none entry.month && is_none entry.weekday

-- an entry with a day and a weekday, of which either suffices
abbrev pub names_both_days : Entry → Bool
names_both_days entry = is_some entry.day && is_some entry.weekday

-- an interval of more than a day, of whole thousands and not of whole days: perhaps milliseconds
abbrev pub is_long : Option ℕ → Bool
is_long (Some interval) = nat_lt 86400 interval && interval % 1000 == 0 && not (interval % 86400 == 0)
is_long None = false

-- only a crash starts the job again; an exit with a failing code is not a crash
abbrev pub is_of_crashes_alone : Described → Bool
is_of_crashes_alone d = is_true d.crashed && is_none d.successful_exit && not d.keep_alive

-- the clock starts the job
abbrev pub is_timed : Described → Bool
is_timed d = is_some d.start_interval || has_any d.calendar

-- the end of a run may be followed by a start at once
abbrev pub may_follow_at_once : Described → Bool
may_follow_at_once d = d.throttle_interval == 0 && (is_kept d || is_some d.crashed)

-- nobody reads what the job writes
abbrev pub loses_output : Described → Bool
loses_output d =
    (d.keep_alive || is_timed d) && not (has_sockets d)
    && (is_none d.standard_out_path && is_none d.standard_error_path)

-- the entry makes this mistake
abbrev pub made_by : Mistake → Entry → Bool
made_by NeverMatches entry = never_matches entry
made_by EachMinute entry = lacks_minute entry
made_by EachHour entry = lacks_hour entry
made_by ShortMonth entry = leaves_months_out entry
made_by EitherDay entry = names_both_days entry
made_by _ entry = false

-- the definition has this mistake
abbrev pub is_made : Mistake → Described → Bool
is_made NothingStarts d = not (is_started d)
is_made SeveralConditions d = has_several_conditions d
is_made AnyFailure d = is_any_failure d.successful_exit d.crashed
is_made ShortInterval d = is_short d.start_interval d.throttle_interval
is_made LeftOut d = d.disabled
is_made NeverMatches d = list_any (made_by NeverMatches) d.calendar
is_made EachMinute d = list_any (made_by EachMinute) d.calendar
is_made EachHour d = list_any (made_by EachHour) d.calendar
is_made ShortMonth d = list_any (made_by ShortMonth) d.calendar
is_made EitherDay d = list_any (made_by EitherDay) d.calendar
is_made NeverWaited d = d.keep_alive && is_timed d
is_made NeverQueued d = d.keep_alive && has_any d.queue_directories
is_made HastyQueue d = d.throttle_interval == 0 && has_any d.queue_directories
is_made HastyEnd d = may_follow_at_once d
is_made LongInterval d = is_long d.start_interval
is_made CrashAlone d = is_of_crashes_alone d
is_made OnceKept d = d.launch_only_once && (is_kept d || is_some d.crashed)
is_made NeverKilled d = d.exit_time_out == 0
is_made LongEnding d = nat_lt 120 d.exit_time_out
is_made LostOutput d = loses_output d

-- all, in the order in which they are shown
abbrev pub all_mistakes : List Mistake
all_mistakes =
    NothingStarts ∷ SeveralConditions ∷ AnyFailure ∷ ShortInterval ∷ LeftOut ∷ NeverMatches
    ∷ EachMinute ∷ EachHour ∷ ShortMonth ∷ EitherDay ∷ NeverWaited ∷ NeverQueued ∷ HastyQueue ∷ HastyEnd
    ∷ LongInterval ∷ CrashAlone ∷ OnceKept ∷ NeverKilled ∷ LongEnding ∷ LostOutput ∷ []

-- those of the mistakes that the definition has
abbrev pub made_among : List Mistake → Described → List Mistake
made_among mistakes d = filter (λ mistake. is_made mistake d) mistakes

-- exactly the mistakes that the definition has, each once and in order
abbrev pub mistakes_of : Described → List Mistake
mistakes_of d = made_among all_mistakes d
