-- When time alone starts a job next, if both clocks run alike: `wall` goes on by a second with every 1,000 milliseconds of `up`
-- (launchd.plist(5): StartInterval, StartCalendarInterval, ThrottleInterval).
use Rattle.std.specs.Prelude.{◌≡◌, ℕ, ◌+◌, ◌-◌, ◌*◌, ◌/◌, ◌<◌, ◌≤◌, min, Bool, true, false, ◌∷◌, Option, Some, None}
use Rattle.history_model.specs.declared.Reading.{Reading}
use Rattle.history_model.specs.declared.TheConstants.{CALENDAR_REACH, MAX_UP, MAX_WALL, SECOND}
use Rattle.history_model.specs.Items.{Read, History}
use Rattle.history_model.specs.Clock.{now, definition_of}
use Rattle.history_model.specs.Kinds.{is_some_spawn}
use Rattle.history_model.specs.Due.{due}
use Rattle.history_model.specs.Calendar.{Zone, calendar_fires}

-- the clock reading this number of seconds later, if both clocks run alike
abbrev pub later : Reading → ℕ → Reading
later at seconds = record { up = at.up + SECOND * seconds; wall = at.wall + seconds }

-- this number of seconds later a clock reading makes the job's spawn due, if nothing else happens until then
abbrev pub spawns_after : Zone → History → ℕ → Bool
spawns_after zone t d =
    is_some_spawn (due (Read (later (now t) d)
    (calendar_fires zone (definition_of t).calendar (now t).wall ((now t).wall + d)) ∷ t))

-- how many seconds are looked ahead: the number that was asked for, but at most 400 days, and no further than a clock reading may
-- go. A clock reading looks back 400 days for minutes of the calendar
abbrev pub looked_ahead : Reading → ℕ → ℕ
looked_ahead at within =
    min (min within CALENDAR_REACH) (min ((MAX_UP - at.up) / SECOND) (MAX_WALL - at.wall))

-- the least number of seconds, within those that are looked ahead, after which a clock reading makes the job's spawn due; none if
-- there is none
abbrev pub IsNextRun : Zone → History → ℕ → Option ℕ → Type 0
IsNextRun zone t ahead None = (d : ℕ) → d ≤ ahead → spawns_after zone t d ≡ false
IsNextRun zone t ahead (Some d) =
    (d ≤ ahead) × (spawns_after zone t d ≡ true)
    × ((sooner : ℕ) → sooner < d → spawns_after zone t sooner ≡ false)
