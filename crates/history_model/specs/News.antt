-- Which clock readings may change something.
use Rattle.std.specs.Prelude.{ℕ, Bool, true, false, ◌||◌, ◌&&◌, nat_le, nat_lt, List, [], ◌∷◌, Option, Some, None}
use Rattle.std.specs.List.{list_any}
use Rattle.history_model.specs.declared.Reading.{Reading}
use Rattle.history_model.specs.declared.Entry.{Entry}
use Rattle.history_model.specs.Clock.{definition_of}
use Rattle.history_model.specs.Calendar.{crossed}
use Rattle.history_model.specs.Moments.{next_moment}
use Rattle.history_model.specs.Machine.{Job}

-- there is a calendar entry
abbrev pub is_some_entry : List Entry → Bool
is_some_entry [] = false
is_some_entry (entry ∷ entries) = true

-- some job has calendar entries
abbrev pub have_calendars : List Job → Bool
have_calendars jobs = list_any (λ job. is_some_entry (definition_of job.past).calendar) jobs

-- the moment, if there is one, is reached
abbrev pub is_moment_reached : ℕ → Option ℕ → Bool
is_moment_reached up None = false
is_moment_reached up (Some moment) = nat_le moment up

-- some civil minute is crossed between the two seconds of the wall clock
abbrev pub is_any_minute_crossed : ℕ → ℕ → Bool
is_any_minute_crossed before wall = list_any (λ minute. true) (crossed before wall)

-- A clock reading may change something since the last one: some job's next moment is reached, or the wall clock was set back. It
-- also may if some job has calendar entries and a civil minute is crossed.
abbrev pub may_change : List Job → Reading → Reading → Bool
may_change jobs last at =
    list_any (λ job. is_moment_reached at.up (next_moment job.past)) jobs
    || (have_calendars jobs && is_any_minute_crossed last.wall at.wall || nat_lt at.wall last.wall)
