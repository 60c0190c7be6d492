-- Which start of a job `next` shows.
use Rattle.std.specs.Prelude.{ℕ, ◌==◌, Bool, true, false, cond, nat_le, Option, Some, None}
use Rattle.status_page.specs.declared.clocks.StartWhen.{StartWhen}
use Rattle.status_page.specs.declared.clocks.StartWhen.TheVariants.{Never, Since, At}
use Rattle.status_page.specs.declared.rows.Next.{Next}
use Rattle.status_page.specs.declared.rows.Next.TheVariants.{Nothing, Clock, Event}
use Rattle.status_page.specs.declared.starts.ToldStart.{ToldStart}
use Rattle.status_page.specs.declared.throttles.ThrottleEnd.{ThrottleEnd}
use Rattle.status_page.specs.Throttles.{second_told}

-- the interval is over at just this second
abbrev pub is_over_then : Option ℕ → ℕ → Bool
is_over_then None at = false
is_over_then (Some end) at = end == at

-- the start at this second, as `status` shows it
abbrev pub start_at : Option ThrottleEnd → Option ℕ → ℕ → ToldStart
start_at throttle interval at = record { at = second_told throttle at; is_interval = is_over_then interval at }

abbrev pub by_calendar : ℕ → ToldStart
by_calendar minute = record { at = minute; is_interval = false }

abbrev pub by_interval : ℕ → ToldStart
by_interval end = record { at = end; is_interval = true }

-- the sooner one of the next minute of a calendar and of the end of an interval
abbrev pub sooner : Option ℕ → Option ℕ → Option ToldStart
sooner None None = None
sooner (Some minute) None = Some (by_calendar minute)
sooner None (Some end) = Some (by_interval end)
sooner (Some minute) (Some end) = cond (nat_le minute end) (Some (by_calendar minute)) (Some (by_interval end))

-- the start that is shown of a job, if one can come of it: that of its row, and where that has none the
-- sooner one by either key
abbrev pub start_told : Bool → Next → Option ThrottleEnd → Option ℕ → Option ℕ → Option ToldStart
start_told false next throttle calendar interval = None
start_told true Nothing throttle calendar interval = sooner calendar interval
start_told true (Event words) throttle calendar interval = sooner calendar interval
start_told true (Clock Never) throttle calendar interval = sooner calendar interval
start_told true (Clock (Since at)) throttle calendar interval = Some (start_at throttle interval at)
start_told true (Clock (At at)) throttle calendar interval = Some (start_at throttle interval at)
