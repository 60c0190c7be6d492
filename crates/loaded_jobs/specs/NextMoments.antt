-- When time alone may next make an order due, over all loaded jobs (launchd.plist(5):
-- StartInterval, ThrottleInterval, ExitTimeOut; StartCalendarInterval).
use Rattle.std.specs.Prelude.{◌≡◌, ◌≤◌, ℕ, ◌==◌, Bool, true, false, List, Option, Some, None}
use Rattle.std.specs.List.{list_any, AllByRecursion}
use Rattle.std.specs.Option.{ForSome}
use Rattle.history_model.specs.Moments.{next_moment}
use Rattle.history_model.specs.Machine.{Job}

-- there is a moment, and it is this one
abbrev pub is_moment : ℕ → Option ℕ → Bool
is_moment m None = false
is_moment m (Some n) = n == m

-- some job's next moment, and no job's is less; or no job has one
abbrev pub IsNextUp : List Job → Option ℕ → Type 0
IsNextUp jobs None = AllByRecursion (λ job. next_moment job.past ≡ None) jobs
IsNextUp jobs (Some m) =
    (list_any (λ job. is_moment m (next_moment job.past)) jobs ≡ true)
    × AllByRecursion (λ job. ForSome (next_moment job.past) (λ n. m ≤ n)) jobs
