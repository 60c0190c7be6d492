-- What a contract sees of the moments of jobs: a finite map from job numbers to moments, and a
-- room.
use Rattle.std.specs.Prelude.{◌≡◌, ◌≢◌, ◌⊎◌, ℕ, ◌<◌, ◌≤◌, List, length, Option, Some, None, is_some, count_by, slice_index_or}

-- at each number below the room the job's moment, if it has one
pub record Timers : Type 0 where
  pub moments : List (Option ℕ)

-- the job's moment, if it has one
abbrev pub moment_in : Timers → ℕ → Option ℕ
moment_in timers job = slice_index_or timers.moments job None

-- there is room for the job numbers below this one
abbrev pub room : Timers → ℕ
room timers = length timers.moments

-- how many jobs have a moment
abbrev pub timer_count : Timers → ℕ
timer_count timers = count_by is_some timers.moments

-- the job has this moment now, or none; each other job has what it had; and there is as much room
pub record Updates (old new : Timers) (job : ℕ) (moment : Option ℕ) : Type 0 where
  pub changed : moment_in new job ≡ moment
  pub others : (other : ℕ) → other ≢ job → moment_in new other ≡ moment_in old other
  pub room : room new ≡ room old

-- each job has what it had, and there is no less room
pub record KeepsMoments (old new : Timers) : Type 0 where
  pub moments : (job : ℕ) → moment_in new job ≡ moment_in old job
  pub room : room old ≤ room new

-- moments come by time, and equal ones by job number
abbrev pub IsNoLater : ℕ → ℕ → ℕ → ℕ → Type 0
IsNoLater moment job other_moment other_job =
    (moment < other_moment) ⊎ ((moment ≡ other_moment) × (job ≤ other_job))

-- the job has the moment, and no job has one that comes before it; or no job has a moment
abbrev pub IsLeast : Timers → Option (ℕ × ℕ) → Type 0
IsLeast timers None = (job : ℕ) → moment_in timers job ≡ None
IsLeast timers (Some least) =
    (moment_in timers least.0 ≡ Some least.1)
    × ((job moment : ℕ) → moment_in timers job ≡ Some moment → IsNoLater least.1 least.0 moment job)

-- the least moment was due, and its job has none any more; or no moment was due, and all is as it
-- was
abbrev pub IsPopped : ℕ → Timers → Option ℕ → Timers → Type 0
IsPopped now old None new =
    (new ≡ old) × ((job moment : ℕ) → moment_in old job ≡ Some moment → now < moment)
IsPopped now old (Some job) new =
    (moment : ℕ) × (moment ≤ now) × IsLeast old (Some (job, moment)) × Updates old new job None
