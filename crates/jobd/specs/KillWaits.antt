-- Which jobs wait for their KILL (launchd.plist(5): ExitTimeOut; launchctl(1): kickstart -k). While one waits, no sleep
-- of the machine may be counted: the time that it took would be taken from them.
use Rattle.std.specs.Prelude.{◌≡◌, ◌⊎◌, ◌+◌, ◌-◌, ◌^◌, ◌<◌, ◌≤◌, min, ℕ, Bool, true, false, not, ◌&&◌, if◌then◌else◌, List, [], Option, Some, None, is_some}
use Rattle.history_model.specs.declared.Reading.{Reading}
use Rattle.history_model.specs.declared.TheConstants.{MAX_JOBS}
use Rattle.history_model.specs.Items.{History}
use Rattle.history_model.specs.Runs.{child}
use Rattle.history_model.specs.Labels.{is_before}
use Rattle.history_model.specs.Machine.{Job, State, past_of}
use Rattle.job_core.specs.JobMoments.{may_kill_when}
use Rattle.loaded_jobs.specs.Nearest.{IsNearest, with_child}
use Rattle.loaded_jobs.specs.StandsFor.{KeepsState}
use Rattle.loaded_jobs.specs.Tables.{Table}

-- the job with this past has a child that gets KILL if nothing but clock readings happens, and not yet at this `up`
abbrev pub waits_for_kill : ℕ → History → Bool
waits_for_kill up past = is_some (child past) && (may_kill_when (2 ^ 64 - 1) past && not (may_kill_when up past))

-- so it is with the job of a label, if it is loaded
abbrev pub is_waiting : ℕ → Option History → Bool
is_waiting up None = false
is_waiting up (Some past) = waits_for_kill up past

-- some job waits
abbrev pub SomeWaits : ℕ → State → Type 0
SomeWaits up s = (label : List ℕ) × (is_waiting up (past_of s label) ≡ true)

-- no job waits; a label has a byte at least
abbrev pub NoneWaits : ℕ → State → Type 0
NoneWaits up s = (label : List ℕ) → is_before [] label ≡ true → is_waiting up (past_of s label) ≡ false

-- `n` jobs have a child, each of them after the one before, and this is the label of the last
pub data Chain (jobs : List Job) : ℕ → List ℕ → Type 0 where
  nobody : Chain jobs 0 []
  behind : {n : ℕ} {last next : List ℕ} → Chain jobs n last → IsNearest last (with_child jobs) next → Chain jobs (n + 1) next

-- Whether a job waits. (More jobs than may be loaded would wait too.)
abbrev pub AreAwaited : Bool → ℕ → State → Type 0
AreAwaited false up s = NoneWaits up s
AreAwaited true up s = SomeWaits up s ⊎ ((last : List ℕ) × Chain s.jobs (MAX_JOBS + 1) last)

-- ---- sleeps of the machine

-- what a clock that counts sleeps shows, by one that stops in them: `slept` milliseconds more of `up`
abbrev pub with_sleep : ℕ → Reading → Reading
with_sleep slept awake = record awake { up = min (awake.up + slept) (2 ^ 64 - 1) }

-- How much of the sleep so far is counted, if this much of it was counted before. Nothing more is counted while a job
-- waits for its KILL at that `up`. All of it is counted, if none does.
abbrev pub IsHanded : ℕ → Table → ℕ → ℕ → ℕ → Type 0
IsHanded up table before slept handed = ((slept ≤ before) × (handed ≡ before))
    ⊎ ((before < slept) × (waits : Bool) × ((s : State) → KeepsState table s → AreAwaited waits up s)
    × (handed ≡ if waits then before else slept))
