-- Which runs failed, and which jobs are failing now.
use Rattle.std.specs.Option.{option_map}
use Rattle.std.specs.Prelude.{◌≡◌, ◌==◌, ◌-◌, ◌*◌, ℕ, Bool, true, false, ◌||◌, ◌&&◌, not, nat_lt, nat_le, max, Option, Some, None, is_some, unwrap_or}
use Rattle.history_model.specs.declared.reasons.Reasons.{Reasons}
use Rattle.history_model.specs.declared.TheConstants.{SECOND}
use Rattle.history_model.specs.Reasons.{some_want}
use Rattle.run_log.specs.Search.{is_failure}
use Rattle.run_log.specs.declared.facts.RunEnd.{RunEnd}
use Rattle.status_file.specs.declared.status.JobNote.{JobNote}
use Rattle.status_page.specs.declared.failing.Fault.{Fault}
use Rattle.status_page.specs.declared.failing.Fault.TheVariants as faults
use Rattle.status_page.specs.declared.failing.LastEnd.{LastEnd}
use Rattle.status_page.specs.declared.failing.PastRuns.{PastRuns}
use Rattle.status_page.specs.declared.failing.TheConstants.{MINUTE, THROTTLES}

-- Whether the end of the last run was ordered. A launcher of version 0.3.0 does not say it: then it counts as ordered if a later start
-- followed it, or if TERM or KILL was ordered.
abbrev pub was_ordered : JobNote → RunEnd → Bool
was_ordered note end = unwrap_or end.ordered (not (end.run == note.run) || is_some note.term || is_some note.kill)

-- how the last run of a job ended, by what its launcher knows of it
abbrev pub last_end_in : JobNote → Option LastEnd
last_end_in note = option_map (λ end. record { how = end.how; is_ordered = was_ordered note end }) note.last_end

-- ---- which runs failed

abbrev pub has_failed : Option LastEnd → Bool
has_failed None = false
has_failed (Some last) = is_failure last.is_ordered last.how

-- a start was refused, and no run began after it: the run that ended last is an earlier one, and none is running
abbrev pub is_refused_last : Option ℕ → Option ℕ → Bool → Bool
is_refused_last None ended running = false
is_refused_last (Some run) None running = not running
is_refused_last (Some run) (Some ended) running = nat_lt ended run && not running

-- so by what its launcher knows of a job
abbrev pub is_start_refused : JobNote → Bool → Bool
is_start_refused note running =
    is_refused_last (option_map (λ start. start.run) note.refused) (option_map (λ end. end.run) note.last_end) running

-- ---- which jobs are failing now

-- how many milliseconds a job has to run until a failure is over: ten throttles, and a minute at least
abbrev pub recovery_time : ℕ → ℕ
recovery_time throttle = max MINUTE (THROTTLES * (SECOND * throttle))

-- its present run, which began at this `up`, has been running for so long
abbrev pub has_recovered : Option ℕ → ℕ → ℕ → Bool
has_recovered None throttle now = false
has_recovered (Some began) throttle now = nat_le (recovery_time throttle) (now - began)

-- the last start was refused, or the last run failed
abbrev pub last_failed : PastRuns → Bool
last_failed runs = runs.is_refused || has_failed runs.last

-- it should run: something wants it, and a start can come of its load
abbrev pub should_run : Reasons → Bool
should_run r = some_want r.wants && not (r.is_removing || r.is_launch_spent || r.are_runs_spent)

-- its throttle has been over for a minute
abbrev pub is_late : Option ℕ → ℕ → Bool
is_late None now = false
is_late (Some until) now = nat_le MINUTE (now - until)

-- its launcher does not run it: it has exited, or the start has been overdue for a minute
abbrev pub is_left : Bool → Reasons → ℕ → Bool
is_left lives r now = not lives || is_late r.throttled_until now

-- it should run and does not, since its launcher does not run it
abbrev pub does_not_run : Bool → Reasons → ℕ → Bool
does_not_run lives r now = should_run r && not (is_some r.child) && is_left lives r now

-- it ran under a launcher that has exited
abbrev pub lost_its_launcher : Bool → Reasons → Bool
lost_its_launcher lives r = not lives && is_some r.child

-- Failing now: the last run failed or the last start was refused, and the job has not run since for as long as ten
-- throttles. Or it should run and does not, since its launcher does not run it.
abbrev pub is_failing : Bool → Reasons → PastRuns → ℕ → Bool
is_failing lives r runs now =
    (last_failed runs && not (has_recovered runs.began runs.throttle now))
    || (lost_its_launcher lives r || does_not_run lives r now)

-- what is reported of it holds
abbrev pub FaultHolds : Bool → Reasons → PastRuns → ℕ → Fault → Type 0
FaultHolds lives r runs now faults.Refused =
    (runs.is_refused ≡ true) × (has_recovered runs.began runs.throttle now ≡ false)
FaultHolds lives r runs now (faults.Ended how) =
    (end : LastEnd) × (runs.last ≡ Some end) × (end.how ≡ how) × (is_failure end.is_ordered end.how ≡ true)
    × (has_recovered runs.began runs.throttle now ≡ false)
FaultHolds lives r runs now faults.NotRunning = does_not_run lives r now ≡ true
FaultHolds lives r runs now faults.LauncherGone = lost_its_launcher lives r ≡ true
FaultHolds lives r runs now (faults.Missed minute) = false ≡ true
