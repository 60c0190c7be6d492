-- What a monitor reads of a job.
use Rattle.std.specs.Prelude.{ℕ, Bool, true, false, Option, Some, None, ◌+◌}
use Rattle.std.specs.Option.{option_map}
use Rattle.job_metrics.specs.declared.JobSample.{JobSample}
use Rattle.history_model.specs.declared.Ended.{Ended}
use Rattle.history_model.specs.declared.Ended.TheVariants as ends
use Rattle.history_model.specs.declared.Reading.{Reading}
use Rattle.launcher_life.specs.declared.life.Life.{Life}
use Rattle.launcher_life.specs.declared.life.Life.TheVariants as lives
use Rattle.status_file.specs.declared.status.JournalStatus.{JournalStatus}
use Rattle.status_file.specs.declared.status.JournalStatus.TheVariants as journals
use Rattle.run_log.specs.declared.facts.RunEnd.{RunEnd}
use Rattle.status_page.specs.declared.counts.RunCount.{RunCount}
use Rattle.status_page.specs.declared.clocks.StartWhen.TheVariants.{Never, Since, At}
use Rattle.status_page.specs.declared.rows.Next.{Next}
use Rattle.status_page.specs.declared.rows.Next.TheVariants.{Nothing, Clock, Event}
use Rattle.status_page.specs.declared.throttles.ThrottleEnd.{ThrottleEnd}
use Rattle.status_page.specs.Throttles.{second_told}

-- whether the launcher is up, if that is known
abbrev pub up_flag : Life → Option Bool
up_flag lives.Runs = Some true
up_flag lives.Stopped = Some true
up_flag (lives.Silent seconds) = Some true
up_flag lives.NotSeen = None
up_flag lives.Exited = Some false
up_flag lives.Killed = Some false
up_flag lives.Unknown = None

-- whether the journal is open, if one is written
abbrev pub journal_flag : JournalStatus → Option Bool
journal_flag journals.None = None
journal_flag journals.Open = Some true
journal_flag (journals.Closed reason) = Some false

-- the second at which the last run ended
abbrev pub end_second : Option RunEnd → Option ℕ
end_second end = option_map (λ it. it.ended.wall) end

-- the second at which a run last exited with code 0
abbrev pub success_second : Option Reading → Option ℕ
success_second at = option_map (λ it. it.wall) at

-- the number of an end: the exit code, or 128 and the number of the signal
abbrev pub end_number : Ended → ℕ
end_number (ends.Code code) = code
end_number (ends.Signal signal) = 128 + signal

-- the number of the last run's end
abbrev pub exit_told : Option RunEnd → Option ℕ
exit_told end = option_map (λ it. end_number it.how) end

-- the second that is printed for the next scheduled start, also for one that is overdue
abbrev pub next_told : Option ThrottleEnd → Next → Option ℕ
next_told throttle Nothing = None
next_told throttle (Clock Never) = None
next_told throttle (Clock (Since at)) = Some (second_told throttle at)
next_told throttle (Clock (At at)) = Some (second_told throttle at)
next_told throttle (Event words) = None

-- the first of two seconds that is known
abbrev pub known_second : Option ℕ → Option ℕ → Option ℕ
known_second (Some second) other = Some second
known_second None other = other

-- a sample with what is counted over all loads of its label
abbrev pub with_count : JobSample → Option RunCount → JobSample
with_count sample None = sample
with_count sample (Some count) =
    record sample {
      starts = count.starts;
      failures = count.failures;
      refusals = count.refusals;
      last_success = known_second sample.last_success count.succeeded;
    }
