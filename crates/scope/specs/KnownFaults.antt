-- What is known of a job's runs, by a journal or by its launcher's file, as far as it says whether the job is failing.
use Rattle.std.specs.Option.{option_map}
use Rattle.std.specs.Prelude.{ℕ, Bool, false, Option, is_some, unwrap_or}
use Rattle.run_log.specs.declared.facts.RunEnd.{RunEnd}
use Rattle.status_page.specs.declared.failing.LastEnd.{LastEnd}
use Rattle.status_page.specs.declared.failing.PastRuns.{PastRuns}
use Rattle.scope.specs.declared.known_runs.KnownEnd.{KnownEnd}
use Rattle.scope.specs.declared.known_runs.KnownRuns.{KnownRuns}

-- how the last run ended, and whether that was ordered
abbrev pub end_in : Option KnownEnd → Option LastEnd
end_in end = option_map (λ it. record { how = it.how; is_ordered = it.is_ordered }) end

-- so by what is recorded of a journal, which has each order
abbrev pub recorded_end : Option RunEnd → Option LastEnd
recorded_end end = option_map (λ it. record { how = it.how; is_ordered = unwrap_or it.ordered false }) end

-- of a job with this `ThrottleInterval`
abbrev pub past_in : KnownRuns → ℕ → PastRuns
past_in runs throttle = record {
  is_refused = is_some runs.refused;
  last = end_in runs.last;
  began = option_map (λ at. at.up) runs.began;
  throttle = throttle;
}
