-- What an exit makes of what is kept.
use Rattle.std.specs.Prelude.{ℕ, Bool, ◌+◌, ◌||◌, min, Some, is_some, unwrap_or, if◌then◌else◌}
use Rattle.history_model.specs.declared.Reading.{Reading}
use Rattle.history_model.specs.declared.Ended.{Ended}
use Rattle.run_log.specs.Search.{is_failure, is_success_end}
use Rattle.run_log.specs.Kept.{Kept}

-- TERM or KILL was ordered for the present run
abbrev pub is_ending : Kept → Bool
is_ending kept = is_some kept.term || is_some kept.kill

abbrev pub after_exit : ℕ → Ended → Reading → Kept → Kept
after_exit run how at kept = record kept {
  since = at;
  ends = min (kept.ends + 1) 18446744073709551615;
  failures = if is_failure (is_ending kept) how then min (kept.failures + 1) 18446744073709551615 else kept.failures;
  last_end = Some (record { run = run; how = how; ordered = Some (is_ending kept); began = unwrap_or kept.begun at; ended = at });
  succeeded = if is_success_end how then Some at else kept.succeeded;
}
