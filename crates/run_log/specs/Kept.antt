-- What is known of the runs of one load of a job: each value is a search of what happened since.
use Rattle.std.specs.Prelude.{ℕ, Bool, false, List, ◌∷◌, length, min, Option, Some, None, unwrap_or}
use Rattle.history_model.specs.declared.Reading.{Reading}
use Rattle.history_model.specs.Search.{first, last}
use Rattle.run_log.specs.declared.facts.RunEnd.{RunEnd}
use Rattle.run_log.specs.declared.facts.RunItem.TheVariants.{Refused, Exited}
use Rattle.run_log.specs.declared.log.Refusal.{Refusal}
use Rattle.run_log.specs.Told.{Told}
use Rattle.run_log.specs.Search.{is_order, is_begin, is_refusal, is_term, is_kill, is_exit, is_success, is_change, is_ordered_to_end, ordered_run, refuses, readings, latest, after, from, count, failed_runs}

-- what is known of the runs of a load
pub record Kept : Type 0 where
  pub loaded : Reading
  pub since : Reading  -- from when on the job is as it is
  pub run : ℕ  -- the run that was ordered last, 0 without one
  pub starts : ℕ  -- how many were ordered,
  pub refusals : ℕ  -- how many of these were refused,
  pub ends : ℕ  -- how many runs exited,
  pub failures : ℕ  -- and how many of these failed
  pub started : Option Reading  -- when the last start was ordered
  pub begun : Option Reading  -- when a run last began
  pub term : Option Reading  -- since the last order of a start: when the first TERM,
  pub kill : Option Reading  -- and when the last KILL was ordered
  pub last_end : Option RunEnd
  pub succeeded : Option Reading  -- when a run last exited with code 0
  pub refused : Option Refusal  -- the last refused start, with its own reason
  pub is_refused : Bool  -- the last start that was answered was refused

-- the exit that the first item is. The run began at the newest begin before it; without one, when it
-- exited. It is known whether TERM or KILL was ordered for it
abbrev pub end_in : List Told → Option RunEnd
end_in ((Exited run how, at) ∷ before) =
    Some (record { run = run; how = how; ordered = Some (is_ordered_to_end before); began = unwrap_or (first (readings is_begin before)) at; ended = at })
end_in _ = None

-- the refusal that the first item is
abbrev pub refusal_in : List Told → Option Refusal
refusal_in ((Refused run reason, at) ∷ before) = Some (record { run = run; reason = reason; at = at })
refusal_in _ = None

-- what is known once this happened to a load that was made at this clock reading
abbrev pub kept_of : Reading → List Told → Kept
kept_of loaded past = record {
  loaded = loaded;
  since = unwrap_or (first (readings is_change past)) loaded;
  run = unwrap_or (latest ordered_run past) 0;
  starts = count is_order past;
  refusals = count is_refusal past;
  ends = count is_exit past;
  failures = min (length (failed_runs past)) 18446744073709551615;
  started = first (readings is_order past);
  begun = first (readings is_begin past);
  term = last (readings is_term (after is_order past));
  kill = first (readings is_kill (after is_order past));
  last_end = end_in (from is_exit past);
  succeeded = first (readings is_success past);
  refused = refusal_in (from is_refusal past);
  is_refused = unwrap_or (latest refuses past) false;
}
