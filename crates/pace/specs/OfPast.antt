-- What the parts of a job's pace keep of a past, and the tests of Due on moments and answers, at a given moment.
use Rattle.std.specs.Prelude.{ℕ, ◌*◌, Bool, true, false, not, ◌&&◌, ◌||◌, nat_lt, List, Option}
use Rattle.std.specs.List.{filter, list_any}
use Rattle.history_model.specs.Items.{History}
use Rattle.history_model.specs.Search.{first, last}
use Rattle.history_model.specs.Clock.{load_of, definition_of, moments}
use Rattle.history_model.specs.Runs.{runs, is_struck}
use Rattle.history_model.specs.Kinds.{is_spawn_order, is_spawn_refusal, is_term_order, is_term_answer, is_kill_answer}
use Rattle.history_model.specs.Due.{is_over, may_retry_at}
use Rattle.history_model.specs.Moments.{run_moments, least}
use Rattle.pace.specs.Paces.{Every, Spacing, Ends}
use Rattle.history_model.specs.declared.TheConstants.{SECOND}

-- the interval of a past
abbrev pub every_of : History → Every
every_of t = record { seconds = (definition_of t).start_interval; load_up = (load_of t).at.up }

-- the throttle of a past: its newest spawn order, and its newest refusal of a spawn
abbrev pub spacing_of : History → Spacing
spacing_of t = record {
  seconds = (definition_of t).throttle_interval;
  order = first (moments is_spawn_order t);
  refusal = first (moments is_spawn_refusal t);
}

-- the end of the present run, of a past
abbrev pub ends_of : History → Ends
ends_of t = record {
  timeout = (definition_of t).exit_timeout;
  term_ordered = last (moments (is_term_order (runs t)) t);
  term_refused = first (moments (is_term_answer false (runs t)) t);
  kill_refused = first (moments (is_kill_answer false (runs t)) t);
  is_term_done = list_any (is_term_answer true (runs t)) t;
  is_kill_done = list_any (is_kill_answer true (runs t)) t;
  is_struck = is_struck t;
}

-- at this moment of `up` TERM may be ordered for a run that is being stopped
abbrev pub may_term_at : ℕ → History → Bool
may_term_at up t =
    not (is_struck t) && not (list_any (is_kill_answer true (runs t)) t)
    && may_retry_at up is_term_answer (runs t) t

-- at this moment of `up` KILL may be ordered for a run that is being stopped, or that a kickstart
-- struck
abbrev pub may_kill_at : ℕ → History → Bool
may_kill_at up t =
    (is_struck t
    || (nat_lt 0 (definition_of t).exit_timeout
    && is_over (SECOND * (definition_of t).exit_timeout) up
    (last (moments (is_term_order (runs t)) t))))
    && may_retry_at up is_kill_answer (runs t) t

-- the moments that the present run's end makes
abbrev pub end_moments : History → List ℕ
end_moments t = run_moments (runs t) t

-- the least of the moments that are after this one
abbrev pub least_after : ℕ → List ℕ → Option ℕ
least_after up ms = least (filter (nat_lt up) ms)
