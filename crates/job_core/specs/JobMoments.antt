-- When a clock reading makes the end of a run due, and when its interval is over (launchd.plist(5): ExitTimeOut, StartInterval;
-- launchctl(1): stop, kickstart -k). Until then only the clock goes on.
use Rattle.std.specs.Prelude.{◌≡◌, ℕ, ◌*◌, Bool, true, not, ◌&&◌, ◌||◌, nat_lt, Option}
use Rattle.std.specs.List.{list_any}
use Rattle.history_model.specs.Items.{History}
use Rattle.history_model.specs.Search.{first, last}
use Rattle.history_model.specs.Clock.{now, load_of, definition_of, moments}
use Rattle.history_model.specs.Runs.{runs, is_stopped, is_struck}
use Rattle.history_model.specs.Kinds.{is_term_order, is_term_answer, is_kill_answer}
use Rattle.history_model.specs.Due.{is_over, may_retry_at}
use Rattle.history_model.specs.Moments.{next_period}
use Rattle.history_model.specs.NextMomentByFacts.{has_come}
use Rattle.history_model.specs.declared.TheConstants.{SECOND}
use Rattle.job_core.specs.declared.job.moments.Moments.{Moments}

-- `may_term` of the present run, at this moment of `up`
abbrev pub may_term_when : ℕ → History → Bool
may_term_when up t =
    not (is_struck t) && is_stopped t && not (list_any (is_kill_answer true (runs t)) t)
    && may_retry_at up is_term_answer (runs t) t

-- `may_kill` of the present run, at this moment of `up`
abbrev pub may_kill_when : ℕ → History → Bool
may_kill_when up t =
    (is_struck t
    || (is_stopped t && nat_lt 0 (definition_of t).exit_timeout
    && is_over (SECOND * (definition_of t).exit_timeout) up
    (last (moments (is_term_order (runs t)) t))))
    && may_retry_at up is_kill_answer (runs t) t

-- the moments of the job with this past: TERM and KILL may be ordered from theirs on, and not before
pub record AreMoments (past : History) (m : Moments) : Type 0 where
  pub term : (up : ℕ) → has_come m.term up ≡ may_term_when up past
  pub kill : (up : ℕ) → has_come m.kill up ≡ may_kill_when up past
  pub interval : m.interval
      ≡ first (next_period (definition_of past).start_interval (load_of past).at.up (now past).up)
