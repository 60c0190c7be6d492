-- The next moment of a job, read off the newest moment of each kind. On each lawful past this is
-- next_moment of Moments, which searches every moment of the past (proofs/ComingLemmas).
use Rattle.std.specs.Prelude.{ℕ, ◌+◌, ◌*◌, Bool, false, nat_lt, nat_le, min, Option, Some, None, is_some, if◌then◌else◌}
use Rattle.history_model.specs.Search.{first}
use Rattle.history_model.specs.Moments.{next_period}
use Rattle.history_model.specs.Facts.{Facts}
use Rattle.history_model.specs.declared.TheConstants.{SECOND}

-- the lesser of two moments
abbrev pub sooner : Option ℕ → Option ℕ → Option ℕ
sooner None b = b
sooner (Some m) None = Some m
sooner (Some m) (Some n) = Some (min m n)

-- the moment, if it is still to come
abbrev pub coming : ℕ → ℕ → Option ℕ
coming up moment = if nat_lt up moment then Some moment else None

-- this number of milliseconds after a moment, if that is still to come
abbrev pub coming_after : ℕ → ℕ → Option ℕ → Option ℕ
coming_after up wait None = None
coming_after up wait (Some moment) = coming up (moment + wait)

-- the end of the period that runs, if there is an interval
abbrev pub coming_period : Option ℕ → ℕ → ℕ → Option ℕ
coming_period seconds load up = first (next_period seconds load up)

-- the moment is there, and is over
abbrev pub has_come : Option ℕ → ℕ → Bool
has_come None up = false
has_come (Some moment) up = nat_le moment up

-- the next moment of a run's end: the time after the first TERM, and a second after a refused TERM
-- or KILL
abbrev pub coming_end : Facts → ℕ → Option ℕ
coming_end f up =
    sooner (if nat_lt 0 f.definition.exit_timeout
    then coming_after up (SECOND * f.definition.exit_timeout) f.term_ordered else None)
    (sooner (coming_after up SECOND f.term_refused) (coming_after up SECOND f.kill_refused))

-- the next moment of a job
abbrev pub next_by : Facts → ℕ → Option ℕ
next_by f up =
    sooner (coming_period f.definition.start_interval f.load_up up)
    (sooner (sooner (coming_after up (SECOND * f.definition.throttle_interval) f.spawn_ordered)
    (coming_after up SECOND f.spawn_refused))
    (if is_some f.living_child then coming_end f up else None))
