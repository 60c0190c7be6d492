-- When the parts of a job's pace let an order come, and their next moments, by what they keep.
use Rattle.std.specs.Prelude.{ℕ, ◌*◌, Bool, not, ◌&&◌, ◌||◌, nat_lt, Option, None, if◌then◌else◌}
use Rattle.history_model.specs.Due.{is_over}
use Rattle.history_model.specs.DueByFacts.{is_newest_within}
use Rattle.history_model.specs.NextMomentByFacts.{sooner, coming_after}
use Rattle.pace.specs.Paces.{Spacing, Ends}
use Rattle.history_model.specs.declared.TheConstants.{SECOND}

-- at this moment of `up` no spawn may be ordered: the last order is less than the throttle ago, or
-- the last refusal less than a second
abbrev pub is_throttled_of : Spacing → ℕ → Bool
is_throttled_of s up =
    is_newest_within (SECOND * s.seconds) up s.order || is_newest_within SECOND up s.refusal

-- the next moment after this one at which the throttle, or the second after a refusal, is over
abbrev pub next_spawn_of : Spacing → ℕ → Option ℕ
next_spawn_of s up =
    sooner (coming_after up (SECOND * s.seconds) s.order) (coming_after up SECOND s.refusal)

-- at this moment TERM may be ordered for a run that is not struck, if neither TERM nor KILL was answered ok. No TERM was refused
-- less than a second ago
abbrev pub may_term_of : Ends → ℕ → Bool
may_term_of e up =
    not e.is_struck && not e.is_kill_done
    && (not e.is_term_done && not (is_newest_within SECOND up e.term_refused))

-- at this moment KILL may be ordered: for a struck run, or the timeout after the first TERM, if no KILL was answered ok. No KILL
-- was refused less than a second ago
abbrev pub may_kill_of : Ends → ℕ → Bool
may_kill_of e up =
    (e.is_struck || (nat_lt 0 e.timeout && is_over (SECOND * e.timeout) up e.term_ordered))
    && (not e.is_kill_done && not (is_newest_within SECOND up e.kill_refused))

-- the next moment after this one at which the timeout, or the second after a refusal, is over
abbrev pub next_end_of : Ends → ℕ → Option ℕ
next_end_of e up =
    sooner
    (if nat_lt 0 e.timeout then coming_after up (SECOND * e.timeout) e.term_ordered else None)
    (sooner (coming_after up SECOND e.term_refused) (coming_after up SECOND e.kill_refused))
