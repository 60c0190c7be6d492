-- What happens to a job once its present run exits, if nothing else happens until then.
use Rattle.std.specs.Prelude.{◌||◌, ℕ, Bool, nat_lt, Option, is_some, if◌then◌else◌}
use Rattle.history_model.specs.declared.reasons.Reasons.{Reasons}
use Rattle.history_model.specs.declared.reasons.Wants.{Wants}
use Rattle.scope.specs.ShownCauses.{is_spent}
use Rattle.scope.specs.declared.texts.after_exit.AfterExit.{AfterExit}
use Rattle.scope.specs.declared.texts.after_exit.AfterExit.TheVariants.{Leaves, Starts, Depends, Idles}

-- something wants it, however its run exits
abbrev pub wants_anyway : Wants → Bool
wants_anyway w = w.demand || (nat_lt 0 w.connections || (w.keep_alive || (w.path_state || w.queue_directories)))

-- It leaves, or has no start left. Else it starts again if something wants it however its run exits. Else its conditions on
-- the exit decide, if it has some. Else it stays idle.
abbrev pub after_exit : Reasons → Option Bool → Option Bool → AfterExit
after_exit r successful_exit crashed =
    if r.is_removing || is_spent r then Leaves
    else (if wants_anyway r.wants then Starts
    else (if is_some successful_exit || is_some crashed then Depends else Idles))
