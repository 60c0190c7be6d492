-- What a job is doing, by its reasons alone.
use Rattle.std.specs.Prelude.{Bool, false, ◌||◌, Option, Some, None, is_some}
use Rattle.history_model.specs.declared.JobState.{JobState}
use Rattle.history_model.specs.declared.reasons.Reasons.{Reasons}
use Rattle.history_model.specs.declared.reasons.StandingChild.{StandingChild}
use Rattle.history_model.specs.Kinds.{is_some_spawn}
use Rattle.history_model.specs.Shown.{state_when}

-- the end of the child was asked for
abbrev pub is_ending : Option StandingChild → Bool
is_ending None = false
is_ending (Some child) = child.is_stopped || child.is_struck

-- the state that `print` shows, from the same facts
abbrev pub state_by_reasons : Reasons → JobState
state_by_reasons r =
    state_when r.is_removing (is_some_spawn r.awaited) (is_some r.child) (is_ending r.child)
