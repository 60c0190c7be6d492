-- Which causes `why` leaves out of its text, since they can't matter.
use Rattle.std.specs.List.{filter}
use Rattle.std.specs.Prelude.{◌≡◌, ◌||◌, Bool, false, List, is_some, not}
use Rattle.history_model.specs.declared.reasons.Reasons.{Reasons}
use Rattle.scope.specs.Causes.{AreCauses}
use Rattle.scope.specs.declared.journal.telling.JobCause.{JobCause}
use Rattle.scope.specs.declared.journal.telling.JobCause.TheVariants.{Removing, Child, Awaited, LaunchSpent, RunsSpent, Throttled, NotWanted, Demand, Connections, KeepAlive, SuccessfulExit, Crashed, PathState, QueueDirectories}

-- no start can come of the load any more: it was launched once and for all, or its runs are used up
abbrev pub is_spent : Reasons → Bool
is_spent r = r.is_launch_spent || r.are_runs_spent

-- While a run is running, the throttle is left out, and that nothing wants the job. Once no start can come of the load,
-- they are left out too, and so is what wants the job. All else is shown.
abbrev pub is_left_out : Reasons → JobCause → Bool
is_left_out r (Throttled up) = is_some r.child || is_spent r
is_left_out r NotWanted = is_some r.child || is_spent r
is_left_out r Demand = is_spent r
is_left_out r (Connections count) = is_spent r
is_left_out r KeepAlive = is_spent r
is_left_out r SuccessfulExit = is_spent r
is_left_out r Crashed = is_spent r
is_left_out r PathState = is_spent r
is_left_out r QueueDirectories = is_spent r
is_left_out r Removing = false
is_left_out r (Child child) = false
is_left_out r (Awaited act) = false
is_left_out r LaunchSpent = false
is_left_out r RunsSpent = false

abbrev pub is_shown : Reasons → JobCause → Bool
is_shown r cause = not (is_left_out r cause)

-- these are all causes that the reasons say, in order, but for those that are left out
abbrev pub AreShown : Reasons → List JobCause → Type 0
AreShown r shown = (all : List JobCause) × AreCauses r all × (shown ≡ filter (is_shown r) all)
