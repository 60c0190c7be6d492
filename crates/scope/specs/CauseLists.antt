-- The causes of a job one after the other, as they are added. What the list comes to is `AreCauses`
-- of `Causes`.
use Rattle.std.specs.Prelude.{ℕ, Bool, true, false, not, List, [], ◌∷◌, ◌++◌, Option, Some, None, nat_lt}
use Rattle.history_model.specs.declared.Act.{Act}
use Rattle.history_model.specs.declared.reasons.Wants.{Wants}
use Rattle.history_model.specs.declared.reasons.StandingChild.{StandingChild}
use Rattle.history_model.specs.declared.reasons.Reasons.{Reasons}
use Rattle.history_model.specs.Reasons.{some_want}
use Rattle.scope.specs.declared.journal.telling.JobCause.{JobCause}
use Rattle.scope.specs.declared.journal.telling.JobCause.TheVariants.{Removing, Child, Awaited, LaunchSpent, RunsSpent, Throttled, NotWanted, Demand, Connections, KeepAlive, SuccessfulExit, Crashed, PathState, QueueDirectories}

-- the cause, if it holds
abbrev pub when : Bool → JobCause → List JobCause
when true cause = cause ∷ []
when false cause = []

-- the cause of the value, if there is one
abbrev pub child_in : Option StandingChild → List JobCause
child_in None = []
child_in (Some child) = Child child ∷ []

abbrev pub awaited_in : Option Act → List JobCause
awaited_in None = []
awaited_in (Some act) = Awaited act ∷ []

abbrev pub throttle_in : Option ℕ → List JobCause
throttle_in None = []
throttle_in (Some up) = Throttled up ∷ []

-- what keeps it from a start
abbrev pub causes_holding : Reasons → List JobCause
causes_holding r =
    when r.is_removing Removing ++ child_in r.child ++ awaited_in r.awaited
    ++ when r.is_launch_spent LaunchSpent ++ when r.are_runs_spent RunsSpent
    ++ throttle_in r.throttled_until

-- what wants it, or that nothing does
abbrev pub causes_wanting : Wants → List JobCause
causes_wanting w =
    when w.demand Demand ++ when (nat_lt 0 w.connections) (Connections w.connections)
    ++ when w.keep_alive KeepAlive ++ when w.successful_exit SuccessfulExit
    ++ when w.crashed Crashed ++ when w.path_state PathState
    ++ when w.queue_directories QueueDirectories ++ when (not (some_want w)) NotWanted
